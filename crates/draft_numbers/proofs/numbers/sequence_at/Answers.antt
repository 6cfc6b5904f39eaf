use Rattle.std.proofs.Common.{rules, ◌≡◌, true, false, Option, None, sym, ◌∙◌}
use Rattle.disk_model.specs.declared.block.Block.{Block}
use Rattle.disk_model.specs.declared.block.BlockKind.TheVariants.{FileRec}
use Rattle.draft_records.proofs.stream_map.Reading.{kind-block_at}
use Rattle.draft_records.specs.Records.{record_block, is_past}
use Rattle.draft_numbers.proofs.Spares.{at_past, at_none}
use Rattle.draft_numbers.proofs.numbers.sequence_at.Goals as goal

pub returns-then-is_past-clause-sequence : goal.returns-then-is_past-clause-sequence
returns-then-is_past-clause-sequence g c =
    at_past (g.V.View.content c.args.draft.now.view.now) c.args.draft.now.touched.items c.args.per c.args.table.now c.args.number (sym c.is_past.ensures ∙ c.if-is_past.true)

pub sequence_in-requires : goal.sequence_in-requires
sequence_in-requires g c = kind-block_at c.args.per _ FileRec _ c.in-Some.block c.in-Some.ensures

pub returns-in-None-clause-sequence : goal.returns-in-None-clause-sequence
returns-in-None-clause-sequence g c =
    let nowhere : None ≡ record_block c.args.per c.args.table.now c.args.number = search rules in
    at_none (g.V.View.content c.args.draft.now.view.now) c.args.draft.now.touched.items c.args.per c.args.table.now c.args.number (sym c.is_past.ensures ∙ c.if-is_past.false) nowhere
