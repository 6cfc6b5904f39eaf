use Rattle.std.proofs.Common.{rules, ◌≡◌, None, sym, ◌∙◌}
use Rattle.disk_model.specs.declared.block.BlockKind.TheVariants.{FileRec}
use Rattle.stream_map.proofs.Reading.{kind-block_at}
use Rattle.file_puts.specs.draft_records.Records.{record_block}
use Rattle.file_makes.proofs.Lsns.{at_past, at_none}
use Rattle.file_makes.proofs.lsn.lsn_at.Goals as goal

pub returns-then-is_past-clause-lsn : goal.returns-then-is_past-clause-lsn
returns-then-is_past-clause-lsn g c =
    at_past (g.V.View.content c.args.draft.now.view.now) c.args.draft.now.touched.items c.args.per c.args.table.now c.args.number (sym c.is_past.ensures ∙ c.if-is_past.true)

pub lsn_in-requires : goal.lsn_in-requires
lsn_in-requires g c = kind-block_at c.args.per _ FileRec _ c.in-Some.block c.in-Some.ensures

pub returns-in-None-clause-lsn : goal.returns-in-None-clause-lsn
returns-in-None-clause-lsn g c =
    let nowhere : None ≡ record_block c.args.per c.args.table.now c.args.number = search rules in
    at_none (g.V.View.content c.args.draft.now.view.now) c.args.draft.now.touched.items c.args.per c.args.table.now c.args.number (sym c.is_past.ensures ∙ c.if-is_past.false) nowhere
