use Rattle.std.proofs.Common.{List, Option, sym, ap, ◌∙◌, arith}
use Rattle.volume_map.specs.record_model.Records.{Record}
use Rattle.volume_map.specs.state_model.Files.{file_at}
use Rattle.volume_map.specs.state_model.Loads.{table_in}
use Rattle.map_change.specs.Parts.{live_parts}
use Rattle.map_change.proofs.After.{none_after, put_after, stays_after}
use Rattle.map_change.proofs.bits.file_after.Goals as goal

pub returns-then-number-table : goal.returns-then-number-table
returns-then-number-table c = none_after c.args.records.now c.args.table.now (live_parts c.args.live.now) c.args.number (omega (arith, c.if-number-table.true))

pub returns-in-Some : goal.returns-in-Some
returns-in-Some c = c.only_base.ensures ∙ put_after c.args.records.now c.args.table.now (live_parts c.args.live.now) c.args.number (omega (arith, c.if-number-table.false)) c.in-Some.change.now (sym c.in-Some.ensures)

pub returns-in-None : goal.returns-in-None
returns-in-None c =
    c.file_at.ensures.value
    ∙ ap (λ (l : List (Option Record)). file_at (table_in l) c.args.number) c.deref.ensures.value
    ∙ stays_after c.args.records.now c.args.table.now (live_parts c.args.live.now) c.args.number (omega (arith, c.if-number-table.false)) (sym c.in-None.ensures)
