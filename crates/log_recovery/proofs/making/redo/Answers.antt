use Rattle.std.proofs.Common.{Bool, ap, ◌∙◌}
use Rattle.std.specs.Ordering.{nat_cmp}
use Rattle.std.specs.BTreeSet.{contains}
use Rattle.log_reading.specs.disk_model.Writes.{bytes_after}
use Rattle.log_model.specs.Logs.{redo_of}
use Rattle.log_recovery.proofs.Walking.{redone_more}
use Rattle.log_recovery.proofs.making.redo.Goals as goal

pub loop-entry-preserved : goal.loop-entry-preserved
loop-entry-preserved c =
    let entry = c.entry-item.result in
    record {
      rest = redone_more (contains nat_cmp c.args.ended.now) c.args.entries.now c.loop-entry.entry-index entry c.args.block c.loop-entry.out.bytes c.redo_act.new.out.bytes _ c.loop-entry-test.true c.entry-item.is
          (c.redo_act.ensures.bytes ∙ ap (λ (t : Bool). bytes_after (redo_of t entry.now.act) c.args.block c.loop-entry.out.bytes) c.contains.ensures) c.loop-entry.invariant.rest;
      torn = c.redo_act.ensures.torn ∙ c.loop-entry.invariant.torn;
      size = c.redo_act.ensures.size;
    }
