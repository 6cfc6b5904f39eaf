use Rattle.std.proofs.Common.{◌-◌, length, ap, sym, ◌∙◌, arith}
use Rattle.std.specs.Borrow.{Bor}
use Rattle.log_reading.specs.disk_model.Writes.{bytes_after}
use Rattle.log_model.specs.declared.entry.Entry.{Entry}
use Rattle.log_model.specs.Logs.{undo_of}
use Rattle.log_recovery.proofs.Walking.{undone_more}
use Rattle.log_recovery.proofs.making.undo.Goals as goal

pub loop-done-preserved : goal.loop-done-preserved
loop-done-preserved c =
    let log = c.args.entries.now in
    let entry = c.index-entries-last.result in
    record {
      rest = undone_more log c.loop-done.done (length log - 1 - c.loop-done.done) entry c.args.block c.loop-done.out.bytes c.undo_act.new.out.bytes _ (omega arith) c.index-entries-last.is (c.undo_act.ensures.bytes ∙ ap (λ (x : Bor Entry). bytes_after (undo_of x.now.act) c.args.block c.loop-done.out.bytes) (sym c.index-entries-last.is)) c.loop-done.invariant.rest;
      torn = c.undo_act.ensures.torn ∙ c.loop-done.invariant.torn;
      size = c.undo_act.ensures.size;
    }
