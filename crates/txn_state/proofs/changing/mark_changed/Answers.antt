use Rattle.std.proofs.Common.{ap, ◌∙◌}
use Rattle.txn_log.specs.store_pools.Pools.{marks_of}
use Rattle.txn_log.specs.txn_model.Calls.{changed_mark}
use Rattle.txn_state.proofs.Facts.{out_marks}
use Rattle.txn_state.proofs.changing.mark_changed.Goals as goal

pub returns : goal.returns
returns c =
    let marks = marks_of c.args.marks.now in
    out_marks (changed_mark c.args.until) c.args.block c.changed-mark.result marks marks (marks_of c.set_mark.new.marks) (c.changed-mark.ensures ∙ ap (changed_mark c.args.until) c.mark_of.ensures) c.set_mark.ensures
