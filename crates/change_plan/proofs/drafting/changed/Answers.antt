use Rattle.change_plan.proofs.Asking.{never_refused}
use Rattle.change_plan.proofs.Ending.{plans_asked, ends_known_asked}
use Rattle.change_plan.proofs.drafting.changed.Goals as goal

pub returns-then-not-branch-clause-known : goal.returns-then-not-branch-clause-known
returns-then-not-branch-clause-known g c =
    never_refused c.found_may_write.ensures (g.V.View.content c.args.draft.now.view.now) c.args.streams.now c.args.op.now c.args.node.now c.args.file.now (g.B.FreeBits.bits c.args.bits.now) c.in_ok-may_change.field-0 c.requires.fits c.requires.bounds c.if-not-branch.true (rw c.len.ensures at c.in_ok-may_change.ensures.may)

pub returns-clause-plans : goal.returns-clause-plans
returns-clause-plans g c =
    plans_asked c.changes_are_steps.ensures (g.V.View.content c.args.draft.now.view.now) c.args.streams.now c.args.op.now c.args.node.now c.args.stamp c.args.file.now (g.B.FreeBits.bits c.args.bits.now) c.args.draft.now.touched.items c.change_any_file-written.new.draft.touched.items c.change_any_file-written.result c.ended.result
    c.requires.none c.change_any_file-written.ensures.changes.step c.change_any_file-written.ensures.changes.written (rw c.change_any_file-written.ensures.asks.same at c.ended.ensures)

pub returns-clause-known : goal.returns-clause-known
returns-clause-known g c =
    ends_known_asked (g.V.View.content c.args.draft.now.view.now) c.args.streams.now c.args.op.now c.args.node.now c.args.stamp c.args.file.now (g.B.FreeBits.bits c.args.bits.now) c.args.draft.now.touched.items c.change_any_file-written.new.draft.touched.items c.change_any_file-written.result c.ended.result
    c.requires.none c.change_any_file-written.ensures.changes.step (rw c.change_any_file-written.ensures.asks.same at c.ended.ensures)
