use Rattle.std.proofs.lemmas.Result.{err_from_is_err_and}
use Rattle.std.proofs.Common.{Err}
use Rattle.change_plan.specs.declared.fault.PlanFault.TheVariants.{Unknown}
use Rattle.change_plan.proofs.Ending.{fault_found, record_plans, record_known, no_record}
use Rattle.change_plan.proofs.drafting.drafted_plan.Goals as goal

pub returns-in_err-found-clause-plans : goal.returns-in_err-found-clause-plans
returns-in_err-found-clause-plans g c =
    let p = err_from_is_err_and c.from_residual.result c.from_residual.ensures.1 in
    rw p.1 (fault_found c.changes_are_steps.ensures (g.V.View.content c.args.draft.now.view.now) c.args.streams.now c.args.op.now c.args.node.now c.args.stamp (g.B.FreeBits.bits c.args.bits.now) p.0)

pub returns-in-None-clause-known : goal.returns-in-None-clause-known
returns-in-None-clause-known g c =
    no_record c.files_are_read.ensures (g.V.View.content c.args.draft.now.view.now) c.args.streams.now c.args.op.now c.args.node.now (g.B.FreeBits.bits c.args.bits.now) c.args.per c.args.draft.now.touched.items c.in_ok-found.found (Err Unknown)
    c.requires.per c.requires.none c.in_ok-found.ensures.file c.in-None.is

pub returns-in-Some-clause-plans : goal.returns-in-Some-clause-plans
returns-in-Some-clause-plans g c =
    record_plans c.files_are_read.ensures (g.V.View.content c.args.draft.now.view.now) c.args.streams.now c.args.op.now c.args.node.now c.args.stamp (g.B.FreeBits.bits c.args.bits.now) c.args.per c.args.draft.now.touched.items c.in_ok-found.found c.in-Some.file c.changed.result
    c.requires.per c.requires.none c.in_ok-found.ensures.file c.in-Some.is (rw c.in_ok-found.ensures.asks.same at c.changed.ensures.plans)

pub returns-in-Some-clause-known : goal.returns-in-Some-clause-known
returns-in-Some-clause-known g c =
    record_known c.files_are_read.ensures (g.V.View.content c.args.draft.now.view.now) c.args.streams.now c.args.op.now c.args.node.now (g.B.FreeBits.bits c.args.bits.now) c.args.per c.args.draft.now.touched.items c.in_ok-found.found c.in-Some.file c.changed.result
    c.requires.per c.requires.none c.in_ok-found.ensures.file c.in-Some.is (rw c.in_ok-found.ensures.asks.same at c.changed.ensures.known)
