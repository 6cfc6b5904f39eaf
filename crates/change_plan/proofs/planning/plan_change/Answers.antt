use Rattle.std.proofs.lemmas.Result.{err_from_is_err_and}
use Rattle.found_files.specs.volume_map.Maps.{volume_in}
use Rattle.change_plan.proofs.Leading.{found_plans, found_known, failed_plans, failed_known}
use Rattle.change_plan.proofs.planning.plan_change.Goals as goal

pub returns-in_err-found-clause-plans : goal.returns-in_err-found-clause-plans
returns-in_err-found-clause-plans g c =
    let p = err_from_is_err_and c.from_residual.result c.from_residual.ensures.1 in
    rw (p.1, p.2) (failed_plans c.changes_are_steps.ensures (g.V.View.content c.args.view.now) c.args.up.now (volume_in c.args.volume.now.map.now) c.args.streams.now c.args.op.now c.args.stamp _ c.requires.changes)

pub returns-in_err-found-clause-known : goal.returns-in_err-found-clause-known
returns-in_err-found-clause-known g c =
    let p = err_from_is_err_and c.from_residual.result c.from_residual.ensures.1 in
    rw (p.1, p.2) (failed_known (g.V.View.content c.args.view.now) c.args.up.now (volume_in c.args.volume.now.map.now) c.args.streams.now c.args.op.now _ c.in_err-found.ensures.value)

pub returns-clause-plans : goal.returns-clause-plans
returns-clause-plans g c =
    found_plans (g.V.View.content c.args.view.now) c.args.up.now c.args.volume.now.map.now c.args.streams.now c.args.op.now c.args.stamp c.in_ok-found.found c.planned.result c.requires.changes (g.met.V.View.sized c.args.view.now) c.requires.mapped c.in_ok-found.ensures.value
    (rw c.in_ok-found.ensures.asks.same at c.planned.ensures.plans)

pub returns-clause-known : goal.returns-clause-known
returns-clause-known g c =
    found_known (g.V.View.content c.args.view.now) c.args.up.now c.args.volume.now.map.now c.args.streams.now c.args.op.now c.in_ok-found.found c.planned.result c.requires.changes (g.met.V.View.sized c.args.view.now) c.requires.mapped c.in_ok-found.ensures.value
    (rw c.in_ok-found.ensures.asks.same at c.planned.ensures.known)
