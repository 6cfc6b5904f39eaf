use Rattle.std.proofs.lemmas.Result.{err_from_is_err_and}
use Rattle.change_plan.proofs.Ending.{fault_found}
use Rattle.change_plan.proofs.drafting.file_plan.Goals as goal

pub returns-in_err-room-clause-plans : goal.returns-in_err-room-clause-plans
returns-in_err-room-clause-plans g c =
    let p = err_from_is_err_and c.from_residual.result c.from_residual.ensures.1 in
    rw p.1 (fault_found c.changes_are_steps.ensures (g.V.View.content c.args.view.now) c.args.streams.now c.args.op.now c.args.node.now c.args.stamp c.args.map.now.cluster_bits p.0)
