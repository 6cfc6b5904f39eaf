use Rattle.plan_draft.proofs.Same.{in_order}
use Rattle.plan_draft.proofs.laws.bodies_in_order.Goals as goal

pub returns : goal.returns
returns c = in_order
