use Rattle.step_model.proofs.Planning.{plans_placed}
use Rattle.step_model.proofs.laws.plans_placed.Goals as goal

pub returns : goal.returns
returns c = plans_placed
