use Rattle.step_model.proofs.Spreading.{plans_spread}
use Rattle.step_model.proofs.laws.plans_spread.Goals as goal

pub returns : goal.returns
returns c = plans_spread
