use Rattle.step_model.proofs.Placed.{placed_once}
use Rattle.step_model.proofs.laws.placed_once.Goals as goal

pub returns : goal.returns
returns c = placed_once
