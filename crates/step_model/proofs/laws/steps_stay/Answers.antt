use Rattle.step_model.proofs.Stepping.{steps_stay}
use Rattle.step_model.proofs.laws.steps_stay.Goals as goal

pub returns : goal.returns
returns c = steps_stay
