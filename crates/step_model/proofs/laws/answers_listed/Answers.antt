use Rattle.step_model.proofs.Stepping.{answers_listed}
use Rattle.step_model.proofs.laws.answers_listed.Goals as goal

pub returns : goal.returns
returns c = answers_listed
