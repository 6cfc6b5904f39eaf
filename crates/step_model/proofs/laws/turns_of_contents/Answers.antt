use Rattle.step_model.proofs.Stepping.{turns_of_contents}
use Rattle.step_model.proofs.laws.turns_of_contents.Goals as goal

pub returns : goal.returns
returns c = turns_of_contents
