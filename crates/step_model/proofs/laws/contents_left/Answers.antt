use Rattle.step_model.proofs.Leaving.{contents_left}
use Rattle.step_model.proofs.laws.contents_left.Goals as goal

pub returns : goal.returns
returns c = contents_left
