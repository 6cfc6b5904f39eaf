use Rattle.step_model.proofs.Stepping.{steps_of_trees}
use Rattle.step_model.proofs.laws.steps_of_trees.Goals as goal

pub returns : goal.returns
returns c = steps_of_trees
