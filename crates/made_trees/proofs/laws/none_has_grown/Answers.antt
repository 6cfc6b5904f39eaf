use Rattle.made_trees.proofs.Nothing.{none_grown}
use Rattle.made_trees.proofs.laws.none_has_grown.Goals as goal

pub returns : goal.returns
returns c = none_grown
