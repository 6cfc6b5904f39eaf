use Rattle.crash_trees.proofs.Reading.{trees_show}
use Rattle.crash_trees.proofs.laws.trees_show.Goals as goal

pub returns : goal.returns
returns c = trees_show c.needed_is_all.ensures
