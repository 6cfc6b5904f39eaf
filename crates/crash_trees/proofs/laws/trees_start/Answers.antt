use Rattle.crash_trees.proofs.Starting.{trees_start}
use Rattle.crash_trees.proofs.laws.trees_start.Goals as goal

pub returns : goal.returns
returns c = trees_start c.needed_is_all.ensures c.starts_rest.ensures
