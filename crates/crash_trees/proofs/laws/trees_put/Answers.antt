use Rattle.crash_trees.proofs.Putting.{trees_put}
use Rattle.crash_trees.proofs.laws.trees_put.Goals as goal

pub returns : goal.returns
returns c = trees_put c.needed_is_all.ensures c.puts_rest.ensures
