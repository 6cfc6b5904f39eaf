use Rattle.made_trees.proofs.Leaving.{behind_leaves}
use Rattle.made_trees.proofs.laws.made_behind_are_left.Goals as goal

pub returns : goal.returns
returns c = behind_leaves c.times_are_set.ensures c.new_file_reads.ensures
