use Rattle.made_trees.proofs.Going.{behind_is_there}
use Rattle.made_trees.proofs.laws.made_behind_are_trees.Goals as goal

pub returns : goal.returns
returns c = behind_is_there c.times_are_set.ensures c.new_file_reads.ensures
