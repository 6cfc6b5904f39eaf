use Rattle.made_trees.proofs.Nothing.{file_is_there}
use Rattle.made_trees.proofs.laws.made_files_are_trees.Goals as goal

pub returns : goal.returns
returns c = file_is_there c.times_are_set.ensures c.new_file_reads.ensures
