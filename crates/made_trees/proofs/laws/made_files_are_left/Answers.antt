use Rattle.made_trees.proofs.Nothing.{file_leaves}
use Rattle.made_trees.proofs.laws.made_files_are_left.Goals as goal

pub returns : goal.returns
returns c = file_leaves c.times_are_set.ensures c.new_file_reads.ensures
