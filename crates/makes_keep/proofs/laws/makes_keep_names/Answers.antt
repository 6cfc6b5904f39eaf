use Rattle.makes_keep.proofs.Naming.{names_kept}
use Rattle.makes_keep.proofs.laws.makes_keep_names.Goals as goal

pub returns : goal.returns
returns c = names_kept c.times_are_set.ensures c.new_file_reads.ensures
