use Rattle.makes_keep.proofs.Welcoming.{stays_welcome}
use Rattle.makes_keep.proofs.laws.made_stays_welcome.Goals as goal

pub returns : goal.returns
returns c = stays_welcome c.times_are_set.ensures c.new_file_reads.ensures
