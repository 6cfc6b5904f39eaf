use Rattle.written_clusters.proofs.Longer.{longer_done}
use Rattle.written_clusters.proofs.laws.longer_is_done.Goals as goal

pub returns : goal.returns
returns c = longer_done c.times_are_set.ensures
