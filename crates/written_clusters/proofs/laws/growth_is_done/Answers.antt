use Rattle.written_clusters.proofs.Growing.{growth_done}
use Rattle.written_clusters.proofs.laws.growth_is_done.Goals as goal

pub returns : goal.returns
returns c = growth_done c.times_are_set.ensures
