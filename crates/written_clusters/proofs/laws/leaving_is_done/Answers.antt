use Rattle.written_clusters.proofs.Moving.{leaving_done}
use Rattle.written_clusters.proofs.laws.leaving_is_done.Goals as goal

pub returns : goal.returns
returns c = leaving_done c.times_are_set.ensures
