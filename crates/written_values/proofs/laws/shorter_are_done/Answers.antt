use Rattle.written_values.proofs.Shortening.{shorter_done}
use Rattle.written_values.proofs.laws.shorter_are_done.Goals as goal

pub returns : goal.returns
returns c = shorter_done c.times_are_set.ensures
