use Rattle.written_values.proofs.Cutting.{cuts_done}
use Rattle.written_values.proofs.laws.cuts_are_done.Goals as goal

pub returns : goal.returns
returns c = cuts_done c.times_are_set.ensures
