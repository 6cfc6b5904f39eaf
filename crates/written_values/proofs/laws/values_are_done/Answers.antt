use Rattle.written_values.proofs.Valuing.{values_done}
use Rattle.written_values.proofs.laws.values_are_done.Goals as goal

pub returns : goal.returns
returns c = values_done c.times_are_set.ensures
