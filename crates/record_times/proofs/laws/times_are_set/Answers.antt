use Rattle.record_times.proofs.Fitting.{times_set}
use Rattle.record_times.proofs.laws.times_are_set.Goals as goal

pub returns : goal.returns
returns c = times_set
