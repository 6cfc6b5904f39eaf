use Rattle.made_steps.proofs.Timing.{times_keep}
use Rattle.made_steps.proofs.laws.times_keep_index.Goals as goal

pub returns : goal.returns
returns c = times_keep c.times_are_set.ensures
