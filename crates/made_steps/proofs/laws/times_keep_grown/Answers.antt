use Rattle.made_steps.proofs.Timing.{times_keep_grown}
use Rattle.made_steps.proofs.laws.times_keep_grown.Goals as goal

pub returns : goal.returns
returns c = times_keep_grown c.times_are_set.ensures
