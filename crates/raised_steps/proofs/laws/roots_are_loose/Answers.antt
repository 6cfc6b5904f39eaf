use Rattle.raised_steps.proofs.Taking.{roots_are_loose}
use Rattle.raised_steps.proofs.laws.roots_are_loose.Goals as goal

pub returns : goal.returns
returns c = roots_are_loose
