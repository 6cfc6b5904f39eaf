use Rattle.raised_steps.proofs.Taking.{takes_alike}
use Rattle.raised_steps.proofs.laws.takes_alike.Goals as goal

pub returns : goal.returns
returns c = takes_alike
