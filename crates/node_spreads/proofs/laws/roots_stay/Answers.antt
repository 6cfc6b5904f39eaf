use Rattle.node_spreads.proofs.Raising.{roots_stay}
use Rattle.node_spreads.proofs.laws.roots_stay.Goals as goal

pub returns : goal.returns
returns c = roots_stay
