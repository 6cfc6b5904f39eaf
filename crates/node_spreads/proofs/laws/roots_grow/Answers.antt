use Rattle.node_spreads.proofs.Raising.{roots_grow}
use Rattle.node_spreads.proofs.laws.roots_grow.Goals as goal

pub returns : goal.returns
returns c = roots_grow
