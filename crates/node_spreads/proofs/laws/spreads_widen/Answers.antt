use Rattle.node_spreads.proofs.Widening.{spreads_wider}
use Rattle.node_spreads.proofs.laws.spreads_widen.Goals as goal

pub returns : goal.returns
returns c = spreads_wider
