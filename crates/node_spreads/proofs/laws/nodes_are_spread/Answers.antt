use Rattle.node_spreads.proofs.Fitting.{nodes_spread}
use Rattle.node_spreads.proofs.laws.nodes_are_spread.Goals as goal

pub returns : goal.returns
returns c = nodes_spread
