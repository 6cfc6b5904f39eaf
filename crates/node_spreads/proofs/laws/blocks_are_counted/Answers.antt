use Rattle.node_spreads.proofs.Counting.{blocks_counted}
use Rattle.node_spreads.proofs.laws.blocks_are_counted.Goals as goal

pub returns : goal.returns
returns c = blocks_counted
