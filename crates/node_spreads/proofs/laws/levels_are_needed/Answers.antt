use Rattle.node_spreads.proofs.Rising.{levels_needed}
use Rattle.node_spreads.proofs.laws.levels_are_needed.Goals as goal

pub returns : goal.returns
returns c = levels_needed
