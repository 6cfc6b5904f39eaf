use Rattle.node_spreads.proofs.Raising.{levels_lift}
use Rattle.node_spreads.proofs.laws.levels_lift.Goals as goal

pub returns : goal.returns
returns c = levels_lift
