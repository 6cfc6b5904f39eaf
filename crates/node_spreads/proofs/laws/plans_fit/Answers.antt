use Rattle.node_spreads.proofs.Raising.{plans_fit}
use Rattle.node_spreads.proofs.laws.plans_fit.Goals as goal

pub returns : goal.returns
returns c = plans_fit
