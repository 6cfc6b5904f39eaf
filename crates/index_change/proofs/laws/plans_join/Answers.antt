use Rattle.index_change.proofs.Joining.{plans_join}
use Rattle.index_change.proofs.laws.plans_join.Goals as goal

pub returns : goal.returns
returns c = plans_join
