use Rattle.index_plan.proofs.Whole.{remove_law}
use Rattle.index_plan.proofs.laws.remove_law.Goals as goal

pub returns : goal.returns
returns c = remove_law
