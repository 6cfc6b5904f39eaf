use Rattle.index_plan.proofs.Whole.{insert_law}
use Rattle.index_plan.proofs.laws.insert_law.Goals as goal

pub returns : goal.returns
returns c = insert_law
