use Rattle.index_plan.proofs.Growing.{regrown_held}
use Rattle.index_plan.proofs.laws.regrown_numbers.Goals as goal

pub returns : goal.returns
returns c = regrown_held
