use Rattle.index_plan.proofs.Growing.{regrown_walk}
use Rattle.index_plan.proofs.laws.regrown_walk.Goals as goal

pub returns : goal.returns
returns c = regrown_walk
