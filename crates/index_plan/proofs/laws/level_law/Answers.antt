use Rattle.index_plan.proofs.Levels.{level_law}
use Rattle.index_plan.proofs.laws.level_law.Goals as goal

pub returns : goal.returns
returns c = level_law
