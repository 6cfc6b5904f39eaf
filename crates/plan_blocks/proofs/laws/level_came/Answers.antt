use Rattle.plan_blocks.proofs.Levels.{level_came}
use Rattle.plan_blocks.proofs.laws.level_came.Goals as goal

pub returns : goal.returns
returns c = level_came
