use Rattle.plan_blocks.proofs.Roots.{roots_written}
use Rattle.plan_blocks.proofs.laws.roots_are_written.Goals as goal

pub returns : goal.returns
returns c = roots_written
