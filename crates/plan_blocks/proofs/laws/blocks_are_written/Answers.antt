use Rattle.plan_blocks.proofs.Making.{blocks_written}
use Rattle.plan_blocks.proofs.laws.blocks_are_written.Goals as goal

pub returns : goal.returns
returns c = blocks_written
