use Rattle.format_blocks.proofs.Bodies.{blocks_read}
use Rattle.format_blocks.proofs.laws.new_blocks_are_read.Goals as goal

pub returns : goal.returns
returns c = blocks_read
