use Rattle.device_blocks.proofs.Stood.{written_stands}
use Rattle.device_blocks.proofs.laws.written_word_stands.Goals as goal

pub returns : goal.returns
returns c = written_stands
