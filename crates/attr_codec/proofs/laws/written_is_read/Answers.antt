use Rattle.attr_codec.proofs.Spelled.{written_read}
use Rattle.attr_codec.proofs.laws.written_is_read.Goals as goal

pub returns : goal.returns
returns c = written_read
