use Rattle.attr_codec.proofs.Spelled.{spelled_read}
use Rattle.attr_codec.proofs.laws.spelled_is_read.Goals as goal

pub returns : goal.returns
returns c = spelled_read
