use Rattle.attr_codec.proofs.Spelled.{read_spelled}
use Rattle.attr_codec.proofs.laws.read_is_spelled.Goals as goal

pub returns : goal.returns
returns c = read_spelled
