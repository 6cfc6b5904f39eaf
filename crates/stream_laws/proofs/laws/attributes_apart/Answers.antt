use Rattle.stream_laws.proofs.Sharing.{runs_of_attrs, attrs_apart, attr_blocks_apart}
use Rattle.stream_laws.proofs.laws.attributes_apart.Goals as goal

pub returns : goal.returns
returns c = record { runs = runs_of_attrs; clusters = attrs_apart; blocks = attr_blocks_apart }
