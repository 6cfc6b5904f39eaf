use Rattle.volume_map.proofs.Fronts.{bits_known}
use Rattle.map_change.proofs.bits.front_bits.Goals as goal

pub returns-clause-value : goal.returns-clause-value
returns-clause-value g c = bits_known _ c.args.per c.args.stream.now _ c.args.count _ _ c.requires.enough c.in_ok-front.ensures.bytes c.in_ok-from_bytes.ensures
