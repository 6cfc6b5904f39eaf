use Rattle.std.proofs.Common.{arith}
use Rattle.record_streams.proofs.Spelled.{total_few}
use Rattle.record_streams.proofs.attribute.placed_attr.Goals as goal

pub placed_sizes-sizes-requires : goal.placed_sizes-sizes-requires
placed_sizes-sizes-requires c = omega (arith, total_few 0 0 c.args.extents.now.runs c.requires (omega arith))
