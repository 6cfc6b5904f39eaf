use Rattle.std.proofs.Common.{arith}
use Rattle.image_open.proofs.Stretches.{less}
use Rattle.image_open.proofs.place.sectors_of.Goals as goal

pub push_sectors-requires-clause-below : goal.push_sectors-requires-clause-below
push_sectors-requires-clause-below c = omega (arith, less c.args.per c.next_vcn-next.result c.args.end c.next_vcn-next.ensures.below)
