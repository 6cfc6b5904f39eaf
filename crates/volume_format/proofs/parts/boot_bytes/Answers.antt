use Rattle.std.proofs.Common.{inr, refl, arith}
use Rattle.volume_format.proofs.parts.boot_bytes.Goals as goal

pub write-requires-clause-fits : goal.write-requires-clause-fits
write-requires-clause-fits c = record {
  profile = record { per_cluster = inr (inr (inr refl)); mft = omega arith; mirror = omega arith; small = omega arith };
  serial = c.ranges.seed.fits;
}
