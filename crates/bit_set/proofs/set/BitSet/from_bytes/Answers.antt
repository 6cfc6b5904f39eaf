use Rattle.std.proofs.Common.{arith}
use Rattle.bit_set.proofs.Views.{bits_of-same}
use Rattle.bit_set.proofs.set.BitSet.from_bytes.Goals as goal

pub returns : goal.returns
returns c = bits_of-same c.in_ok-words.words.items c.args.bytes.now c.args.bits (λ i lt. c.in_ok-words.ensures.bits i (omega (arith, c.div_ceil.ensures)))
