use Rattle.draft_bits.proofs.BitEffects.{bits_put}
use Rattle.draft_bits.proofs.laws.bits_are_put.Goals as goal

pub returns : goal.returns
returns c = bits_put
