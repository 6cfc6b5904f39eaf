use Rattle.bit_set.proofs.Members.{same_members}
use Rattle.bit_set.proofs.laws.same_members_same_bits.Goals as goal

pub returns : goal.returns
returns c = same_members
