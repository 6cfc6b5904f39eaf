use Rattle.bit_set.proofs.Members.{contains-members}
use Rattle.bit_set.proofs.laws.members_are_set_bits.Goals as goal

pub returns : goal.returns
returns c = contains-members
