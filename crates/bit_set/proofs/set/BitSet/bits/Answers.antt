use Rattle.std.proofs.Common.{sym}
use Rattle.bit_set.proofs.Views.{is_view}
use Rattle.bit_set.proofs.set.BitSet.bits.Goals as goal

pub returns : goal.returns
returns c = sym (is_view _ _ _ c.self.view_is).count
