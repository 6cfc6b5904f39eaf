use Rattle.std.proofs.Common.{arith}
use Rattle.attr_codec.proofs.Pushed.{bytes_pushed}
use Rattle.attr_codec.proofs.pushing.push_filled.Goals as goal

pub returns : goal.returns
returns c = bytes_pushed c.args.out.now.items _ _ c.args.bytes.now _ c.in_ok-extend_from_slice.ensures.items c.in_ok-push_zeros.ensures (omega (arith, c.up8.ensures))
