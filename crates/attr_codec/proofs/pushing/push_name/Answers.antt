use Rattle.std.proofs.Common.{arith}
use Rattle.attr_codec.proofs.Pushed.{name_pushed}
use Rattle.attr_codec.proofs.pushing.push_name.Goals as goal

pub returns : goal.returns
returns c = name_pushed c.args.out.now.items _ _ c.args.name.now c.args.header _ c.in_ok-push_units.ensures c.in_ok-push_zeros.ensures (omega (arith, c.up8.ensures))
