use Rattle.attr_codec.proofs.Pushed.{zero_pushed, no_zero}
use Rattle.attr_codec.proofs.pushing.push_zeros.Goals as goal

pub loop-init : goal.loop-init
loop-init c = no_zero c.args.out.now.items

pub loop-preserved : goal.loop-preserved
loop-preserved c = zero_pushed c.args.out.now.items c.loop.out.items _ c.loop.counter c.loop.invariant c.in_ok-push.ensures.items
