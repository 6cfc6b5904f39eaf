use Rattle.log_record.proofs.Appended.{zero_pushed, no_zero}
use Rattle.log_record.proofs.writing.push_zeros.Goals as goal

pub loop-init : goal.loop-init
loop-init c = no_zero c.args.out.now.items

pub loop-preserved : goal.loop-preserved
loop-preserved c = zero_pushed c.args.out.now.items c.loop.out.items _ c.loop.counter c.loop.invariant c.in_ok-push.ensures.items
