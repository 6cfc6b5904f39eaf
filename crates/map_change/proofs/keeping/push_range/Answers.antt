use Rattle.std.proofs.Common.{arith}
use Rattle.map_change.proofs.Places.{pushed_range}
use Rattle.map_change.proofs.keeping.push_range.Goals as goal

pub loop-number-preserved : goal.loop-number-preserved
loop-number-preserved c = pushed_range c.loop-number.numbers.items c.push.new.self.items _ c.loop-number.number c.args.end (omega (arith, c.loop-number-test.true)) c.in_ok-push.ensures.items c.loop-number.invariant
