use Rattle.std.proofs.Common.{arith}
use Rattle.plan_space.proofs.Stepping.{all_taken, all_set_now}
use Rattle.plan_space.proofs.choosing.take_anywhere.Goals as goal

pub returns-clause-runs : goal.returns-clause-runs
returns-clause-runs g c = all_taken _ _ _ _ _ (omega (arith, c.loop-taken.invariant.few, c.loop-taken-test.false)) c.loop-taken.invariant.runs

pub returns-clause-bits : goal.returns-clause-bits
returns-clause-bits g c = all_set_now _ _ _ _ (omega (arith, c.loop-taken.invariant.few, c.loop-taken-test.false)) c.loop-taken.invariant.bits
