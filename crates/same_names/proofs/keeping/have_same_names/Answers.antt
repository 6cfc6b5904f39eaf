use Rattle.std.proofs.Common.{arith}
use Rattle.same_names.proofs.Alike.{all_alike}
use Rattle.same_names.proofs.keeping.have_same_names.Goals as goal

pub returns-clause-same : goal.returns-clause-same
returns-clause-same c _ = all_alike c.args.records.now c.args.others.now (omega (arith, c.if-others-records.false)) (λ n below. c.loop-number.invariant n (omega (arith, below, c.loop-number-test.false)))
