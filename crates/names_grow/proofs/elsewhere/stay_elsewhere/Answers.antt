use Rattle.std.proofs.Common.{arith}
use Rattle.names_grow.proofs.Changes.{all_stay}
use Rattle.names_grow.proofs.elsewhere.stay_elsewhere.Goals as goal

pub returns-clause-same : goal.returns-clause-same
returns-clause-same c _ = all_stay c.args.number c.args.records.now c.args.others.now c.requires.longer (λ k below. c.loop-at.invariant k (omega (arith, below, c.loop-at-test.false)))
