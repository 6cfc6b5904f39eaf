use Rattle.std.proofs.Common.{arith, eqb-true, eq-eqb}
use Rattle.log_page.specs.declared.places.Extent.{Extent}
use Rattle.volume_start.proofs.Sums.{sectors_from, none_left}
use Rattle.volume_start.proofs.fitting.have_sectors.Goals as goal

abbrev none : Extent
none = record { first = 0; sectors = 0 }

pub loop-run-preserved : goal.loop-run-preserved
loop-run-preserved c =
    let next = sectors_from c.args.runs.now c.loop-run.run-index none c.loop-run-test.true in
    let inv = c.loop-run.invariant in
    omega (arith, next, inv)

pub returns : goal.returns
returns c =
    let none_are = none_left c.args.runs.now c.loop-run.run-index (omega (arith, c.loop-run-test.false)) in
    let inv = c.loop-run.invariant in
    (λ is. (let zero_left = eqb-true c.loop-run.left 0 is in omega (arith, none_are, inv, zero_left)), λ is. eq-eqb c.loop-run.left 0 (omega (arith, none_are, inv, is)))
