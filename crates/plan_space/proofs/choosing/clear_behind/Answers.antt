use Rattle.std.proofs.Common.{◌+◌, sym, arith}
use Rattle.plan_space.proofs.Stepping.{one_more_clear, ends_there, set_there, counted_behind}
use Rattle.plan_space.proofs.choosing.clear_behind.Goals as goal

pub returns-else-not-test-clause-value : goal.returns-else-not-test-clause-value
returns-else-not-test-clause-value g c = sym (counted_behind _ c.args.last c.args.most c.loop-count.count c.loop-count.invariant.clear c.loop-count.invariant.few (λ more. set_there _ (c.args.last + 1) c.loop-count.count (sym c.if-not-test.ensures)))

pub returns-else-count-left-clause-value : goal.returns-else-count-left-clause-value
returns-else-count-left-clause-value g c = sym (counted_behind _ c.args.last c.args.most c.loop-count.count c.loop-count.invariant.clear c.loop-count.invariant.few (λ more. ends_there _ (c.args.last + 1) c.loop-count.count (omega (arith, c.if-count-left.false, c.len.ensures, c.requires))))

pub returns-after-loop-count-clause-value : goal.returns-after-loop-count-clause-value
returns-after-loop-count-clause-value g c = sym (counted_behind _ c.args.last c.args.most c.loop-count.count c.loop-count.invariant.clear c.loop-count.invariant.few (λ more longer. absurd (omega (arith, more, c.loop-count-test.false))))

pub loop-count-preserved : goal.loop-count-preserved
loop-count-preserved g c = record {
  few = omega (arith, c.loop-count-test.true);
  clear = one_more_clear _ (c.args.last + 1) c.loop-count.count c.loop-count.invariant.clear (omega (arith, c.if-count-left.true, c.len.ensures, c.requires)) (sym c.if-not-test.ensures);
}
