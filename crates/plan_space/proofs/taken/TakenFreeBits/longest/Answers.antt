use Rattle.std.proofs.Common.{subst, arith}
use Rattle.space_model.specs.bit_set.Bits.{IsClearRun}
use Rattle.plan_space.specs.Spans.{with_spans}
use Rattle.plan_space.proofs.Spanning.{longest_found, none_longer, all_set_with, all_set_without, halves}
use Rattle.plan_space.proofs.taken.TakenFreeBits.longest.Goals as goal

pub loop-least-init : goal.loop-least-init
loop-least-init c = record { order = omega arith; found = λ some. absurd (omega (arith, some)); none = λ i run. none_longer c.args.self.now.spans.items c.args.self.now.base.now c.in-Some.field-0-0 c.in-Some.most i c.in-Some.ensures run }

pub loop-least-preserved : goal.loop-least-preserved
loop-least-preserved c = record {
  order = omega (arith, c.loop-least-test.true);
  found = c.loop-least.invariant.found;
  none = λ i run. c.in-None.ensures i (subst (IsClearRun (with_spans c.args.self.now.spans.items c.args.self.now.base.now) i) (halves c.loop-least.least c.loop-least.most c.loop-least-test.true) run);
}

pub returns-then-least-eq0 : goal.returns-then-least-eq0
returns-then-least-eq0 c = all_set_with _ c.loop-least.most (omega (arith, c.loop-least.invariant.order, c.loop-least-test.false, c.if-least-eq0.true)) c.loop-least.invariant.none

pub returns-in_default : goal.returns-in_default
returns-in_default c = all_set_without c.args.self.now.spans.items c.args.self.now.base.now c.in_default.ensures

pub returns : goal.returns
returns c =
    longest_found _ c.loop-least.at c.loop-least.least (omega (arith, c.if-least-eq0.false)) (c.loop-least.invariant.found (omega (arith, c.if-least-eq0.false)))
    (λ i run. c.loop-least.invariant.none i (subst (IsClearRun (with_spans c.args.self.now.spans.items c.args.self.now.base.now) i) (omega (arith, c.loop-least.invariant.order, c.loop-least-test.false)) run))
