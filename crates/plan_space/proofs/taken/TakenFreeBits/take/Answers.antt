use Rattle.std.proofs.Common.{◌≡◌, ap, not, arith, List, Bool}
use Rattle.std.specs.Prelude.{count_by}
use Rattle.plan_space.specs.Spans.{with_spans}
use Rattle.space_model.specs.Choosing.{with_run}
use Rattle.space_model.proofs.Fitting.{counted_after}
use Rattle.plan_space.proofs.Spanning.{length-with_spans, are_some-more, spanned}
use Rattle.plan_space.proofs.taken.TakenFreeBits.take.Goals as goal

pub overflow_add-first : goal.overflow_add-first
overflow_add-first c = omega (arith, c.requires.clear.inside, length-with_spans c.args.self.now.spans.items c.args.self.now.base.now, c.bits-bits.ensures, c.bits-bits.type_inv)

pub overflow_sub-self : goal.overflow_sub-self
overflow_sub-self c = omega (arith, counted_after c.args.first c.args.len (with_spans c.args.self.now.spans.items c.args.self.now.base.now) c.requires.clear, c.args.self.now.counted)

pub returns-clause-taken : goal.returns-clause-taken
returns-clause-taken c = spanned c.args.self.now.spans.items c.args.self.now.base.now c.args.first c.args.len c.push_span.new.spans.items c.in_ok-push_span.ensures.pushed

pub invariant_of-self-2 : goal.invariant_of-self-2
invariant_of-self-2 c = record {
  some = are_some-more c.args.self.now.spans.items _ c.push_span.new.spans.items c.args.self.now.some (omega (arith, c.requires.some)) c.in_ok-push_span.ensures.pushed;
  counted =
      (let e : with_spans c.push_span.new.spans.items c.args.self.now.base.now ≡ with_run c.args.first c.args.len (with_spans c.args.self.now.spans.items c.args.self.now.base.now)
      = spanned c.args.self.now.spans.items c.args.self.now.base.now c.args.first c.args.len c.push_span.new.spans.items c.in_ok-push_span.ensures.pushed in
      let f = ap (λ (bits : List Bool). count_by not bits) e in
      omega (arith, f, counted_after c.args.first c.args.len (with_spans c.args.self.now.spans.items c.args.self.now.base.now) c.requires.clear, c.args.self.now.counted));
}
