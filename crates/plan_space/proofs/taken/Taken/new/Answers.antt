use Rattle.std.proofs.Common.{sym, ap, ◌∙◌, not, List, Bool}
use Rattle.std.specs.Prelude.{count_by}
use Rattle.plan_space.specs.declared.taken.Span.{Span}
use Rattle.plan_space.specs.Spans.{with_spans}
use Rattle.plan_space.proofs.Spanning.{with_no_span, none_some}
use Rattle.plan_space.proofs.taken.Taken.new.Goals as goal

pub invariant_of-result : goal.invariant_of-result
invariant_of-result c = record {
  some = none_some c.new.result.items c.new.ensures.items;
  counted = c.count_clear.ensures ∙ sym (ap (λ (spans : List Span). count_by not (with_spans spans c.args.base.now)) c.new.ensures.items ∙ ap (λ (bits : List Bool). count_by not bits) (with_no_span c.args.base.now));
}

pub returns : goal.returns
returns c = ap (λ (spans : List Span). with_spans spans c.args.base.now) c.new.ensures.items ∙ with_no_span c.args.base.now
