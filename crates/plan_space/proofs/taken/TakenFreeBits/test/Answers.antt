use Rattle.std.proofs.Common.{List, sym, ap, ◌∙◌, arith}
use Rattle.plan_space.specs.declared.taken.Span.{Span}
use Rattle.plan_space.specs.Spans.{is_taken}
use Rattle.plan_space.proofs.Spanning.{tested_base, tested_spans, tested_past}
use Rattle.plan_space.proofs.taken.TakenFreeBits.test.Goals as goal

pub returns-then-test : goal.returns-then-test
returns-then-test c = c.if-test.true ∙ sym (tested_base c.args.self.now.spans.items c.args.self.now.base.now c.args.number (sym c.test.ensures ∙ c.if-test.true))

pub returns-then-number-bits : goal.returns-then-number-bits
returns-then-number-bits c = c.is_taken.ensures ∙ ap (λ (spans : List Span). is_taken spans c.args.number) c.deref.ensures.value ∙ sym (tested_spans c.args.self.now.spans.items c.args.self.now.base.now c.args.number (omega (arith, c.if-number-bits.true, c.bits.ensures)) (sym c.test.ensures ∙ c.if-test.false))

pub returns-else-number-bits : goal.returns-else-number-bits
returns-else-number-bits c = tested_past c.args.self.now.spans.items c.args.self.now.base.now c.args.number c.bits.result c.bits.ensures c.if-number-bits.false
