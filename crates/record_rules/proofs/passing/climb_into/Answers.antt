use Rattle.std.proofs.Common.{List, Bool, sym, subst, ◌∙◌}
use Rattle.record_rules.specs.Passing.{AreSettled}
use Rattle.record_rules.proofs.Once.{next_settled, next_told}
use Rattle.record_rules.proofs.passing.climb_into.Goals as goal

pub climb-answer-requires-clause-settled : goal.climb-answer-requires-clause-settled
climb-answer-requires-clause-settled c = subst (λ (a : List Bool). AreSettled c.args.question c.args.parents.now c.loop-start.firsts a) (sym c.as_slice.ensures.value) c.loop-start.invariant.settled

pub loop-start-preserved : goal.loop-start-preserved
loop-start-preserved c = record {
  size = c.climb-answer.ensures.size ∙ c.loop-start.invariant.size;
  settled = next_settled c.args.question c.args.parents.now c.climb-answer.new.firsts c.as_slice.result.now c.loop-start.answers.items c.push.new.self.items c.climb-answer.result c.as_slice.ensures.value c.in_ok-push.ensures.items c.climb-answer.ensures.settled;
  value = next_told c.args.question c.args.parents.now c.climb-answer.new.firsts c.as_slice.result.now c.loop-start.answers.items c.push.new.self.items c.climb-answer.result c.loop-start.start (c.climb-answer.ensures.size ∙ c.loop-start.invariant.size) c.loop-start-test.true c.as_slice.ensures.value c.loop-start.invariant.value c.in_ok-push.ensures.items c.climb-answer.ensures.settled c.climb-answer.ensures.told;
}
