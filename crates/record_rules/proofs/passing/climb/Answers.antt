use Rattle.std.proofs.Common.{length, sym, ◌∙◌}
use Rattle.std.proofs.lemmas.List.{length-set}
use Rattle.record_rules.specs.Passing.{passed}
use Rattle.record_rules.proofs.Once.{ends_at, ends_above, steps_at, fewer_left}
use Rattle.record_rules.proofs.passing.climb.Goals as goal

pub returns-in-Some-known-clause-told : goal.returns-in-Some-known-clause-told
returns-in-Some-known-clause-told c = (ends_at c.args.question c.args.parents.now c.args.answers.now (passed c.args.firsts.now) c.loop-at.firsts c.loop-at.at c.in-Some.number c.in-Some-known.answer c.loop-at.invariant.size c.loop-at.invariant.way c.in-Some.is (sym c.known.ensures ∙ c.in-Some-known.is)).told

pub returns-in-Some-known-clause-settled : goal.returns-in-Some-known-clause-settled
returns-in-Some-known-clause-settled c = (ends_at c.args.question c.args.parents.now c.args.answers.now (passed c.args.firsts.now) c.loop-at.firsts c.loop-at.at c.in-Some.number c.in-Some-known.answer c.loop-at.invariant.size c.loop-at.invariant.way c.in-Some.is (sym c.known.ensures ∙ c.in-Some-known.is)).settled

pub loop-at-smaller : goal.loop-at-smaller
loop-at-smaller c = fewer_left c.args.question c.loop-at.firsts c.args.answers.now c.in-Some.number (length c.args.answers.now) (sym c.known.ensures ∙ c.in_default-known.is)

pub loop-at-preserved : goal.loop-at-preserved
loop-at-preserved c = record {
  size = length-set c.loop-at.firsts c.in-Some.number _ ∙ c.loop-at.invariant.size;
  way = steps_at c.args.question c.args.parents.now c.args.answers.now (passed c.args.firsts.now) c.loop-at.firsts c.loop-at.at c.in-Some.number c.loop-at.invariant.way c.in-Some.is (sym c.known.ensures ∙ c.in_default-known.is);
}

pub returns-clause-told : goal.returns-clause-told
returns-clause-told c = (ends_above c.args.question c.args.parents.now c.args.answers.now (passed c.args.firsts.now) c.loop-at.firsts c.loop-at.at c.loop-at.invariant.way c.in_default.is).told

pub returns-clause-settled : goal.returns-clause-settled
returns-clause-settled c = (ends_above c.args.question c.args.parents.now c.args.answers.now (passed c.args.firsts.now) c.loop-at.firsts c.loop-at.at c.loop-at.invariant.way c.in_default.is).settled
