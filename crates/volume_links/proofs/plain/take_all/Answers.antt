use Rattle.std.proofs.Common.{sym, refl, ◌∙◌, arith}
use Rattle.volume_links.proofs.Declining.{cut_short, at_mark, at_other, too_many, one_more}
use Rattle.volume_links.proofs.Plainly.{begins, none_added, more, ends, grows_on}
use Rattle.volume_links.proofs.plain.take_all.Goals as goal

pub loop-init : goal.loop-init
loop-init c = record { plainly = begins c.args.child c.args.bytes.now c.args.links.now.items; judged = refl; grows = none_added c.args.links.now.items }

pub returns-then-rest-lt4-clause-exact : goal.returns-then-rest-lt4-clause-exact
returns-then-rest-lt4-clause-exact c = cut_short c.args.bytes.now c.loop.rest.now c.loop.counter c.loop.least c.loop-test.true c.if-rest-lt4.true c.loop.invariant.judged

pub returns-then-is_end_mark-clause-exact : goal.returns-then-is_end_mark-clause-exact
returns-then-is_end_mark-clause-exact c =
    at_mark c.args.bytes.now c.loop.rest.now c.loop.counter c.loop.least c.loop-test.true c.if-rest-lt4.false (sym c.is_end_mark.ensures ∙ c.if-is_end_mark.true) c.loop.invariant.judged

pub returns-then-is_end_mark-clause-plain : goal.returns-then-is_end_mark-clause-plain
returns-then-is_end_mark-clause-plain c = λ _.
    ends c.args.child c.args.bytes.now c.loop.rest.now c.loop.counter c.loop.least c.args.links.now.items c.loop.links.items c.loop-test.true c.if-rest-lt4.false (sym c.is_end_mark.ensures ∙ c.if-is_end_mark.true) c.loop.invariant.plainly

pub returns-in_default-clause-exact : goal.returns-in_default-clause-exact
returns-in_default-clause-exact c =
    at_other c.args.bytes.now c.loop.rest.now c.loop.counter c.loop.least c.loop-test.true c.if-rest-lt4.false (sym c.is_end_mark.ensures ∙ c.if-is_end_mark.false) (sym (rw c.in_default.is at c.in_ok-length.ensures.exact)) c.loop.invariant.judged

pub loop-preserved : goal.loop-preserved
loop-preserved c = record {
  plainly = rw c.split_at.ensures.back
      (more c.args.child c.args.bytes.now c.loop.rest.now c.loop.counter c.in-Some.length c.loop.least c.take_front.new.least c.args.links.now.items c.loop.links.items c.take_front.new.links.items c.loop-test.true c.if-rest-lt4.false
      (sym c.is_end_mark.ensures ∙ c.if-is_end_mark.false) c.loop.invariant.plainly (rw c.in-Some.is at c.in_ok-length.ensures.front));
  judged = rw c.split_at.ensures.back
      (one_more c.args.bytes.now c.loop.rest.now c.args.child c.loop.counter c.in-Some.length c.loop.least c.take_front.new.least c.loop.links.items c.take_front.new.links.items c.loop-test.true c.if-rest-lt4.false
      (sym c.is_end_mark.ensures ∙ c.if-is_end_mark.false) (sym (rw c.in-Some.is at c.in_ok-length.ensures.exact)) (rw c.in-Some.is at c.in_ok-length.ensures.front) c.loop.invariant.judged);
  grows = grows_on _ _ _ c.loop.invariant.grows c.in_ok-length.ensures.grows;
}

pub returns-clause-exact : goal.returns-clause-exact
returns-clause-exact c = too_many c.args.bytes.now c.loop.rest.now c.loop.counter c.loop.least (omega (arith, c.loop-test.false)) c.loop.invariant.judged
