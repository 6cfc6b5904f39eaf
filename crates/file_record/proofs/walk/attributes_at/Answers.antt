use Rattle.std.proofs.Common.{sym, ◌∙◌}
use Rattle.std.proofs.lemmas.Result.{err_from_is_err_and}
use Rattle.record_model.specs.Records.{most_attributes}
use Rattle.file_record.proofs.Walking.{starts, ends_at_mark, ends_short, ends_refused, ends_full, goes_on}
use Rattle.file_record.proofs.walk.attributes_at.Goals as goal

pub loop-init : goal.loop-init
loop-init c = rw c.new-found.ensures (starts c.args.bytes.now)

pub returns-then-rest-lt4 : goal.returns-then-rest-lt4
returns-then-rest-lt4 c =
    rw (sym c.loop.invariant ∙ ends_short most_attributes c.loop.counter c.loop.rest.now c.loop.found c.loop-test.true c.if-rest-lt4.true) c.verdict.ensures

pub returns-then-is_end_mark : goal.returns-then-is_end_mark
returns-then-is_end_mark c =
    rw (sym c.loop.invariant ∙ ends_at_mark most_attributes c.loop.counter c.loop.rest.now c.loop.found c.loop-test.true c.if-rest-lt4.false (sym c.is_end_mark.ensures ∙ c.if-is_end_mark.true)) c.verdict-then-is_end_mark.ensures

pub returns-in_err-length : goal.returns-in_err-length
returns-in_err-length c =
    let p = err_from_is_err_and c.from_residual.result c.from_residual.ensures.1 in
    rw (p.1, p.2, sym c.loop.invariant)
    (ends_refused _ most_attributes c.loop.counter c.loop.rest.now c.loop.found c.loop-test.true c.if-rest-lt4.false (sym c.is_end_mark.ensures ∙ c.if-is_end_mark.false) c.in_err-length.ensures.length)

pub loop-preserved : goal.loop-preserved
loop-preserved c =
    rw (c.in_ok-length.ensures.found, c.split_at.ensures.back)
    (sym (goes_on most_attributes c.loop.counter c.loop.rest.now c.loop.found c.in_ok-length.length c.loop-test.true c.if-rest-lt4.false (sym c.is_end_mark.ensures ∙ c.if-is_end_mark.false) c.in_ok-length.ensures.length) ∙ c.loop.invariant)

pub returns : goal.returns
returns c =
    rw (sym c.loop.invariant ∙ ends_full most_attributes c.loop.counter c.loop.rest.now c.loop.found c.loop-test.false) c.verdict-2.ensures
