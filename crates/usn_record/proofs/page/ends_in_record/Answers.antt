use Rattle.std.proofs.Common.{sym, ◌∙◌, length, arith}
use Rattle.usn_record.proofs.Ending.{stops_at_zeros, stops_at_cut, ends_here, goes_on, nothing_left}
use Rattle.usn_record.proofs.page.ends_in_record.Goals as goal

pub returns-then-all_zeros : goal.returns-then-all_zeros
returns-then-all_zeros c = sym (stops_at_zeros (length c.args.bytes.now) c.loop.counter c.loop.rest.now _ c.loop-test.true c.loop.invariant (sym c.all_zeros.ensures ∙ c.if-all_zeros.true))

pub returns-then-not-is_whole : goal.returns-then-not-is_whole
returns-then-not-is_whole c = sym (stops_at_cut (length c.args.bytes.now) c.loop.counter c.loop.rest.now _ c.loop-test.true c.loop.invariant (sym c.is_whole.ensures ∙ c.if-not-is_whole.true))

pub returns-then-length-rest : goal.returns-then-length-rest
returns-then-length-rest c =
    sym
    (ends_here (length c.args.bytes.now) c.loop.counter c.loop.rest.now _ c.loop-test.true c.loop.invariant _ (sym c.all_zeros.ensures ∙ c.if-all_zeros.false) (sym c.is_whole.ensures ∙ c.if-not-is_whole.false)
    c.own_length-length.ensures.value (omega (arith, c.if-length-rest.true)))

pub loop-preserved : goal.loop-preserved
loop-preserved c =
    goes_on (length c.args.bytes.now) c.loop.counter c.loop.rest.now _ c.loop-test.true c.loop.invariant _ _ (sym c.all_zeros.ensures ∙ c.if-all_zeros.false) (sym c.is_whole.ensures ∙ c.if-not-is_whole.false)
    c.own_length-length.ensures.value (omega (arith, c.if-length-rest.false)) c.split_at.ensures.back

pub returns : goal.returns
returns c = sym (nothing_left (length c.args.bytes.now) c.loop.counter c.loop.rest.now _ c.loop-test.false c.loop.invariant)
