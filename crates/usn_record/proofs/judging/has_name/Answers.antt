use Rattle.std.proofs.Common.{◌≡◌, ◌/◌, true, nat_lt, sym, ap, ◌∙◌, arith}
use Rattle.std.specs.Prelude.{nat_le, is_ok}
use Rattle.utf16_name.specs.Names.{is_bad_unit, name_of}
use Rattle.journal_model.specs.UsnRecords.{name_units}
use Rattle.usn_record.proofs.Judged.{bad_unit, good_units, both_tests, first_test, none_lt, some_lt}
use Rattle.usn_record.proofs.judging.has_name.Goals as goal

pub returns-then-is_bad_unit : goal.returns-then-is_bad_unit
returns-then-is_bad_unit c =
    let unit : is_bad_unit c.u16_at.result ≡ true = sym c.is_bad_unit.ensures ∙ c.if-is_bad_unit.true in
    sym (bad_unit c.args.own.now c.loop-i.i (omega (arith, c.name_bytes-count.ensures.value)) (ap is_bad_unit (sym c.u16_at.ensures) ∙ unit))

pub returns-then-count-gt0 : goal.returns-then-count-gt0
returns-then-count-gt0 c =
    let n = c.name_bytes-count.result / 2 in
    both_tests (nat_lt 0 n) (nat_le n 255) (is_ok (name_of (name_units c.args.own.now)))
    (good_units c.args.own.now n (ap (λ k. k / 2) c.name_bytes-count.ensures.value) (λ k lt. c.loop-i.invariant k (omega arith))) (some_lt n (omega arith))

pub returns-else-count-gt0 : goal.returns-else-count-gt0
returns-else-count-gt0 c =
    let n = c.name_bytes-count.result / 2 in
    first_test (nat_lt 0 n) (nat_le n 255) (is_ok (name_of (name_units c.args.own.now)))
    (good_units c.args.own.now n (ap (λ k. k / 2) c.name_bytes-count.ensures.value) (λ k lt. c.loop-i.invariant k (omega arith))) (none_lt n (omega arith))
