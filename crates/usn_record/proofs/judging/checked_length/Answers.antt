use Rattle.std.proofs.Common.{ℕ, take, sym, ap, ◌∙◌, arith}
use Rattle.journal_model.specs.UsnRecords.{is_length}
use Rattle.journal_model.proofs.UsnRead.{whole_parts, length_parts}
use Rattle.usn_record.proofs.Chained.{not_whole, no_length, out_of_shape, in_shape}
use Rattle.usn_record.proofs.judging.checked_length.Goals as goal

pub returns-then-not-is_whole-clause-value : goal.returns-then-not-is_whole-clause-value
returns-then-not-is_whole-clause-value c = not_whole c.args.bytes.now c.args.at (sym c.is_whole.ensures ∙ c.if-not-is_whole.true)

pub u32_at-length-requires : goal.u32_at-length-requires
u32_at-length-requires c = (whole_parts c.args.bytes.now (sym c.is_whole.ensures ∙ c.if-not-is_whole.false)).0

pub returns-then-not-is_length-clause-value : goal.returns-then-not-is_length-clause-value
returns-then-not-is_length-clause-value c =
    no_length c.args.bytes.now c.args.at (sym c.is_whole.ensures ∙ c.if-not-is_whole.false) (ap is_length (sym c.u32_at-length.ensures) ∙ sym c.is_length.ensures ∙ c.if-not-is_length.true)

pub split_at-requires : goal.split_at-requires
split_at-requires c = omega (arith, c.u32_at-length.ensures, (whole_parts c.args.bytes.now (sym c.is_whole.ensures ∙ c.if-not-is_whole.false)).1)

pub is_misshapen-requires : goal.is_misshapen-requires
is_misshapen-requires c = omega (arith, c.split_at.ensures.front_len, (length_parts c.u32_at-length.result (sym c.is_length.ensures ∙ c.if-not-is_length.false)).0)

pub returns-then-is_misshapen-clause-value : goal.returns-then-is_misshapen-clause-value
returns-then-is_misshapen-clause-value c =
    out_of_shape c.args.bytes.now c.args.at c.split_at.result.0.now (sym c.is_whole.ensures ∙ c.if-not-is_whole.false) (ap is_length (sym c.u32_at-length.ensures) ∙ sym c.is_length.ensures ∙ c.if-not-is_length.false)
    (c.split_at.ensures.front ∙ ap (λ (k : ℕ). take k c.args.bytes.now) c.u32_at-length.ensures) (sym c.is_misshapen.ensures ∙ c.if-is_misshapen.true)

pub returns-clause-value : goal.returns-clause-value
returns-clause-value c =
    in_shape c.args.bytes.now c.args.at c.split_at.result.0.now c.u32_at-length.result (sym c.is_whole.ensures ∙ c.if-not-is_whole.false) (ap is_length (sym c.u32_at-length.ensures) ∙ sym c.is_length.ensures ∙ c.if-not-is_length.false)
    (c.split_at.ensures.front ∙ ap (λ (k : ℕ). take k c.args.bytes.now) c.u32_at-length.ensures) (sym c.is_misshapen.ensures ∙ c.if-is_misshapen.false) c.u32_at-length.ensures

pub returns-clause-inside : goal.returns-clause-inside
returns-clause-inside c =
    ((length_parts c.u32_at-length.result (sym c.is_length.ensures ∙ c.if-not-is_length.false)).0, omega (arith, c.u32_at-length.ensures, (whole_parts c.args.bytes.now (sym c.is_whole.ensures ∙ c.if-not-is_whole.false)).1))
