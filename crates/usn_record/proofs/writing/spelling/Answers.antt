use Rattle.std.proofs.Common.{ap, ◌∙◌, ◌++◌, length, List, ℕ, arith}
use Rattle.journal_model.specs.record_model.Attributes.{unit_bytes}
use Rattle.usn_record.proofs.Appended.{record_pushed}
use Rattle.usn_record.proofs.writing.spelling.Goals as goal

pub returns : goal.returns
returns c =
    record_pushed c.args.entry.now c.in_ok-bytes.bytes.items _ _ _ (c.in_ok-bytes.ensures.items ∙ c.head.ensures)
    (c.in_ok-push_units.ensures ∙ ap (λ (u : List ℕ). c.in_ok-bytes.bytes.items ++ unit_bytes u) c.units-units.ensures.value) c.in_ok-push_zeros.ensures
    (omega (arith, c.up8.ensures, ap length c.units-units.ensures.value))
