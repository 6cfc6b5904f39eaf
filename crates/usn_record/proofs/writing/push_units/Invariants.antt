use Rattle.std.proofs.Common.{◌≡◌, ◌++◌, take}
use Rattle.journal_model.specs.record_model.Attributes.{unit_bytes}
use Rattle.usn_record.proofs.writing.push_units.Given as goal

abbrev pub invariant-loop-unit : goal.invariant-loop-unit
invariant-loop-unit l = l.out.items ≡ l.initial.out.items ++ unit_bytes (take l.unit-index l.units)
