use Rattle.std.proofs.Common.{◌≡◌, take}
use Rattle.record_model.specs.disk_model.Bytes.{written}
use Rattle.record_model.specs.Attributes.{unit_bytes}
use Rattle.std_values.proofs.bytes.put_units.Given as goal

abbrev pub invariant-loop-i : goal.invariant-loop-i
invariant-loop-i l = l.bytes ≡ written l.at (unit_bytes (take l.i l.units)) l.initial.bytes
