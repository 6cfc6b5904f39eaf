use Rattle.std.proofs.Common.{◌≡◌, take}
use Rattle.disk_model.specs.Bytes.{written}
use Rattle.record_model.specs.Attributes.{unit_bytes}
use Rattle.record_writer.proofs.putting.put_units.Given as goal

abbrev pub invariant-loop-i : goal.invariant-loop-i
invariant-loop-i l = l.out ≡ written l.at (unit_bytes (take l.i l.units)) l.initial.out
