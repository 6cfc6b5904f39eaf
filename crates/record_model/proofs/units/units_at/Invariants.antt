use Rattle.std.proofs.Common.{◌≡◌}
use Rattle.record_model.specs.Attributes.{units_at}
use Rattle.record_model.proofs.units.units_at.Given as goal

abbrev pub invariant-loop-i : goal.invariant-loop-i
invariant-loop-i l = l.items.items ≡ units_at l.at l.i l.bytes
