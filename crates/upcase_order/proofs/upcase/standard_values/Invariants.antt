use Rattle.std.proofs.Common.{◌≡◌}
use Rattle.upcase_order.specs.Tables.{standard_units}
use Rattle.upcase_order.proofs.upcase.standard_values.Given as goal

abbrev pub invariant-loop-unit : goal.invariant-loop-unit
invariant-loop-unit l = l.values.items ≡ standard_units l.unit
