use Rattle.std.proofs.Common.{length, sym, ap, ◌∙◌}
use Rattle.upcase_order.proofs.Units.{length-standard_units, standard_table-is}
use Rattle.upcase_order.proofs.upcase.Upcase.standard.Goals as goal

pub invariant_of-result : goal.invariant_of-result
invariant_of-result c = ap length c.in_ok-standard_values.ensures ∙ length-standard_units 65536

pub returns : goal.returns
returns c = record { value = c.in_ok-standard_values.ensures ∙ sym standard_table-is }
