use Rattle.std.proofs.Common.{rules, sym, ◌∙◌, arith}
use Rattle.std.proofs.lemmas.List.FromFn.{map-range_with_len_more}
use Rattle.upcase_order.specs.Tables.{standard_upper, standard_units}
use Rattle.upcase_order.proofs.upcase.standard_values.Goals as goal

pub loop-unit-init : goal.loop-unit-init
unfolding standard_units
loop-unit-init c = search rules

pub loop-unit-preserved : goal.loop-unit-preserved
unfolding standard_units
loop-unit-preserved c =
    c.in_ok-push.ensures.items
    ∙ rw (c.loop-unit.invariant, c.standard_upper.ensures) (sym (map-range_with_len_more standard_upper 0 c.loop-unit.unit c.loop-unit.unit (omega arith)))
