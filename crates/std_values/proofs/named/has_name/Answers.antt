use Rattle.std.proofs.Common.{◌≡◌, true, Bool, false, not, refl, sym, ap, ◌∙◌, arith}
use Rattle.record_model.specs.utf16_name.Names.{is_bad_unit}
use Rattle.std_values.proofs.Naming.{bad_unit, good_units}
use Rattle.std_values.proofs.named.has_name.Goals as goal

bad : (b : Bool) → not b ≡ false → b ≡ true
bad true e = refl
bad false e = absurd cc

pub returns-then-not-is_name_unit : goal.returns-then-not-is_name_unit
returns-then-not-is_name_unit c =
    let count = c.from-count.ensures ∙ c.u8_at.ensures.value in
    let unit : is_bad_unit c.u16_at.result ≡ true = bad _ (sym c.is_name_unit.ensures ∙ c.if-not-is_name_unit.true) in
    sym (bad_unit c.args.value.now c.loop-i.i (omega (arith, count)) (ap is_bad_unit (sym c.u16_at.ensures) ∙ unit))

pub returns : goal.returns
returns c = sym (good_units c.args.value.now c.from-count.result (c.from-count.ensures ∙ c.u8_at.ensures.value) (omega arith) (λ k lt. c.loop-i.invariant k (omega arith)))
