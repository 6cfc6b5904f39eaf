-- Decimal digits, read from the front.
use Rattle.std.proofs.Common.{◌≡◌, ℕ, ◌+◌, ◌-◌, ◌*◌, ◌^◌, ◌<◌, ◌≤◌, List, [], ◌∷◌, length, get_or, drop, None, sym, ◌∙◌, arith}
use Rattle.std.proofs.lemmas.List.{at_drop_more}
use Rattle.std.proofs.lemmas.Bool.Decides.{nat_tests}
use Rattle.host_base.specs.Numbers.{decimal_behind, number_below}

-- digits behind a number make no smaller one
least : (front : ℕ) (digits : List ℕ) → front ≤ decimal_behind front digits
least front [] = omega arith
least front (digit ∷ digits) = omega (arith, least (front * 10 + (digit - 48)) digits)

none_above : (number : ℕ) → 2 ^ 62 ≤ number → number_below number ≡ None
none_above number h = grind (arith, nat_tests)

-- where a front is too large, the whole number is
pub too_large : (digits : List ℕ) (front i : ℕ) → i < length digits → decimal_behind front (drop i digits) ≡ decimal_behind 0 digits
    → 2 ^ 62 ≤ front * 10 + (get_or digits i 0 - 48) → number_below (decimal_behind 0 digits) ≡ None
too_large digits front i lt read above =
    let next = sym (at_drop_more (decimal_behind front) digits i 0 lt) ∙ read in
    none_above (decimal_behind 0 digits) (omega (arith, next, least (front * 10 + (get_or digits i 0 - 48)) (drop (i + 1) digits)))
