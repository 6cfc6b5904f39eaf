-- The units that nothing refuses are the names.
use Rattle.std.proofs.Common.{◌≡◌, ℕ, ◌^◌, ◌<◌, ◌≤◌, false, List, length, get_or, None, Ok, inl, inr, arith}
use Rattle.std.specs.Prelude.{All, position}
use Rattle.std.specs.List.{position_or_len}
use Rattle.std.proofs.lemmas.Bool.Decides.{nat_tests}
use Rattle.std.proofs.lemmas.Bool.{cases_lt}
use Rattle.std.proofs.lemmas.List.{get_or_default}
use Rattle.std.proofs.lemmas.List.Sums.{passes_at_first, fails_before_first}
use Rattle.utf16_name.specs.Lawful.{IsNameUnit, IsName}
use Rattle.utf16_name.specs.Names.{is_bad_unit, name_of}

no_bad_unit : (unit : ℕ) → IsNameUnit unit → is_bad_unit unit ≡ false
no_bad_unit unit h = grind (arith, nat_tests)

lawful_unit : (unit : ℕ) → unit < 2 ^ 16 → is_bad_unit unit ≡ false → IsNameUnit unit
lawful_unit unit fits h = grind (arith, nat_tests)

pub position-of_lawful : (units : List ℕ) → All IsNameUnit units → position is_bad_unit units ≡ None
position-of_lawful units h =
    elim (cases_lt (position_or_len is_bad_unit units) (length units)) [
      | inl lt ↦ (let bad = passes_at_first is_bad_unit units 0 lt in let good = no_bad_unit _ (h _ 0 lt) in cc)
      | inr le ↦ grind (arith, nat_tests)
    ]

pub lawful-of_position : (units : List ℕ) → ((k : ℕ) → get_or units k 0 < 2 ^ 16) → position is_bad_unit units ≡ None → All IsNameUnit units
lawful-of_position units fit h = λ k d lt.
    let all_pass : length units ≤ position_or_len is_bad_unit units = grind (arith, nat_tests) in
    lawful_unit _ (rw (get_or_default units k d 0 lt) (fit k)) (fails_before_first is_bad_unit units k d (omega arith))

-- a name is refused by nothing
pub name_of-of_name : (units : List ℕ) → IsName units → name_of units ≡ Ok units
name_of-of_name units name = rw (position-of_lawful units name.lawful) (grind (arith, nat_tests))
