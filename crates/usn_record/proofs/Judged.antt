-- What is judged of a record in its bytes.
use Rattle.std.proofs.Common.{◌≡◌, ℕ, ◌+◌, ◌*◌, ◌/◌, ◌<◌, ◌≤◌, Bool, true, false, List, length, get_or, Option, Some, None, Ok, refl, sym, ap, ◌∙◌, inl, inr, arith}
use Rattle.std.specs.Prelude.{is_ok, ◌&&◌, nat_le, nat_lt, if◌then◌else◌}
use Rattle.std.specs.List.{position_or_len}
use Rattle.std.proofs.lemmas.Bool.{cases_lt}
use Rattle.std.proofs.lemmas.Bool.Decides.{nat_tests}
use Rattle.std.proofs.lemmas.List.Sums.{fails_before_first, position_or_len_is}
use Rattle.std.proofs.lemmas.List.FromFn.{get_or-map-range_with_len}
use Rattle.utf16_name.specs.declared.name.NameFault.{NameFault}
use Rattle.utf16_name.specs.declared.name.NameFault.TheVariants.{Length as too_long}
use Rattle.utf16_name.specs.Names.{is_bad_unit, fault_of, name_fault, ok_unless, name_of}
use Rattle.disk_model.specs.Numbers.{field}
use Rattle.journal_model.specs.record_model.Attributes.{units_at}
use Rattle.journal_model.specs.UsnRecords.{name_units, has_layout, is_usn}
use Rattle.journal_model.proofs.UsnRead.{layout_parts, sound_parts, length-name_units}

-- a record's bytes hold its name
pub layout_inside : (at : ℕ) (own : List ℕ) → has_layout at own ≡ true → 0x3C + field 0x38 2 own ≤ length own
layout_inside at own h = let l = layout_parts at own h in omega (arith, l.size)

-- the same of a sound record
pub layout_sound : (at : ℕ) (own : List ℕ) → is_usn at own ≡ true → 0x3C + field 0x38 2 own ≤ length own
layout_sound at own h = let l = (sound_parts at own h).layout in omega (arith, l.size)

-- fewer bytes than those of the head are no record
pub too_short : (at : ℕ) (own : List ℕ) → length own < 0x3C → has_layout at own ≡ false
too_short at own short = cases (has_layout at own) refl
  where
    cases : (b : Bool) → has_layout at own ≡ b → b ≡ false
    cases false e = refl
    cases true e = absurd (omega (arith, layout_inside at own e))

-- units that are a name are its own
pub same_name : (units name : List ℕ) → name_of units ≡ Ok name → units ≡ name
same_name units name e = unless (name_fault units) units name e
  where
    unless : (fault : Option NameFault) (units name : List ℕ) → ok_unless fault units ≡ Ok name → units ≡ name
    unless None units name e = cc
    unless (Some fault) units name e = absurd cc

-- ---- the units of a name

unit_is : (own : List ℕ) (i : ℕ) → i < field 0x38 2 own / 2 → get_or (name_units own) i 0 ≡ field (0x3C + 2 * i) 2 own
unfolding name_units units_at
unit_is own i lt = get_or-map-range_with_len (λ i. field (0x3C + 2 * i) 2 own) 0 (field 0x38 2 own / 2) i i 0 lt (omega arith)

bad_place : (b : Bool) (at len : ℕ) (units : List ℕ) → b ≡ true → is_ok (ok_unless (fault_of (if b then Some at else None) len) units) ≡ false
bad_place true at len units e = refl
bad_place false at len units e = absurd cc

good_length : (b : Bool) (len : ℕ) (units : List ℕ) → is_ok (ok_unless (if b then None else Some (too_long len)) units) ≡ b
good_length true len units = refl
good_length false len units = refl

good_place : (b : Bool) (at len : ℕ) (units : List ℕ) → b ≡ false → is_ok (ok_unless (fault_of (if b then Some at else None) len) units) ≡ (nat_le 1 len && nat_le len 255)
good_place true at len units e = absurd cc
good_place false at len units e = good_length (nat_le 1 len && nat_le len 255) len units

lt_true : (a b : ℕ) → a < b → nat_lt a b ≡ true
lt_true a b lt = grind (arith, nat_tests)

lt_false : (a b : ℕ) → b ≤ a → nat_lt a b ≡ false
lt_false a b le = grind (arith, nat_tests)

some_few : (n : ℕ) → (nat_lt 0 n && nat_le n 255) ≡ (nat_le 1 n && nat_le n 255)
some_few n = grind (arith, nat_tests)

-- the first bad unit refuses the name
pub bad_unit : (own : List ℕ) (i : ℕ) → i < field 0x38 2 own / 2 → is_bad_unit (field (0x3C + 2 * i) 2 own) ≡ true → is_ok (name_of (name_units own)) ≡ false
bad_unit own i lt bad =
    let units = name_units own in
    let size = length-name_units own in
    let here : is_bad_unit (get_or units i 0) ≡ true = ap is_bad_unit (unit_is own i lt) ∙ bad in
    let before : position_or_len is_bad_unit units ≤ i = elim (cases_lt i (position_or_len is_bad_unit units)) [
      | inl less ↦ (let good = fails_before_first is_bad_unit units i 0 less in absurd cc)
      | inr le ↦ le
    ] in
    bad_place _ _ (length units) units (lt_true (position_or_len is_bad_unit units) (length units) (omega arith))

-- without one their number decides
pub good_units : (own : List ℕ) (count : ℕ) → count ≡ field 0x38 2 own / 2 → ((k : ℕ) → k < count → is_bad_unit (field (0x3C + 2 * k) 2 own) ≡ false) → is_ok (name_of (name_units own)) ≡ (nat_lt 0 count && nat_le count 255)
good_units own count is good =
    let units = name_units own in
    let size : length units ≡ count = length-name_units own ∙ sym is in
    let all : position_or_len is_bad_unit units ≡ length units =
    position_or_len_is is_bad_unit units (length units) 0 (omega arith)
    (λ k lt. ap is_bad_unit (unit_is own k (omega (arith, size, is))) ∙ good k (omega (arith, size)))
    (λ lt. absurd (omega arith)) in
    good_place _ _ (length units) units (lt_false (position_or_len is_bad_unit units) (length units) (omega (arith, all)))
    ∙ ap (λ (n : ℕ). nat_le 1 n && nat_le n 255) size
    ∙ sym (some_few count)

pub both_tests : (a b r : Bool) → r ≡ (a && b) → a ≡ true → b ≡ r
both_tests true b r e h = sym e
both_tests false b r e h = absurd cc

pub first_test : (a b r : Bool) → r ≡ (a && b) → a ≡ false → a ≡ r
first_test true b r e h = absurd cc
first_test false b r e h = sym e

pub none_lt : (n : ℕ) → n ≤ 0 → nat_lt 0 n ≡ false
none_lt n le = lt_false 0 n le

pub some_lt : (n : ℕ) → 0 < n → nat_lt 0 n ≡ true
some_lt n lt = lt_true 0 n lt
