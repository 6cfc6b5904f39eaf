-- The name of a file-name value, and what the value answers then.
use Rattle.std.proofs.Common.{◌≡◌, ℕ, ◌+◌, ◌*◌, ◌<◌, ◌≤◌, Bool, true, false, not, ◌&&◌, if◌then◌else◌, List, [], ◌∷◌, length, get_or, Option, Some, None, Result, Ok, Err, refl, sym, ap, ◌∙◌, inl, inr, arith}
use Rattle.std.specs.Prelude.{◌==◌, nat_le, nat_lt, is_ok, is_none, position}
use Rattle.std.specs.List.{position_or_len}
use Rattle.std.proofs.lemmas.Bool.{and_parts, eqb-true, cases_lt}
use Rattle.std.proofs.lemmas.Bool.Decides.{nat_tests}
use Rattle.std.proofs.lemmas.List.Sums.{fails_before_first, position_or_len_is}
use Rattle.std.proofs.lemmas.List.FromFn.{get_or-map-range_with_len}
use Rattle.record_model.specs.host_base.Answers.{Explains}
use Rattle.record_model.specs.utf16_name.declared.name.NameFault.{NameFault}
use Rattle.record_model.specs.utf16_name.declared.name.NameFault.TheVariants.{Length as too_long}
use Rattle.record_model.specs.utf16_name.Names.{is_bad_unit, fault_of, name_fault, ok_unless, name_of}
use Rattle.record_model.specs.disk_model.Numbers.{field}
use Rattle.record_model.specs.declared.values.FileNameValue.{FileNameValue}
use Rattle.record_model.specs.declared.values.ValueFault.{ValueFault}
use Rattle.record_model.specs.declared.values.ValueFault.TheVariants.{Length, Shape, Memory}
use Rattle.record_model.specs.Values.{parent_of, space_of, units_of, has_name_length, is_file_name}
use Rattle.record_model.specs.StdValues.{value_cause, file_name_fields, file_name_fault, file_name_of}
use Rattle.record_model.specs.Attributes.{units_at}
use Rattle.record_model.proofs.Attributes.{length-units_at}
use Rattle.record_model.proofs.ValueFields.{to_ok}
use Rattle.record_model.proofs.FileNames.{IsLawful, lawful_parts, parts_lawful, fields_same, wrong_length_to, wrong_shape_to}
use Rattle.std_values.specs.Naming.{shaped, lawful_name}

-- the units lie inside a value of the right length
pub units_inside : (value : List ℕ) → has_name_length value ≡ true → 0x42 + 2 * field 0x40 1 value ≤ length value
units_inside value h =
    let parts = and_parts (nat_le 0x42 (length value)) (length value == 0x42 + 2 * field 0x40 1 value) h in
    let e = eqb-true _ _ parts.1 in
    omega (arith, e)

pub long_inside : (value : List ℕ) → has_name_length value ≡ true → 0x42 ≤ length value
long_inside value h = omega (arith, units_inside value h)

-- a unit that is a name alone
alone : (p : ℕ → Bool) (unit : ℕ) (b : Bool) → p unit ≡ b → is_none (fault_of (position p (unit ∷ [])) 1) ≡ not b
alone p unit true e = rw e refl
alone p unit false e = rw e refl

pub one_unit : (unit : ℕ) → is_none (name_fault (unit ∷ [])) ≡ not (is_bad_unit unit)
one_unit unit = alone is_bad_unit unit (is_bad_unit unit) refl

-- whether units are a name, by the place of the first bad one
bad_place : (b : Bool) (at len : ℕ) (units : List ℕ) → b ≡ true → is_ok (ok_unless (fault_of (if b then Some at else None) len) units) ≡ false
bad_place true at len units e = refl
bad_place false at len units e = absurd cc

good_length : (b : Bool) (len : ℕ) (units : List ℕ) → is_ok (ok_unless (if b then None else Some (too_long len)) units) ≡ b
good_length true len units = refl
good_length false len units = refl

good_place : (b : Bool) (at len : ℕ) (units : List ℕ) → b ≡ false → is_ok (ok_unless (fault_of (if b then Some at else None) len) units) ≡ (nat_le 1 len && nat_le len 255)
good_place true at len units e = absurd cc
good_place false at len units e = good_length (nat_le 1 len && nat_le len 255) len units

lt_true : (a b : ℕ) → a < b → nat_lt a b ≡ true
lt_true a b lt = grind (arith, nat_tests)

lt_false : (a b : ℕ) → b ≤ a → nat_lt a b ≡ false
lt_false a b le = grind (arith, nat_tests)

few : (n : ℕ) → n < 256 → nat_lt 0 n ≡ (nat_le 1 n && nat_le n 255)
few n small = grind (arith, nat_tests)

-- the unit at a place
unit_is : (value : List ℕ) (i : ℕ) → i < field 0x40 1 value → get_or (units_of value) i 0 ≡ field (0x42 + 2 * i) 2 value
unfolding units_of units_at
unit_is value i lt = get_or-map-range_with_len (λ i. field (0x42 + 2 * i) 2 value) 0 (field 0x40 1 value) i i 0 lt (omega arith)

size_is : (value : List ℕ) → length (units_of value) ≡ field 0x40 1 value
unfolding units_of
size_is value = length-units_at 0x42 (field 0x40 1 value) value

-- the first bad unit refuses the name
pub bad_unit : (value : List ℕ) (i : ℕ) → i < field 0x40 1 value → is_bad_unit (field (0x42 + 2 * i) 2 value) ≡ true → is_ok (name_of (units_of value)) ≡ false
bad_unit value i lt bad =
    let units = units_of value in
    let size = size_is value in
    let here : is_bad_unit (get_or units i 0) ≡ true = ap is_bad_unit (unit_is value i lt) ∙ bad in
    let before : position_or_len is_bad_unit units ≤ i = elim (cases_lt i (position_or_len is_bad_unit units)) [
      | inl less ↦ (let good = fails_before_first is_bad_unit units i 0 less in absurd cc)
      | inr le ↦ le
    ] in
    bad_place _ _ (length units) units (lt_true (position_or_len is_bad_unit units) (length units) (omega arith))

-- without one their number decides
pub good_units : (value : List ℕ) (count : ℕ) → count ≡ field 0x40 1 value → count < 256 → ((k : ℕ) → k < count → is_bad_unit (field (0x42 + 2 * k) 2 value) ≡ false) → is_ok (name_of (units_of value)) ≡ nat_lt 0 count
good_units value count is small good =
    let units = units_of value in
    let size : length units ≡ count = size_is value ∙ sym is in
    let all : position_or_len is_bad_unit units ≡ length units =
    position_or_len_is is_bad_unit units (length units) 0 (omega arith)
    (λ k lt. ap is_bad_unit (unit_is value k (omega (arith, size, is))) ∙ good k (omega (arith, size)))
    (λ lt. absurd (omega arith)) in
    good_place _ _ (length units) units (lt_false (position_or_len is_bad_unit units) (length units) (omega (arith, all)))
    ∙ ap (λ (n : ℕ). nat_le 1 n && nat_le n 255) size
    ∙ sym (few count small)

-- another length refuses the value
pub wrong_length : (value : List ℕ) → has_name_length value ≡ false → file_name_of value ≡ Err (Length (length value))
wrong_length value h = wrong_length_to value (length value) (refl, λ e. cc)

-- another namespace refuses it
pub wrong_space : (value : List ℕ) → has_name_length value ≡ true → 3 < space_of value → file_name_of value ≡ Err Shape
wrong_space value h above = wrong_shape_to value (h, λ e. omega (arith, above, (lawful_parts value e).space))

no_name : (read : Result (List ℕ) NameFault) → shaped read ≡ Err Shape → is_ok read ≡ true → ⊥
no_name (Ok name) e h = cc
no_name (Err fault) e h = cc

the_name : (read : Result (List ℕ) NameFault) (name : List ℕ) → shaped read ≡ Ok name → is_ok read ≡ true
the_name (Ok units) name e = refl
the_name (Err fault) name e = absurd cc

-- units that are no name refuse it
pub wrong_name : (value : List ℕ) → has_name_length value ≡ true → lawful_name (units_of value) ≡ Err Shape → file_name_of value ≡ Err Shape
wrong_name value h e = wrong_shape_to value (h, λ f. no_name (name_of (units_of value)) e (lawful_parts value f).name)

never_length : (read : Result (List ℕ) NameFault) (len : ℕ) → shaped read ≡ Err (Length len) → ⊥
never_length (Ok name) len e = cc
never_length (Err fault) len e = cc

-- what the name answers, the value answers
pub name_refused : (value : List ℕ) (fault : ValueFault) → has_name_length value ≡ true → Explains (value_cause fault) (lawful_name (units_of value)) → Explains (value_cause fault) (file_name_of value)
name_refused value (Length len) h e = absurd (never_length (name_of (units_of value)) len e)
name_refused value Shape h e = wrong_name value h e
name_refused value Memory h e = tt

same_units : (units name : List ℕ) → shaped (name_of units) ≡ Ok name → units ≡ name
same_units units name e = unless (name_fault units) units name e
  where
    unless : (fault : Option NameFault) (units name : List ℕ) → shaped (ok_unless fault units) ≡ Ok name → units ≡ name
    unless None units name e = cc
    unless (Some fault) units name e = absurd cc

-- a value with a lawful name is read
pub named_value : (value : List ℕ) (f : FileNameValue) → has_name_length value ≡ true → f.space ≤ 3 → lawful_name (units_of value) ≡ Ok f.name
    → f.parent ≡ parent_of value → f.created ≡ field 0x08 8 value → f.modified ≡ field 0x10 8 value → f.changed ≡ field 0x18 8 value → f.read_at ≡ field 0x20 8 value
    → f.allocated ≡ field 0x28 8 value → f.real ≡ field 0x30 8 value → f.flags ≡ field 0x38 4 value → f.space ≡ space_of value → file_name_of value ≡ Ok f
unfolding file_name_of
named_value value f h s n p0 p1 p2 p3 p4 p5 p6 p7 p8 =
    let l : IsLawful value = record { size = eqb-true _ _ (and_parts (nat_le 0x42 (length value)) (length value == 0x42 + 2 * field 0x40 1 value) h).1; space = omega (arith, p8); name = the_name (name_of (units_of value)) f.name n } in
    to_ok (is_file_name value) (file_name_fields value) f (file_name_fault value) (parts_lawful value l)
    (fields_same value f (sym p0) (sym p1) (sym p2) (sym p3) (sym p4) (sym p5) (sym p6) (sym p7) (sym p8) (same_units (units_of value) f.name n))

-- what a value answers by its length, its namespace and its name
pub ruleset answers = (wrong_length, wrong_space, name_refused, named_value, long_inside)
