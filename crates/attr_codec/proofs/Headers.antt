-- What lies inside an attribute's own bytes.
use Rattle.std.proofs.Common.{◌≡◌, ◌≢◌, ℕ, ◌+◌, ◌*◌, ◌<◌, ◌≤◌, Bool, true, false, ◌||◌, nat_le, ◌==◌, if◌then◌else◌, List, [], length, take, refl, arith}
use Rattle.std.proofs.lemmas.Bool.{and_parts, leb-true}
use Rattle.std.proofs.lemmas.Bool.Decides.{nat_tests}
use Rattle.std.proofs.lemmas.List.{length-take-le}
use Rattle.disk_model.specs.Numbers.{field}
use Rattle.record_model.specs.Attributes.{units_at, is_mapped, header_length, has_length, is_name_inside, is_value_inside}
use Rattle.record_model.proofs.Attributes.{header_low, header_mapped, header_held, own_from_length}

-- how long a header is, and so which of its fields are there
pub ruleset headers = (header_low, header_mapped, header_held)

pub long_enough : (bytes : List ℕ) → has_length bytes ≡ true → 0x18 ≤ length bytes
long_enough bytes h =
    let n : ℕ = field 0x04 4 bytes in
    let own = own_from_length bytes h in
    omega (arith, own.0, own.1.header, header_low (take n bytes), length-take-le n bytes own.0)

-- the header lies in the bytes, too
pub length_header : (bytes : List ℕ) → has_length bytes ≡ true → header_length bytes ≤ length bytes
unfolding has_length
length_header bytes h =
    let parts = and_parts _ _ h in
    let header : header_length bytes ≤ field 0x04 4 bytes = leb-true _ _ (and_parts _ _ parts.0).0 in
    let within : field 0x04 4 bytes ≤ length bytes = leb-true _ _ parts.1 in
    omega arith

refuted : (b : Bool) → (b ≡ true → ⊥) → b ≡ false
refuted true h = absurd (h refl)
refuted false h = refl

pub too_short : (bytes : List ℕ) → length bytes < 0x18 → has_length bytes ≡ false
too_short bytes short = refuted (has_length bytes) (λ h. omega (arith, long_enough bytes h))

-- where the name lies
name_case : (count at all : ℕ) → (count == 0 || nat_le at all) ≡ true → count ≢ 0 → at ≤ all
name_case count at all h some = grind (arith, nat_tests)

pub name_inside : (a : List ℕ) → is_name_inside a ≡ true → field 0x09 1 a ≢ 0 → field 0x0A 2 a + 2 * field 0x09 1 a ≤ length a
unfolding is_name_inside
name_inside a h some = name_case (field 0x09 1 a) (field 0x0A 2 a + 2 * field 0x09 1 a) (length a) h some

pub no_units : (at n : ℕ) (a : List ℕ) → n ≡ 0 → units_at at n a ≡ []
unfolding units_at
no_units at n a none = rw none refl

-- where the value lies
mapped_case : (mapped at_pairs at_value : Bool) → mapped ≡ true → (if mapped then at_pairs else at_value) ≡ true → at_pairs ≡ true
mapped_case true p v m h = h
mapped_case false p v m h = cc

resident_case : (mapped at_pairs at_value : Bool) → mapped ≡ false → (if mapped then at_pairs else at_value) ≡ true → at_value ≡ true
resident_case true p v m h = cc
resident_case false p v m h = h

le_true : (a b : ℕ) → nat_le a b ≡ true → a ≤ b
le_true a b h = grind (arith, nat_tests)

pub mapped_inside : (a : List ℕ) → is_mapped a ≡ true → is_value_inside a ≡ true → field 0x20 2 a ≤ length a
unfolding is_value_inside
mapped_inside a m h =
    le_true _ _ (mapped_case (is_mapped a) (nat_le (field 0x20 2 a) (length a)) (nat_le (field 0x14 2 a + field 0x10 4 a) (length a)) m h)

pub resident_inside : (a : List ℕ) → is_mapped a ≡ false → is_value_inside a ≡ true → field 0x14 2 a + field 0x10 4 a ≤ length a
unfolding is_value_inside
resident_inside a m h =
    le_true _ _ (resident_case (is_mapped a) (nat_le (field 0x20 2 a) (length a)) (nat_le (field 0x14 2 a + field 0x10 4 a) (length a)) m h)

-- what lies inside an attribute
pub ruleset places = (name_inside, no_units, mapped_inside, resident_inside)
