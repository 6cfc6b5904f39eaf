-- Numbers that are written one after the other at fixed places, and what is read there then.
use Rattle.std.proofs.Common.{◌≡◌, ◌⊎◌, ℕ, zero, suc, ◌+◌, ◌<◌, ◌≤◌, ◌^◌, Bool, true, false, List, [], ◌∷◌, length, slice_index, refl, ap, ◌∙◌, inl, inr, arith}
use Rattle.std.specs.Prelude.{nat_le, ◌&&◌, ◌||◌, Ok, Err, if◌then◌else◌}
use Rattle.std.specs.List.{list_all, AllByRecursion}
use Rattle.std.proofs.lemmas.Bool.{and_parts}
use Rattle.std.proofs.lemmas.Bool.Decides.{nat_tests}
use Rattle.disk_model.specs.Numbers.{field, spell}
use Rattle.disk_model.specs.Bytes.{written}
use Rattle.disk_model.proofs.Fields.{field-written, field-written_apart, length-spell}
use Rattle.disk_model.proofs.Frames.{written_before, written_behind, length-written}

-- a number of so many bytes at a place
pub record Put : Type 0 where
  pub at : ℕ
  pub size : ℕ
  pub value : ℕ

abbrev pub put : ℕ → ℕ → ℕ → Put
put at size value = record { at = at; size = size; value = value }

-- the first one is written first
abbrev pub puts : List Put → List ℕ → List ℕ
puts [] bytes = bytes
puts (p ∷ ps) bytes = puts ps (written p.at (spell p.size p.value) bytes)

-- the k-th one
abbrev pub put_at : List Put → ℕ → Put
put_at [] k = put 0 0 0
put_at (p ∷ ps) zero = p
put_at (p ∷ ps) (suc k) = put_at ps k

-- they share no byte
abbrev pub is_apart : Put → Put → Bool
is_apart p q = nat_le (p.at + p.size) q.at || nat_le (q.at + q.size) p.at

abbrev pub are_apart : List Put → Bool
are_apart [] = true
are_apart (p ∷ ps) = list_all (is_apart p) ps && are_apart ps

-- all lie before a place, or from a place on
abbrev pub end_by : ℕ → List Put → Bool
end_by n [] = true
end_by n (p ∷ ps) = nat_le (p.at + p.size) n && end_by n ps

abbrev pub start_from : ℕ → List Put → Bool
start_from n [] = true
start_from n (p ∷ ps) = nat_le n p.at && start_from n ps

-- each number is below its bytes' limit
abbrev pub Fit : List Put → Type 0
Fit ps = AllByRecursion (λ (p : Put). p.value < 256 ^ p.size) ps

pub length-puts : (ps : List Put) (bytes : List ℕ) → length (puts ps bytes) ≡ length bytes
length-puts [] bytes = refl
length-puts (p ∷ ps) bytes = length-puts ps (written p.at (spell p.size p.value) bytes) ∙ length-written p.at (spell p.size p.value) bytes

pub le_of : (a b : ℕ) → nat_le a b ≡ true → a ≤ b
le_of a b h = grind (arith, nat_tests)

apart_of : (a b c d : ℕ) → (nat_le a b || nat_le c d) ≡ true → (a ≤ b) ⊎ (c ≤ d)
apart_of a b c d h = cases (nat_le a b) refl h
  where
    cases : (x : Bool) → nat_le a b ≡ x → (x || nat_le c d) ≡ true → (a ≤ b) ⊎ (c ≤ d)
    cases true e t = inl (le_of a b e)
    cases false e t = inr (le_of c d t)

-- a number apart from those that are written stays
field_stays : (ps : List Put) (p : Put) (bytes : List ℕ) → list_all (is_apart p) ps ≡ true → field p.at p.size (puts ps bytes) ≡ field p.at p.size bytes
field_stays [] p bytes h = refl
field_stays (q ∷ ps) p bytes h =
    let parts = and_parts (is_apart p q) (list_all (is_apart p) ps) h in
    let size = length-spell q.size q.value in
    let apart : (p.at + p.size ≤ q.at) ⊎ (q.at + length (spell q.size q.value) ≤ p.at) = sized q p (apart_of (p.at + p.size) q.at (q.at + q.size) p.at parts.0) in
    field_stays ps p (written q.at (spell q.size q.value) bytes) parts.1 ∙ field-written_apart p.at p.size q.at (spell q.size q.value) bytes apart
  where
    sized : (q p : Put) → (p.at + p.size ≤ q.at) ⊎ (q.at + q.size ≤ p.at) → (p.at + p.size ≤ q.at) ⊎ (q.at + length (spell q.size q.value) ≤ p.at)
    sized q p (inl h) = inl h
    sized q p (inr h) = inr (omega (arith, length-spell q.size q.value))

-- each number that was written is read
pub put_read : (ps : List Put) (n k : ℕ) (bytes : List ℕ) → are_apart ps ≡ true → end_by n ps ≡ true → n ≤ length bytes → Fit ps → k < length ps → field (put_at ps k).at (put_at ps k).size (puts ps bytes) ≡ (put_at ps k).value
put_read [] n k bytes a e le fit lt = absurd (omega arith)
put_read (p ∷ ps) n zero bytes a e le fit lt =
    let apart = and_parts (list_all (is_apart p) ps) (are_apart ps) a in
    let within = le_of (p.at + p.size) n (and_parts (nat_le (p.at + p.size) n) (end_by n ps) e).0 in
    field_stays ps p (written p.at (spell p.size p.value) bytes) apart.0 ∙ field-written p.at p.size p.value bytes (omega (arith, within)) fit.0
put_read (p ∷ ps) n (suc k) bytes a e le fit lt =
    let apart = and_parts (list_all (is_apart p) ps) (are_apart ps) a in
    let within = and_parts (nat_le (p.at + p.size) n) (end_by n ps) e in
    put_read ps n k (written p.at (spell p.size p.value) bytes) apart.1 within.1 (omega (arith, length-written p.at (spell p.size p.value) bytes)) fit.1 (omega arith)

-- bytes behind all that is written, and before it, stay
pub byte_behind : (ps : List Put) (n i : ℕ) (bytes : List ℕ) → end_by n ps ≡ true → n ≤ i → slice_index (puts ps bytes) i ≡ slice_index bytes i
byte_behind [] n i bytes e le = refl
byte_behind (p ∷ ps) n i bytes e le =
    let within = and_parts (nat_le (p.at + p.size) n) (end_by n ps) e in
    let ends = le_of (p.at + p.size) n within.0 in
    byte_behind ps n i (written p.at (spell p.size p.value) bytes) within.1 le ∙ written_behind p.at (spell p.size p.value) bytes i 0 (omega (arith, ends, length-spell p.size p.value))

pub byte_before : (ps : List Put) (n i : ℕ) (bytes : List ℕ) → start_from n ps ≡ true → i < n → slice_index (puts ps bytes) i ≡ slice_index bytes i
byte_before [] n i bytes e lt = refl
byte_before (p ∷ ps) n i bytes e lt =
    let within = and_parts (nat_le n p.at) (start_from n ps) e in
    let starts = le_of n p.at within.0 in
    byte_before ps n i (written p.at (spell p.size p.value) bytes) within.1 lt ∙ written_before p.at (spell p.size p.value) bytes i 0 (omega (arith, starts))

-- a chain of tests whose last value is read
pub from_ok : {A F : Type 0} (b : Bool) (x y : A) (f : F) → (if b then Ok x else Err f) ≡ Ok y → (b ≡ true) × (x ≡ y)
from_ok true x y f e = (refl, cc)
from_ok false x y f e = absurd cc

pub to_ok : {A F : Type 0} (b : Bool) (x y : A) (f : F) → b ≡ true → x ≡ y → (if b then Ok x else Err f) ≡ Ok y
to_ok true x y f h e = ap Ok e
to_ok false x y f h e = cc

pub le_true : (a b : ℕ) → a ≤ b → nat_le a b ≡ true
le_true a b h = grind (arith, nat_tests)

pub le_false : (a b : ℕ) → b < a → nat_le a b ≡ false
le_false a b h = grind (arith, nat_tests)
