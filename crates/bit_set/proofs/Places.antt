-- Places in words.
use Rattle.std.proofs.Common.{◌++◌, take, drop, replicate, min, ◌≡◌, ℕ, zero, suc, ◌+◌, ◌-◌, ◌*◌, ◌/◌, ◌%◌, ◌^◌, ◌<◌, ◌≤◌, ◌≢◌, Bool, true, false, cond, List, length, get_or, refl, sym, ap, ap₂, ◌∙◌, inl, inr, arith}
use Rattle.std.specs.Prelude.{not, ◌==◌}
use Rattle.std.specs.Int.{bit_at, trailing_zeros, w64}
use Rattle.std.proofs.lemmas.Bool.{cases_lt}
use Rattle.std.proofs.lemmas.List.{length-take-le, get_or_append_left, get_or-append_right, get_or-take, get_or-drop, get_or_past}
use Rattle.std.proofs.lemmas.Bool.Decides.{nat_tests}
use Rattle.std.proofs.lemmas.Nat.Bits.{bit_at-trailing_zeros, bit_at_above, bit_at-lt, bit_at_not, bit_at_cat_low, bit_at_cat_high}
use Rattle.byteorder.specs.Endian.{little_from}
use lib.Pow.{shr_lt, pow_mono}
use native.Mathlib.Nat.{lt_of_lt_of_le}
use Rattle.bit_set.specs.Words.{is_one, word_bit, clear_count}
use Rattle.bit_set.proofs.Bitwise.{bit_at-shr, clear_count-same}

-- a place of a word, by the word and the bit in it
pub word_bit-at : (words : List ℕ) (at j : ℕ) → at % 64 + j < 64 → word_bit words (at + j) ≡ is_one (get_or words (at / 64) 0) (at % 64 + j)
word_bit-at words at j lt =
    let word : (at + j) / 64 ≡ at / 64 = omega arith in
    let place : (at + j) % 64 ≡ at % 64 + j = omega arith in
    ap₂ (λ (x y : ℕ). is_one (get_or words x 0) y) word place

-- the clear bits of a word, as places of the words
pub clear_count-in_word : (words : List ℕ) (at len : ℕ) → at % 64 + len ≤ 64 → clear_count (is_one (get_or words (at / 64) 0)) (at % 64) len ≡ clear_count (word_bit words) at len
clear_count-in_word words at len h = clear_count-same _ (word_bit words) (at % 64) at len (λ j lt. sym (word_bit-at words at j (omega arith)))

-- ---- the first bit that differs

equal_value : (v b : Bool) → cond v (not b) b ≡ false → b ≡ v
equal_value true true h = refl
equal_value true false h = sym h
equal_value false true h = h
equal_value false false h = refl

other_value : (v b : Bool) → cond v (not b) b ≡ true → b ≡ v → ⊥
other_value true true h e = cc
other_value true false h e = cc
other_value false true h e = cc
other_value false false h e = cc

-- the ones of d are the bits of the word that differ from the value
abbrev pub Differs : ℕ → ℕ → Bool → Type 0
Differs d word v = (j : ℕ) → j < 64 → is_one d j ≡ cond v (not (is_one word j)) (is_one word j)

bit_one : (x j : ℕ) → bit_at x j ≡ 1 → is_one x j ≡ true
bit_one x j e = rw e refl

bit_zero : (x j : ℕ) → bit_at x j ≡ 0 → is_one x j ≡ false
bit_zero x j e = rw e refl

pub same_below : (d word from k : ℕ) (v : Bool) → Differs d word v → ((i : ℕ) → i < k → bit_at (d / 2 ^ from) i ≡ 0) → from + k ≤ 64 → (j : ℕ) → from ≤ j → j < from + k → is_one word j ≡ v
same_below d word from k v differs zeros within j le lt =
    let place : from + (j - from) ≡ j = omega arith in
    let none : bit_at d j ≡ 0 = ap (bit_at d) (sym place) ∙ sym (bit_at-shr d from (j - from)) ∙ zeros (j - from) (omega arith) in
    equal_value v (is_one word j) (sym (differs j (omega arith)) ∙ bit_zero d j none)

pub other_at : (d word from k : ℕ) (v : Bool) → Differs d word v → bit_at (d / 2 ^ from) k ≡ 1 → from + k < 64 → is_one word (from + k) ≡ v → ⊥
other_at d word from k v differs one within =
    other_value v (is_one word (from + k)) (sym (differs (from + k) within) ∙ bit_one d (from + k) (sym (bit_at-shr d from k) ∙ one))

whole_word : (from : ℕ) → from < 64 → 64 - from + from ≡ 64
whole_word from lt = omega arith

pub trailing_in_word : (d from : ℕ) → d < 2 ^ 64 → from < 64 → (d / 2 ^ from ≢ 0) → (from + trailing_zeros w64 (d / 2 ^ from) < 64) × (bit_at (d / 2 ^ from) (trailing_zeros w64 (d / 2 ^ from)) ≡ 1) × ((i : ℕ) → i < trailing_zeros w64 (d / 2 ^ from) → bit_at (d / 2 ^ from) i ≡ 0)
trailing_in_word d from fits lt some =
    let x : ℕ = d / 2 ^ from in
    let small : d / 2 ^ from < 2 ^ (64 - from) = shr_lt (64 - from) from (rw (whole_word from lt) fits) in
    let low : d / 2 ^ from < 2 ^ 64 = lt_of_lt_of_le small (pow_mono {i = 64 - from} {j = 64} (omega arith)) in
    let found = bit_at-trailing_zeros w64 (d / 2 ^ from) (omega arith) low in
    let inside : from + trailing_zeros w64 (d / 2 ^ from) < 64 =
    elim (cases_lt (trailing_zeros w64 (d / 2 ^ from)) (64 - from)) [
      | inl below ↦ omega arith
      | inr above ↦ (let none = bit_at_above (d / 2 ^ from) (64 - from) (trailing_zeros w64 (d / 2 ^ from)) small above in absurd (omega (arith, none, found.1)))
    ] in
    (inside, found.1, found.2)

turned_bit : (b : ℕ) → b < 2 → (1 - b == 1) ≡ not (b == 1)
turned_bit b lt = grind (arith, nat_tests)

pub is_one-not : (word j : ℕ) → word < 2 ^ 64 → j < 64 → is_one (2 ^ 64 - 1 - word) j ≡ not (is_one word j)
is_one-not word j fits lt = ap (λ (x : ℕ). x == 1) (bit_at_not w64 word j fits lt) ∙ turned_bit (bit_at word j) (bit_at-lt word j)

-- ---- bits of bytes

-- a bit of a number by the byte that it stands in
pub bit_at-little_from : (n i : ℕ) (xs : List ℕ) → ((k : ℕ) → k < i + n → get_or xs k 0 < 256) → (j : ℕ) → j < 8 * n → bit_at (little_from i n xs) j ≡ bit_at (get_or xs (i + j / 8) 0) (j % 8)
bit_at-little_from zero i xs small j lt = absurd (omega arith)
bit_at-little_from (suc n) i xs small j lt =
    let parts : little_from i (suc n) xs ≡ little_from (suc i) n xs * 2 ^ 8 + get_or xs i 0 = omega arith in
    elim (cases_lt j 8) [
      | inl low ↦ (let byte : i + j / 8 ≡ i = omega arith in let place : j % 8 ≡ j = omega arith in rw (parts, byte, place) (bit_at_cat_low (little_from (suc i) n xs) 8 (get_or xs i 0) j low))
      | inr high ↦ (let byte : suc i + (j - 8) / 8 ≡ i + j / 8 = omega arith in let place : (j - 8) % 8 ≡ j % 8 = omega arith in rw (parts, ← byte, ← place) (bit_at_cat_high (little_from (suc i) n xs) 8 (get_or xs i 0) j (small i (omega arith)) high ∙ bit_at-little_from n (suc i) xs (λ k below. small k (omega arith)) (j - 8) (omega arith)))
    ]

-- ---- bytes with zeros behind

all_zeros : (n k : ℕ) → get_or {A = ℕ} (replicate n 0) k 0 ≡ 0
all_zeros zero k = refl
all_zeros (suc n) zero = refl
all_zeros (suc n) (suc k) = all_zeros n k

pub get_or-padded : (rest : List ℕ) (n count k : ℕ) → count ≡ min (length rest) n → k < n → get_or (take count rest ++ drop count (replicate n 0)) k 0 ≡ get_or rest k 0
get_or-padded rest n count k e lt =
    let same_length : length (take count rest) ≡ count = length-take-le count rest (omega arith) in
    elim (cases_lt k count) [
      | inl low ↦ get_or_append_left (take count rest) (drop count (replicate n 0)) 0 k (omega arith) ∙ get_or-take count rest k 0 low
      | inr high ↦ get_or-append_right (take count rest) (drop count (replicate n 0)) count k 0 same_length high ∙ get_or-drop count (replicate n 0) (k - count) 0 ∙ all_zeros n _ ∙ sym (get_or_past rest k 0 (omega arith))
    ]

pub get_or-from : (bytes : List ℕ) (at from k : ℕ) → from ≡ min at (length bytes) → get_or (drop from bytes) k 0 ≡ get_or bytes (at + k) 0
get_or-from bytes at from k e =
    get_or-drop from bytes k 0 ∙ elim (cases_lt (length bytes) at) [
      | inl past ↦ get_or_past bytes (from + k) 0 (omega arith) ∙ sym (get_or_past bytes (at + k) 0 (omega arith))
      | inr inside ↦ ap (λ (i : ℕ). get_or bytes i 0) (omega arith)
    ]
