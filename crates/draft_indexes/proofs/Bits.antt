-- The steps of making bytes of bits.
use Rattle.std.proofs.Common.{◌≡◌, ℕ, zero, suc, ◌+◌, ◌*◌, ◌<◌, ◌≤◌, ◌^◌, Bool, true, false, cond, List, length, ◌++◌, [], ◌∷◌, refl, sym, ap, ◌∙◌, arith}
use Rattle.std.proofs.lemmas.List.FromFn.{length-map-range_with_len, map-range_with_len_more}
use Rattle.std.proofs.Math.Pow.{pow_mono}
use Rattle.draft_indexes.specs.Growing.{low_bits, bytes_of_bits}

pub no_bits : (f : ℕ → Bool) → 0 ≡ low_bits f 0
unfolding low_bits
no_bits f = refl

next_bit : (f : ℕ → Bool) (n : ℕ) → low_bits f n + cond (f n) (2 ^ n) 0 ≡ low_bits f (suc n)
unfolding low_bits
next_bit f n = refl

-- one bit more
pub bit_more : (f : ℕ → Bool) (n sum bit : ℕ) → sum ≡ low_bits f n → bit ≡ cond (f n) (2 ^ n) 0 → sum + bit ≡ low_bits f (n + 1)
bit_more f n sum bit before is =
    let next : suc n ≡ n + 1 = omega arith in
    ap (λ (x : ℕ). x + bit) before ∙ ap (λ (x : ℕ). low_bits f n + x) is ∙ next_bit f n ∙ ap (low_bits f) next

chosen_low : (t : Bool) (x : ℕ) → cond t x 0 ≤ x
chosen_low true x = omega arith
chosen_low false x = omega arith

-- so many bits are below this power
pub bits_low : (f : ℕ → Bool) (n : ℕ) → low_bits f n < 2 ^ n
unfolding low_bits
bits_low f zero = omega arith
bits_low f (suc n) =
    let before = bits_low f n in
    let one = chosen_low (f n) (2 ^ n) in
    let power : 2 ^ suc n ≡ 2 ^ n + 2 ^ n = omega arith in
    omega (arith, before, one, power)

small_power : (n : ℕ) → n ≤ 8 → 2 ^ n ≤ 256
small_power n low = pow_mono low

-- the sum with one bit more is that of a byte
pub byte_fits : (f : ℕ → Bool) (n sum bit : ℕ) → n < 8 → sum ≡ low_bits f n → bit ≡ cond (f n) (2 ^ n) 0 → sum + bit < 256
byte_fits f n sum bit low before is =
    let more = bit_more f n sum bit before is in
    let less = bits_low f (n + 1) in
    let top = small_power (n + 1) (omega (arith, low)) in
    omega (arith, more, less, top)

pub no_bytes : (f : ℕ → Bool) → [] ≡ bytes_of_bits f 0
unfolding bytes_of_bits
no_bytes f = refl

pub byte_more : (f : ℕ → Bool) (n j byte : ℕ) (bytes : List ℕ) → n ≡ j → bytes ≡ bytes_of_bits f n → byte ≡ low_bits (λ k. f (8 * j + k)) 8 → bytes ++ byte ∷ [] ≡ bytes_of_bits f (n + 1)
unfolding bytes_of_bits
byte_more f n j byte bytes is before one =
    let place : 0 + n ≡ j = omega (arith, is) in
    ap (λ (l : List ℕ). l ++ byte ∷ []) before ∙ ap (λ (x : ℕ). bytes_of_bits f n ++ x ∷ []) one ∙ sym (map-range_with_len_more (λ (i : ℕ). low_bits (λ (k : ℕ). f (8 * i + k)) 8) 0 n j place)

pub bytes_count : (f : ℕ → Bool) (n : ℕ) → length (bytes_of_bits f n) ≡ n
unfolding bytes_of_bits
bytes_count f n = length-map-range_with_len (λ (j : ℕ). low_bits (λ (k : ℕ). f (8 * j + k)) 8) 0 n
