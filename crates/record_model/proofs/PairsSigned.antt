-- Signed numbers in the fewest bytes.
use Rattle.std.proofs.Common.{◌≡◌, ◌⊎◌, ℕ, ℤ, pos, negsuc, zero, suc, ◌+◌, ◌-◌, ◌*◌, ◌%◌, ◌^◌, ◌<◌, ◌≤◌, ◌-ℤ◌, w64, of_z, suc-mul, Bool, true, false, cond, ltb, List, [], ◌++◌, length, take, refl, sym, ap, ◌∙◌, inl, inr, arith}
use Rattle.std.proofs.Math.Nat.{one-le-pow, mod-lt}
use Rattle.std.proofs.lemmas.Bool.{ltb-true, leb-true, le-ltb, false≢true}
use Rattle.std.proofs.lemmas.Int.{ints}
use Rattle.std.proofs.lemmas.List.{take_at, append-nil}
use Rattle.std.proofs.lemmas.Nat.{mod-mul-add, pow-add}
use Rattle.byteorder.specs.Endian.{little_number, little_bytes, low_bytes, twos_complement}
use Rattle.byteorder.specs.Numbers.{length-bytes_low_first, little_number-reads_back}
use Rattle.byteorder.proofs.Bytes.{pow256, sign_bit}
use Rattle.record_model.specs.Pairs.{signed, fits_bytes, least_width, signed_width, signed_bytes}

pub length-signed_bytes : (z : ℤ) → length (signed_bytes z) ≡ signed_width z
unfolding signed_bytes
length-signed_bytes z = length-bytes_low_first 0 (signed_width z) (low_bytes w64 (signed_width z) z)

-- for `grind`
pub ruleset signed_lengths = length-signed_bytes

-- the bytes of a number at the front of a buffer
pub take-signed : (z : ℤ) (n : ℕ) (buffer rest : List ℕ) → n ≡ signed_width z → buffer ≡ little_bytes n (low_bytes w64 n z) ++ rest → take n buffer ≡ signed_bytes z
unfolding signed_bytes
take-signed z n buffer rest wide is =
    ap (take n) is ∙ take_at (little_bytes n (low_bytes w64 n z)) rest n (length-bytes_low_first 0 n (low_bytes w64 n z)) ∙ ap (λ (k : ℕ). little_bytes k (low_bytes w64 k z)) wide

-- ---- the width

true_or_false : (b : Bool) → (b ≡ true) ⊎ (b ≡ false)
true_or_false true = inl refl
true_or_false false = inr refl

least_width-ge : (more n : ℕ) (z : ℤ) → n ≤ least_width more n z
unfolding least_width
least_width-ge zero n z = omega arith
least_width-ge (suc more) n z =
    let later : suc n ≤ least_width more (suc n) z = least_width-ge more (suc n) z in
    elim (fits_bytes n z) as (λ b. n ≤ cond b n (least_width more (suc n) z)) [ true ↦ omega arith | false ↦ omega arith ]

least_width-le : (more n : ℕ) (z : ℤ) → least_width more n z ≤ n + more
unfolding least_width
least_width-le zero n z = omega arith
least_width-le (suc more) n z =
    let later : least_width more (suc n) z ≤ suc n + more = least_width-le more (suc n) z in
    elim (fits_bytes n z) as (λ b. cond b n (least_width more (suc n) z) ≤ n + suc more) [ true ↦ omega arith | false ↦ omega arith ]

least_width-holds : (more n : ℕ) (z : ℤ) → fits_bytes (n + more) z ≡ true → fits_bytes (least_width more n z) z ≡ true
unfolding least_width
least_width-holds zero n z held = let same : n ≡ n + 0 = omega arith in ap (λ (k : ℕ). fits_bytes k z) same ∙ held
least_width-holds (suc more) n z held =
    let later = least_width more (suc n) z in
    let same : suc n + more ≡ n + suc more = omega arith in
    elim (true_or_false (fits_bytes n z)) [
      | inl fits ↦ ap (λ (b : Bool). fits_bytes (cond b n later) z) fits ∙ fits
      | inr short ↦ ap (λ (b : Bool). fits_bytes (cond b n later) z) short ∙ least_width-holds more (suc n) z (ap (λ (k : ℕ). fits_bytes k z) same ∙ held)
    ]

least_width-least : (more n m : ℕ) (z : ℤ) → n ≤ m → fits_bytes m z ≡ true → least_width more n z ≤ m
unfolding least_width
least_width-least zero n m z le held = le
least_width-least (suc more) n m z le held =
    elim (true_or_false (fits_bytes n z)) as (λ _. cond (fits_bytes n z) n (least_width more (suc n) z) ≤ m) [
      | inl fits ↦ (let found : cond (fits_bytes n z) n (least_width more (suc n) z) ≡ n = ap (λ (b : Bool). cond b n (least_width more (suc n) z)) fits in omega arith)
      | inr short ↦
          (let apart : n ≡ m → ⊥ = λ e. false≢true (sym short ∙ ap (λ (k : ℕ). fits_bytes k z) e ∙ held) in
          let above : suc n ≤ m = omega arith in
          let later : least_width more (suc n) z ≤ m = least_width-least more (suc n) m z above held in
          let passed : cond (fits_bytes n z) n (least_width more (suc n) z) ≡ least_width more (suc n) z = ap (λ (b : Bool). cond b n (least_width more (suc n) z)) short in
          omega arith)
    ]

pub signed_width-ge : (z : ℤ) → 1 ≤ signed_width z
unfolding signed_width
signed_width-ge z = least_width-ge 7 1 z

pub signed_width-le : (z : ℤ) → signed_width z ≤ 8
unfolding signed_width
signed_width-le z = least_width-le 7 1 z

pub signed_width-holds : (z : ℤ) → fits_bytes 8 z ≡ true → fits_bytes (signed_width z) z ≡ true
unfolding signed_width
signed_width-holds z held = least_width-holds 7 1 z held

-- no fewer bytes hold it
pub signed_width-least : (m : ℕ) (z : ℤ) → 1 ≤ m → fits_bytes m z ≡ true → signed_width z ≤ m
unfolding signed_width
signed_width-least m z some held = least_width-least 7 1 m z some held

-- ---- reading again

-- a number below 0, in its lowest bytes
wrapped : (k p v : ℕ) → suc v ≤ p → (suc k * p - suc v) % p ≡ p - suc v
wrapped k p v le =
    let split : suc k * p - suc v ≡ k * p + (p - suc v) = omega (arith, suc-mul k p) in
    ap (λ (n : ℕ). n % p) split ∙ mod-mul-add k p (p - suc v) (omega arith)

-- n bytes are a part of 8
whole_words : (n : ℕ) → n ≤ 8 → (k : ℕ) × (2 ^ 64 ≡ suc k * 2 ^ (8 * n))
whole_words n high =
    let q = 2 ^ (64 - 8 * n) in
    let some : 1 ≤ q = one-le-pow (64 - 8 * n) 2 (omega arith) in
    let count : 64 ≡ (64 - 8 * n) + 8 * n = omega arith in
    let all : 2 ^ 64 ≡ q * 2 ^ (8 * n) = ap (λ (e : ℕ). 2 ^ e) count ∙ pow-add 2 (64 - 8 * n) (8 * n) in
    let next : q ≡ suc (q - 1) = omega arith in
    (q - 1, all ∙ ap (λ (m : ℕ). m * 2 ^ (8 * n)) next)

-- a number that n bytes hold is read from its lowest n bytes
twos-low : (n : ℕ) (z : ℤ) → 1 ≤ n → n ≤ 8 → fits_bytes n z ≡ true → twos_complement n (low_bytes w64 n z) ≡ z
twos-low n (pos v) low high held =
    let p = 2 ^ (8 * n) in
    let half = 2 ^ (8 * n - 1) in
    let below : v < half = ltb-true v half held in
    let twice : p ≡ 2 * half = sym (pow256 n) ∙ (sign_bit n low high).2 in
    let none : v ≡ 0 * p + v = omega arith in
    let same : v % p ≡ v = ap (λ (m : ℕ). m % p) none ∙ mod-mul-add 0 p v (omega arith) in
    ap (λ (x : ℕ). cond (ltb x half) (pos x) (pos x -ℤ pos p)) same ∙ ap (λ (b : Bool). cond b (pos v) (pos v -ℤ pos p)) held
twos-low n (negsuc v) low high held =
    let p = 2 ^ (8 * n) in
    let half = 2 ^ (8 * n - 1) in
    let within : suc v ≤ half = leb-true (suc v) half held in
    let twice : p ≡ 2 * half = sym (pow256 n) ∙ (sign_bit n low high).2 in
    let words = whole_words n high in
    let same : (2 ^ 64 - suc v) % p ≡ p - suc v = ap (λ (m : ℕ). (m - suc v) % p) words.1 ∙ wrapped words.0 p v (omega arith) in
    let high_half : ltb (p - suc v) half ≡ false = le-ltb (p - suc v) half (omega arith) in
    let back : pos (p - suc v) -ℤ pos p ≡ negsuc v = omega (arith, ints) in
    ap (λ (x : ℕ). cond (ltb x half) (pos x) (pos x -ℤ pos p)) same ∙ ap (λ (b : Bool). cond b (pos (p - suc v)) (pos (p - suc v) -ℤ pos p)) high_half ∙ back

low-lt : (n : ℕ) (z : ℤ) → low_bytes w64 n z < 256 ^ n
low-lt n z =
    let some : 1 ≤ 2 ^ (8 * n) = one-le-pow (8 * n) 2 (omega arith) in
    let below : of_z w64 z % 2 ^ (8 * n) < 2 ^ (8 * n) = mod-lt (of_z w64 z) some in
    omega (arith, pow256 n)

-- a signed number of 64 bits is read again
pub signed-signed_bytes : (z : ℤ) → fits_bytes 8 z ≡ true → signed (signed_bytes z) ≡ z
unfolding signed signed_bytes
signed-signed_bytes z held =
    let n = signed_width z in
    let x = low_bytes w64 n z in
    let bytes = little_bytes n x in
    let read : little_number n bytes ≡ x = ap (little_number n) (sym (append-nil bytes)) ∙ little_number-reads_back n x [] (low-lt n z) in
    ap (λ (k : ℕ). twos_complement k (little_number k bytes)) (length-bytes_low_first 0 n x)
    ∙ ap (twos_complement n) read
    ∙ twos-low n z (signed_width-ge z) (signed_width-le z) (signed_width-holds z held)
