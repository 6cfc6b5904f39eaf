-- Single bits of numbers, and counts of clear bits.
use Rattle.std.proofs.Common.{◌≡◌, ℕ, zero, suc, ◌+◌, ◌-◌, ◌*◌, ◌/◌, ◌%◌, ◌^◌, ◌<◌, ◌≤◌, ◌⊎◌, Bool, true, false, cond, max, min, refl, sym, ap, ◌∙◌, inl, inr, arith, add-one, add-zero, add_assoc}
use Rattle.std.specs.Prelude.{◌==◌}
use Rattle.std.specs.Int.{bit_at, w64}
use Rattle.std.specs.Int.RustNames.{count_ones, bit_or, bit_and}
use Rattle.std.proofs.lemmas.Nat.Bits.{bit_at_or, bit_at_and, bit_at_not, bit_at-lt, bit_at_ones, bit_at_lowest, bit_at-suc, bit_at_mask_inside, bit_at_mask_below, bit_at_mask_above}
use Rattle.std.proofs.lemmas.Bool.Decides.{nat_tests}
use Rattle.std.specs.Int.Bits.{mask_lt}
use lib.Pow.{shr-shr, shr_lt, pow-add, pow_mono, pow_pos}
use native.Mathlib.Nat.{mul-sub, mul_comm, mul-one, mod-eq_of_lt, div-le_self}
use lib.Count.{ones, ones_step}
use Rattle.bit_set.specs.Words.{is_one, clear_count}

-- ---- one bit

pub bit_at-shr : (n s j : ℕ) → bit_at (n / 2 ^ s) j ≡ bit_at n (s + j)
bit_at-shr n s j = ap (λ (x : ℕ). x % 2) (shr-shr n s j)

-- the mask of len bits from a place on
pub mask_of_ones : (from len : ℕ) → from + len ≤ 64 → (2 ^ len - 1) * 2 ^ from % 2 ^ 64 ≡ 2 ^ (from + len) - 2 ^ from
mask_of_ones from len h =
    let product : (2 ^ len - 1) * 2 ^ from ≡ 2 ^ (from + len) - 2 ^ from = mul_comm (2 ^ len - 1) (2 ^ from) ∙ mul-sub (2 ^ from) (2 ^ len) 1 ∙ (rw (mul-one (2 ^ from), pow-add 2 from len) refl) in
    let top = pow_mono h in
    let some = pow_pos from in
    rw product (mod-eq_of_lt (omega arith))

pub is_one-or_inside : (word mask j : ℕ) → bit_at mask j ≡ 1 → is_one (bit_or word mask) j ≡ true
is_one-or_inside word mask j e =
    let lt = bit_at-lt word j in
    let both : bit_at (bit_or word mask) j ≡ 1 = bit_at_or word mask j ∙ ap (λ (x : ℕ). max (bit_at word j) x) e ∙ omega arith in
    ap (λ (x : ℕ). x == 1) both

pub is_one-or_outside : (word mask j : ℕ) → bit_at mask j ≡ 0 → is_one (bit_or word mask) j ≡ is_one word j
is_one-or_outside word mask j e =
    let both : bit_at (bit_or word mask) j ≡ bit_at word j = bit_at_or word mask j ∙ ap (λ (x : ℕ). max (bit_at word j) x) e ∙ omega arith in
    ap (λ (x : ℕ). x == 1) both

pub is_one-clear_inside : (word mask j : ℕ) → mask < 2 ^ 64 → j < 64 → bit_at mask j ≡ 1 → is_one (bit_and word (2 ^ 64 - 1 - mask)) j ≡ false
is_one-clear_inside word mask j fits lt e =
    let both : bit_at (bit_and word (2 ^ 64 - 1 - mask)) j ≡ 0 = bit_at_and word (2 ^ 64 - 1 - mask) j ∙ ap (λ (x : ℕ). min (bit_at word j) x) (bit_at_not w64 mask j fits lt) ∙ omega arith in
    ap (λ (x : ℕ). x == 1) both

pub is_one-clear_outside : (word mask j : ℕ) → mask < 2 ^ 64 → j < 64 → bit_at mask j ≡ 0 → is_one (bit_and word (2 ^ 64 - 1 - mask)) j ≡ is_one word j
is_one-clear_outside word mask j fits lt e =
    let below = bit_at-lt word j in
    let both : bit_at (bit_and word (2 ^ 64 - 1 - mask)) j ≡ bit_at word j = bit_at_and word (2 ^ 64 - 1 - mask) j ∙ ap (λ (x : ℕ). min (bit_at word j) x) (bit_at_not w64 mask j fits lt) ∙ omega arith in
    ap (λ (x : ℕ). x == 1) both

-- the bits from a place on are set
pub filled_inside : (word from len j : ℕ) → from + len ≤ 64 → from ≤ j → j < from + len → is_one (bit_or word ((2 ^ len - 1) * 2 ^ from % 2 ^ 64)) j ≡ true
filled_inside word from len j h le lt = rw (mask_of_ones from len h) (is_one-or_inside word _ j (bit_at_mask_inside from (from + len) j le lt))

mask_outside : (from len j : ℕ) → (j < from) ⊎ (from + len ≤ j) → bit_at (2 ^ (from + len) - 2 ^ from) j ≡ 0
mask_outside from len j (inl lt) = bit_at_mask_below from (from + len) j lt
mask_outside from len j (inr le) = bit_at_mask_above from (from + len) j le

pub filled_outside : (word from len j : ℕ) → from + len ≤ 64 → (j < from) ⊎ (from + len ≤ j) → is_one (bit_or word ((2 ^ len - 1) * 2 ^ from % 2 ^ 64)) j ≡ is_one word j
filled_outside word from len j h out = rw (mask_of_ones from len h) (is_one-or_outside word _ j (mask_outside from len j out))

mask_fits : (from len : ℕ) → from + len ≤ 64 → 2 ^ (from + len) - 2 ^ from < 2 ^ 64
mask_fits from len h = let top = pow_mono h in let some = pow_pos from in omega arith

-- the bits from a place on are clear
pub cleared_inside : (word from len j : ℕ) → from + len ≤ 64 → from ≤ j → j < from + len → is_one (bit_and word (2 ^ 64 - 1 - (2 ^ len - 1) * 2 ^ from % 2 ^ 64)) j ≡ false
cleared_inside word from len j h le lt = rw (mask_of_ones from len h) (is_one-clear_inside word _ j (mask_fits from len h) (omega arith) (bit_at_mask_inside from (from + len) j le lt))

pub cleared_outside : (word from len j : ℕ) → from + len ≤ 64 → j < 64 → (j < from) ⊎ (from + len ≤ j) → is_one (bit_and word (2 ^ 64 - 1 - (2 ^ len - 1) * 2 ^ from % 2 ^ 64)) j ≡ is_one word j
cleared_outside word from len j h lt out = rw (mask_of_ones from len h) (is_one-clear_outside word _ j (mask_fits from len h) lt (mask_outside from len j out))

-- ---- counts of clear bits

no_ones : count_ones 0 ≡ 0
unfolding ones
no_ones = refl

half_lt : {x : ℕ} (n : ℕ) → x < 2 ^ suc n → x / 2 < 2 ^ n
half_lt {x} n h = shr_lt n 1 (rw add-one h)

pub clear_count-zero : (f : ℕ → Bool) (a : ℕ) → clear_count f a 0 ≡ 0
unfolding clear_count
clear_count-zero f a = refl

pub clear_count-suc : (f : ℕ → Bool) (a n : ℕ) → clear_count f a (suc n) ≡ cond (f a) 0 1 + clear_count f (a + 1) n
unfolding clear_count
clear_count-suc f a n = refl

at_most_one : (b : Bool) → cond b 0 1 ≤ 1
at_most_one true = omega arith
at_most_one false = omega arith

pub clear_count-le : (f : ℕ → Bool) (a n : ℕ) → clear_count f a n ≤ n
clear_count-le f a zero = omega (arith, clear_count-zero f a)
clear_count-le f a (suc n) = omega (arith, clear_count-suc f a n, at_most_one (f a), clear_count-le f (a + 1) n)

pub clear_count-add : (f : ℕ → Bool) (a m n : ℕ) → clear_count f a (m + n) ≡ clear_count f a m + clear_count f (a + m) n
clear_count-add f a zero n =
    let whole : clear_count f a (0 + n) ≡ clear_count f a n = ap (λ (x : ℕ). clear_count f a x) (omega arith) in
    let rest : clear_count f (a + 0) n ≡ clear_count f a n = ap (λ (x : ℕ). clear_count f x n) (omega arith) in
    omega (arith, clear_count-zero f a)
clear_count-add f a (suc m) n =
    let whole : clear_count f a (suc m + n) ≡ clear_count f a (suc (m + n)) = ap (λ (x : ℕ). clear_count f a x) (omega arith) in
    let rest : clear_count f (a + 1 + m) n ≡ clear_count f (a + suc m) n = ap (λ (x : ℕ). clear_count f x n) (omega arith) in
    omega (arith, clear_count-suc f a (m + n), clear_count-suc f a m, clear_count-add f (a + 1) m n)

pub clear_count-same : (f g : ℕ → Bool) (a b n : ℕ) → ((j : ℕ) → j < n → f (a + j) ≡ g (b + j)) → clear_count f a n ≡ clear_count g b n
clear_count-same f g a b zero h = clear_count-zero f a ∙ sym (clear_count-zero g b)
clear_count-same f g a b (suc n) h =
    let here : f a ≡ g b = rw (add-zero a, add-zero b) at (h 0 (omega arith)) in
    let later : (j : ℕ) → j < n → f (a + 1 + j) ≡ g (b + 1 + j) = λ j lt. rw (add_assoc a 1 j, add_assoc b 1 j) (h (1 + j) (omega arith)) in
    let heads : cond {A = ℕ} (f a) 0 1 ≡ cond {A = ℕ} (g b) 0 1 = ap (λ (x : Bool). cond {A = ℕ} x 0 1) here in
    omega (arith, clear_count-suc f a n, clear_count-suc g b n, clear_count-same f g (a + 1) (b + 1) n later)

-- the ones of x are the clear bits of f
pub count_ones-of_clear : (n x : ℕ) (f : ℕ → Bool) (a : ℕ) → x < 2 ^ n → ((j : ℕ) → j < n → bit_at x j ≡ cond (f (a + j)) 0 1) → count_ones x ≡ clear_count f a n
count_ones-of_clear zero x f a h bits =
    let none : x ≡ 0 = omega arith in
    ap count_ones none ∙ no_ones ∙ sym (clear_count-zero f a)
count_ones-of_clear (suc n) x f a h bits =
    let head : x % 2 ≡ cond (f a) 0 1 = sym (bit_at_lowest x) ∙ (rw add-zero at (bits 0 (omega arith))) in
    let later : (j : ℕ) → j < n → bit_at (x / 2) j ≡ cond (f (a + 1 + j)) 0 1 = λ j lt. sym (bit_at-suc x j) ∙ bits (suc j) (omega arith) ∙ ap (λ (i : ℕ). cond (f i) 0 1) (omega arith) in
    omega (arith, ones_step x, clear_count-suc f a n, count_ones-of_clear n (x / 2) f (a + 1) (half_lt n h) later)

bit_cases : (b : ℕ) → b < 2 → 1 - b ≡ cond (b == 1) 0 1
bit_cases b lt = grind (arith, nat_tests)

-- the ones of the turned word are its clear bits
pub count_ones-of_turned : (word from len : ℕ) → word < 2 ^ 64 → from + len ≤ 64 → count_ones (bit_and (2 ^ 64 - 1 - word / 2 ^ from) (2 ^ len - 1)) ≡ clear_count (is_one word) from len
count_ones-of_turned word from len fits h =
    count_ones-of_clear len _ (is_one word) from (mask_lt _ len) (λ j lt.
    let part : ℕ = word / 2 ^ from in
    let small : word / 2 ^ from ≤ word = div-le_self word (2 ^ from) in
    let turned : bit_at (2 ^ 64 - 1 - word / 2 ^ from) j ≡ 1 - bit_at (word / 2 ^ from) j = bit_at_not w64 (word / 2 ^ from) j (omega arith) (omega arith) in
    let here : bit_at (2 ^ 64 - 1 - word / 2 ^ from) j ≡ 1 - bit_at word (from + j) = turned ∙ ap (λ (x : ℕ). 1 - x) (bit_at-shr word from j) in
    let mask = bit_at_ones len j lt in
    bit_at_and (2 ^ 64 - 1 - word / 2 ^ from) (2 ^ len - 1) j ∙ (rw (here, mask) (omega arith)) ∙ bit_cases (bit_at word (from + j)) (bit_at-lt word (from + j)))
