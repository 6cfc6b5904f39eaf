-- Single bits of bytes.
use Rattle.std.proofs.Common.{◌≡◌, ℕ, ◌+◌, ◌-◌, ◌*◌, ◌%◌, ◌^◌, ◌<◌, ◌≤◌, ◌⊎◌, true, false, max, min, refl, ap, ◌∙◌, inl, inr, arith}
use Rattle.std.specs.Prelude.{◌==◌}
use Rattle.std.specs.Int.{bit_at, w8}
use Rattle.std.specs.Int.RustNames.{bit_or, bit_and}
use Rattle.std.proofs.lemmas.Nat.Bits.{bit_at_or, bit_at_and, bit_at_not, bit_at-lt, bit_at_mask_inside, bit_at_mask_below, bit_at_mask_above}
use lib.Pow.{pow-add, pow_mono, pow_pos}
use native.Mathlib.Nat.{mul-sub, mul_comm, mul-one, mod-eq_of_lt}
use Rattle.bit_set.specs.Words.{is_one}
use Rattle.bit_set.proofs.Bitwise.{is_one-or_inside, is_one-or_outside}

-- the mask of len bits from a place on
mask_of_ones : (from len : ℕ) → from + len ≤ 8 → (2 ^ len - 1) * 2 ^ from % 2 ^ 8 ≡ 2 ^ (from + len) - 2 ^ from
mask_of_ones from len h =
    let product : (2 ^ len - 1) * 2 ^ from ≡ 2 ^ (from + len) - 2 ^ from = mul_comm (2 ^ len - 1) (2 ^ from) ∙ mul-sub (2 ^ from) (2 ^ len) 1 ∙ (rw (mul-one (2 ^ from), pow-add 2 from len) refl) in
    let top = pow_mono h in
    let some = pow_pos from in
    rw product (mod-eq_of_lt (omega arith))

clear_inside : (byte mask j : ℕ) → mask < 2 ^ 8 → j < 8 → bit_at mask j ≡ 1 → is_one (bit_and byte (2 ^ 8 - 1 - mask)) j ≡ false
clear_inside byte mask j fits lt e =
    let both : bit_at (bit_and byte (2 ^ 8 - 1 - mask)) j ≡ 0 = bit_at_and byte (2 ^ 8 - 1 - mask) j ∙ ap (λ (x : ℕ). min (bit_at byte j) x) (bit_at_not w8 mask j fits lt) ∙ omega arith in
    ap (λ (x : ℕ). x == 1) both

clear_outside : (byte mask j : ℕ) → mask < 2 ^ 8 → j < 8 → bit_at mask j ≡ 0 → is_one (bit_and byte (2 ^ 8 - 1 - mask)) j ≡ is_one byte j
clear_outside byte mask j fits lt e =
    let below = bit_at-lt byte j in
    let both : bit_at (bit_and byte (2 ^ 8 - 1 - mask)) j ≡ bit_at byte j = bit_at_and byte (2 ^ 8 - 1 - mask) j ∙ ap (λ (x : ℕ). min (bit_at byte j) x) (bit_at_not w8 mask j fits lt) ∙ omega arith in
    ap (λ (x : ℕ). x == 1) both

mask_outside : (from len j : ℕ) → (j < from) ⊎ (from + len ≤ j) → bit_at (2 ^ (from + len) - 2 ^ from) j ≡ 0
mask_outside from len j (inl lt) = bit_at_mask_below from (from + len) j lt
mask_outside from len j (inr le) = bit_at_mask_above from (from + len) j le

mask_fits : (from len : ℕ) → from + len ≤ 8 → 2 ^ (from + len) - 2 ^ from < 2 ^ 8
mask_fits from len h = let top = pow_mono h in let some = pow_pos from in omega arith

-- the bits from a place on are set
pub filled_inside : (byte from len j : ℕ) → from + len ≤ 8 → from ≤ j → j < from + len → is_one (bit_or byte ((2 ^ len - 1) * 2 ^ from % 2 ^ 8)) j ≡ true
filled_inside byte from len j h le lt = rw (mask_of_ones from len h) (is_one-or_inside byte _ j (bit_at_mask_inside from (from + len) j le lt))

pub filled_outside : (byte from len j : ℕ) → from + len ≤ 8 → (j < from) ⊎ (from + len ≤ j) → is_one (bit_or byte ((2 ^ len - 1) * 2 ^ from % 2 ^ 8)) j ≡ is_one byte j
filled_outside byte from len j h out = rw (mask_of_ones from len h) (is_one-or_outside byte _ j (mask_outside from len j out))

-- the bits from a place on are clear
pub cleared_inside : (byte from len j : ℕ) → from + len ≤ 8 → from ≤ j → j < from + len → is_one (bit_and byte (2 ^ 8 - 1 - (2 ^ len - 1) * 2 ^ from % 2 ^ 8)) j ≡ false
cleared_inside byte from len j h le lt = rw (mask_of_ones from len h) (clear_inside byte _ j (mask_fits from len h) (omega arith) (bit_at_mask_inside from (from + len) j le lt))

pub cleared_outside : (byte from len j : ℕ) → from + len ≤ 8 → j < 8 → (j < from) ⊎ (from + len ≤ j) → is_one (bit_and byte (2 ^ 8 - 1 - (2 ^ len - 1) * 2 ^ from % 2 ^ 8)) j ≡ is_one byte j
cleared_outside byte from len j h lt out = rw (mask_of_ones from len h) (clear_outside byte _ j (mask_fits from len h) lt (mask_outside from len j out))
