-- Bits of flags, by masks and by numbers.
use Rattle.std.proofs.Common.{◌≡◌, ◌==◌, ℕ, zero, suc, ◌+◌, ◌*◌, ◌/◌, ◌%◌, ◌^◌, ◌<◌, Bool, refl, sym, ap, ◌∙◌, bit_and, arith}
use Rattle.std.proofs.lemmas.Nat.Bits.{and_pow}

-- one of two bits times a power is that power exactly where the bit is 1
bit_is : (bit power : ℕ) → bit < 2 → 0 < power → (bit * power == power) ≡ (bit == 1)
bit_is bit power = grind arith

pub has_bit : (n k : ℕ) → 0 < 2 ^ k → (bit_and n (2 ^ k) == 2 ^ k) ≡ (n / 2 ^ k % 2 == 1)
has_bit n k some = ap (λ m. m == 2 ^ k) (and_pow n k) ∙ bit_is (n / 2 ^ k % 2) (2 ^ k) (grind arith) some

pub bit_1 : (n : ℕ) → (bit_and n 2 == 2) ≡ (n / 2 % 2 == 1)
bit_1 n = has_bit n 1 (grind arith)

pub bit_14 : (n : ℕ) → (bit_and n 0x4000 == 0x4000) ≡ (n / 0x4000 % 2 == 1)
bit_14 n = has_bit n 14 (grind arith)

pub bit_15 : (n : ℕ) → (bit_and n 0x8000 == 0x8000) ≡ (n / 0x8000 % 2 == 1)
bit_15 n = has_bit n 15 (grind arith)

pub bit_28 : (n : ℕ) → (bit_and n 0x10000000 == 0x10000000) ≡ (n / 0x10000000 % 2 == 1)
bit_28 n = has_bit n 28 (grind arith)
