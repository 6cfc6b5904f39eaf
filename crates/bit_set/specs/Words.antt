-- Bits in words and in bytes, the low bit first.
use Rattle.std.specs.Prelude.{◌≡◌, ℕ, zero, suc, ◌+◌, ◌*◌, ◌/◌, ◌%◌, ◌^◌, ◌<◌, ◌≤◌, ◌⊎◌, Bool, ◌==◌, if◌then◌else◌, List, length, map, slice_index}
use Rattle.std.specs.Int.{bit_at}
use Rattle.std.specs.List.{range_with_len}

-- whether this bit of a number is one
abbrev pub is_one : ℕ → ℕ → Bool
is_one word j = bit_at word j == 1

-- the bit at a place, 64 to a word
abbrev pub word_bit : List ℕ → ℕ → Bool
word_bit words i = is_one (slice_index words (i / 64)) (i % 64)

-- the bit at a place, eight to a byte; past the bytes it is clear
abbrev pub byte_bit : List ℕ → ℕ → Bool
byte_bit bytes i = is_one (slice_index bytes (i / 8)) (i % 8)

-- the first n bits of the words
unfoldable pub bits_of : List ℕ → ℕ → List Bool
bits_of words n = map (word_bit words) (range_with_len 0 n)

-- the first n bits of the bytes
unfoldable pub bits_of_bytes : List ℕ → ℕ → List Bool
bits_of_bytes bytes n = map (byte_bit bytes) (range_with_len 0 n)

-- how many of the n places from a on have a clear bit
unfoldable pub clear_count : (ℕ → Bool) → ℕ → ℕ → ℕ
clear_count f a zero = 0
clear_count f a (suc n) = (if f a then 0 else 1) + clear_count f (a + 1) n

-- the bits from first on, below end, have this value, and each other bit and the count of words stay
pub record FillsRun (old new : List ℕ) (first end : ℕ) (value : Bool) : Type 0 where
  pub same_count : length new ≡ length old
  pub inside : (i : ℕ) → first ≤ i → i < end → word_bit new i ≡ value
  pub others : (i : ℕ) → (i < first) ⊎ (end ≤ i) → word_bit new i ≡ word_bit old i

-- the words have room for the bits, of which so many are clear
pub record IsCounted (words : List ℕ) (bits clear : ℕ) : Type 0 where
  pub room : bits ≤ 64 * length words
  pub fits : bits < 2 ^ 64
  pub count : clear ≡ clear_count (word_bit words) 0 bits
