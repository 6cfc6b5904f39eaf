-- Numbers and bytes that words spell.
use Rattle.std.proofs.Common.{◌≡◌, ℕ, ◌/◌, ◌^◌, ◌<◌, ◌≤◌, List, length, Some, None, Result, Ok, Err, refl, arith}
use Rattle.std.specs.Prelude.{Bool, true, false, if◌then◌else◌}
use Rattle.std.proofs.lemmas.Bool.Decides.{nat_tests}
use Rattle.hex.specs.declared.error.FromHexError.{FromHexError}
use Rattle.hex.specs.Hex.{decode_of}
use Rattle.hex.proofs.HexLemmas.{decode_of-ok}
use Rattle.host_base.specs.Numbers.{number_of, number_below, is_decimal, decimal_behind}
use Rattle.script_text.specs.Words.{most_written, bytes_or}

-- a number is below 2^62
below : (m n : ℕ) → number_below m ≡ Some n → n < 2 ^ 62
below m n h = grind (arith, nat_tests)

pub number_is_below : (word : List ℕ) (n : ℕ) → number_of word ≡ Some n → n < 2 ^ 62
unfolding number_of
number_is_below word n h = by (is_decimal word) h
  where
    by : (b : Bool) → (if b then number_below (decimal_behind 0 word) else None) ≡ Some n → n < 2 ^ 62
    by true e = below (decimal_behind 0 word) n e
    by false e = cc e

-- bytes within the bound are read
pub within_bound : (word bytes : List ℕ) → length word / 2 ≤ most_written → decode_of word ≡ Ok bytes → (bytes_or (decode_of word) ≡ Ok bytes) × (length bytes ≤ most_written)
within_bound word bytes le read =
    let twice = (decode_of-ok word bytes read).2 in
    let bound : length bytes ≤ most_written = omega (arith, twice) in
    (rw read (grind (arith, nat_tests)), bound)

-- more digits are refused, whatever they spell
pub past_bound : (word : List ℕ) → most_written < length word / 2 → bytes_or (decode_of word) ≡ Err 9
past_bound word lt = by (decode_of word) refl
  where
    by : (said : Result (List ℕ) FromHexError) → decode_of word ≡ said → bytes_or said ≡ Err 9
    by (Ok bytes) e =
        let twice = (decode_of-ok word bytes e).2 in
        let bound : most_written < length bytes = omega (arith, twice) in
        grind (arith, nat_tests)
    by (Err fault) e = refl
