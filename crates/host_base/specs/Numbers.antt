-- Decimal numbers, as scripts and command lines have them.
use Rattle.std.specs.Prelude.{ℕ, ◌+◌, ◌-◌, ◌*◌, ◌^◌, Bool, ◌&&◌, ◌||◌, not, ◌==◌, nat_lt, if◌then◌else◌, List, [], ◌∷◌, length, slice_index, Option, Some, None}
use Rattle.std.specs.List.{list_all}
use Rattle.std.specs.Char.{is_ascii_digit}

-- the number that digits stand for, behind digits that stand for the first
abbrev pub decimal_behind : ℕ → List ℕ → ℕ
decimal_behind front [] = front
decimal_behind front (digit ∷ digits) = decimal_behind (front * 10 + (digit - 48)) digits

-- `0`, or decimal digits without a leading 0
abbrev pub is_decimal : List ℕ → Bool
is_decimal word = list_all is_ascii_digit word && nat_lt 0 (length word) && (length word == 1 || not (slice_index word 0 == 48))

-- a number is below 2^62
abbrev pub number_below : ℕ → Option ℕ
number_below number = if nat_lt number (2 ^ 62) then Some number else None

-- the number of a word
unfoldable pub number_of : List ℕ → Option ℕ
number_of word = if is_decimal word then number_below (decimal_behind 0 word) else None
