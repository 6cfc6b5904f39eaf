-- What is printed is read.
use Rattle.std.proofs.Common.{◌≡◌, ℕ, ◌/◌, ◌%◌, ◌^◌, ◌<◌, Bool, true, false, cond, inl, inr, List, [], ◌∷◌, ◌++◌, length, Some, None, Ok, lit<, refl, ap, ◌∙◌, arith}
use Rattle.std.specs.Prelude.{suc, zero, All, slice_index, ◌&&◌, ◌==◌, nat_lt}
use Rattle.std.specs.Str.{IsAscii}
use Rattle.std.specs.Char.{digit_value}
use Rattle.std.proofs.lemmas.Bool.{and_parts, cases_lt, eqb-true}
use Rattle.std.proofs.lemmas.Bool.Decides.{nat_tests}
use Rattle.std.proofs.lemmas.List.Elements.{All-head, All-tail}
use Rattle.std.proofs.lemmas.Str.{chars-IsAscii, IsAscii-append}
use Rattle.std.proofs.lemmas.Str.Ascii.{IsAscii-nil, IsAscii-cons}
use Rattle.std.specs.List.{flat_map}
use borrow.Author.Tests.{ltb-true}
use Rattle.std.specs.Char.Escape.{encode_utf16}
use Rattle.hex.specs.Hex.{encode_with, upper_digits}
use Rattle.hex.proofs.HexLemmas.{IsAscii-encode_with}
use Rattle.utf16_name.specs.Texts.{is_plain, escaped, unit_text, name_text}
use Rattle.utf16_name.specs.Elements.{digit_of, digit_at, digits_at, escape_at, element_of, element_at}
use Rattle.utf16_name.specs.Reading.{units_in, with_front, placed, units_of_text}
use Rattle.utf16_name.proofs.Walks.{units_in-element, units_in-nil}

-- the first n digits of the upper-case table are read as their places
abbrev reads_back : ℕ → Bool
reads_back zero = true
reads_back (suc n) = (digit_value (slice_index upper_digits n) == n) && reads_back n

reads_back-at : (n k : ℕ) → reads_back n ≡ true → k < n → digit_value (slice_index upper_digits k) ≡ k
reads_back-at zero k h lt = absurd (omega arith)
reads_back-at (suc n) k h lt =
    let parts = and_parts (digit_value (slice_index upper_digits n) == n) (reads_back n) h in
    elim (cases_lt k n) [
      | inl below ↦ reads_back-at n k parts.1 below
      | inr top ↦
          let same : k ≡ n = omega arith in
          rw same (eqb-true (digit_value (slice_index upper_digits n)) n parts.0)
    ]

-- a digit that is printed is read
digit_value-printed : (d : ℕ) → d < 16 → digit_value (slice_index upper_digits d) ≡ d
digit_value-printed d lt = reads_back-at 16 d refl lt

digit_at-printed : (d : ℕ) (rest : List ℕ) → d < 16 → digit_at (slice_index upper_digits d ∷ rest) ≡ Some (d, rest)
unfolding digit_at digit_of
digit_at-printed d rest lt = rw (digit_value-printed d lt) (grind (arith, nat_tests))

-- the four digits of a unit
digits_at-printed : (unit : ℕ) (rest : List ℕ) → unit < 2 ^ 16 → digits_at (encode_with upper_digits (unit / 256 ∷ (unit % 256 ∷ [])) ++ rest) ≡ Some (unit, rest)
unfolding digits_at encode_with
digits_at-printed unit rest lt =
    rw (digit_at-printed (unit / 256 / 16) _ (omega arith), digit_at-printed (unit / 256 % 16) _ (omega arith), digit_at-printed (unit % 256 / 16) _ (omega arith), digit_at-printed (unit % 256 % 16) _ (omega arith))
    (ap (λ (n : ℕ). Some (n, rest)) (omega arith))

-- the element of a printed unit
element_at-printed : (unit : ℕ) (rest : List ℕ) → unit < 2 ^ 16 → element_at (unit_text unit ++ rest) ≡ Some (unit ∷ [], rest)
unfolding element_at element_of escape_at
element_at-printed unit rest lt = by (is_plain unit) refl
  where
    by : (plain : Bool) → is_plain unit ≡ plain → element_at (cond plain (unit ∷ []) (escaped unit) ++ rest) ≡ Some (unit ∷ [], rest)
    by true e = ap (λ (b : Bool). cond b (Some (unit ∷ [], rest)) (cond (unit == 92) (escape_at rest) (cond (nat_lt 0x7F unit) (Some (encode_utf16 unit, rest)) None))) e
    by false e = rw (digits_at-printed unit rest lt) refl

-- the test of each byte, which computes
abbrev all_below_128 : List ℕ → Bool
all_below_128 [] = true
all_below_128 (b ∷ bs) = nat_lt b 128 && all_below_128 bs

IsAscii-from_test : (bs : List ℕ) → all_below_128 bs ≡ true → IsAscii bs
IsAscii-from_test [] h = IsAscii-nil
IsAscii-from_test (b ∷ bs) h =
    let parts = and_parts (nat_lt b 128) (all_below_128 bs) h in
    IsAscii-cons b bs (ltb-true b 128 parts.0) (IsAscii-from_test bs parts.1)

IsAscii-upper_digits : IsAscii upper_digits
IsAscii-upper_digits = IsAscii-from_test upper_digits refl

IsAscii-unit_text : (unit : ℕ) → IsAscii (unit_text unit)
IsAscii-unit_text unit = by (is_plain unit) refl
  where
    by : (plain : Bool) → is_plain unit ≡ plain → IsAscii (cond plain (unit ∷ []) (escaped unit))
    by true e = IsAscii-cons unit [] (grind (arith, nat_tests)) IsAscii-nil
    by false e =
        let digits = encode_with upper_digits (unit / 256 ∷ (unit % 256 ∷ [])) in
        IsAscii-cons 92 (117 ∷ digits) (lit< tt) (IsAscii-cons 117 digits (lit< tt) (IsAscii-encode_with upper_digits (unit / 256 ∷ (unit % 256 ∷ [])) IsAscii-upper_digits))

IsAscii-name_text : (units : List ℕ) → IsAscii (name_text units)
unfolding name_text
IsAscii-name_text [] = IsAscii-nil
IsAscii-name_text (unit ∷ units) = IsAscii-append (unit_text unit) (flat_map unit_text units) (IsAscii-unit_text unit) (IsAscii-name_text units)

units_in-printed : (units : List ℕ) → All (λ unit. unit < 2 ^ 16) units → units_in (length (name_text units)) (name_text units) ≡ Ok units
unfolding name_text
units_in-printed [] h = units_in-nil 0
units_in-printed (unit ∷ units) h =
    units_in-element (name_text (unit ∷ units)) (unit ∷ [], name_text units) (element_at-printed unit (name_text units) (All-head (λ (u : ℕ). u < 2 ^ 16) unit units h))
    ∙ ap (with_front (unit ∷ [])) (units_in-printed units (All-tail (λ (u : ℕ). u < 2 ^ 16) unit units h))

-- the printed text of units is read as these units
pub printed_is_read : (units : List ℕ) → All (λ unit. unit < 2 ^ 16) units → units_of_text (name_text units) ≡ Ok units
printed_is_read units h =
    let text = name_text units in
    ap (λ (cs : List ℕ). placed (length text) (units_in (length cs) cs)) (chars-IsAscii text (IsAscii-name_text units))
    ∙ ap (placed (length text)) (units_in-printed units h)
