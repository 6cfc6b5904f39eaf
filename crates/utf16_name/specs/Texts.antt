-- How a name is printed.
use Rattle.std.specs.Prelude.{ℕ, ◌/◌, ◌%◌, Bool, ◌&&◌, ◌==◌, not, nat_le, if◌then◌else◌, List, [], ◌∷◌}
use Rattle.std.specs.List.{flat_map}
use Rattle.hex.specs.Hex.{encode_upper}

-- whether a unit is printed as the character itself: 0x21 to 0x7E without `\` and `/`
abbrev pub is_plain : ℕ → Bool
is_plain unit = nat_le 0x21 unit && nat_le unit 0x7E && not (unit == 0x5C) && not (unit == 0x2F)

-- `\u` and the unit's two bytes in hexadecimal, the high one first
abbrev pub escaped : ℕ → List ℕ
escaped unit = 92 ∷ (117 ∷ encode_upper (unit / 256 ∷ (unit % 256 ∷ [])))

-- the character itself, or its four digits
abbrev pub unit_text : ℕ → List ℕ
unit_text unit = if is_plain unit then unit ∷ [] else escaped unit

-- the units' texts, one behind the other
unfoldable pub name_text : List ℕ → List ℕ
name_text units = flat_map unit_text units
