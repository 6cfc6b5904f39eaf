-- What an element of a text stands for, as a list of units.
use Rattle.std.specs.Prelude.{ℕ, List, [], ◌∷◌}
use Rattle.utf16_name.specs.declared.elements.Spelled.{Spelled}
use Rattle.utf16_name.specs.declared.elements.Spelled.TheVariants.{Unit as One, Pair}

-- one unit, or the two of a surrogate pair
abbrev pub units_spelled : Spelled → List ℕ
units_spelled (One unit) = unit ∷ []
units_spelled (Pair high low) = high ∷ (low ∷ [])
