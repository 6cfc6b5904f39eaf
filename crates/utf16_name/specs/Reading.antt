-- How a name's text is read: element by element, up to the first that is at fault.
use Rattle.std.specs.Prelude.{ℕ, zero, suc, ◌-◌, List, [], ◌∷◌, ◌++◌, length, encode_utf8_all, Option, Some, None, Result, Ok, Err}
use Rattle.std.specs.Str.{chars}
use Rattle.host_base.specs.Answers.{◌>>=◌}
use Rattle.utf16_name.specs.declared.name.NameFault.{NameFault}
use Rattle.utf16_name.specs.declared.name.NameFault.TheVariants.{Text}
use Rattle.utf16_name.specs.Elements.{element_at}
use Rattle.utf16_name.specs.Names.{name_of}

-- the units behind those of the front, or the characters at fault
abbrev pub with_front : List ℕ → Result (List ℕ) (List ℕ) → Result (List ℕ) (List ℕ)
with_front front read = read >>= λ units. Ok (front ++ units)

-- what the front's element and the elements behind it are read as: their units, or the characters from the first fault on
abbrev pub behind : List ℕ → (List ℕ → Result (List ℕ) (List ℕ)) → Option (List ℕ × List ℕ) → Result (List ℕ) (List ℕ)
behind cs read (Some element) = with_front element.0 (read element.1)
behind cs read None = Err cs

-- the units of characters, or the characters from the first element at fault on; an element has one
-- character or more, so as many steps as there are characters are enough
unfoldable pub units_in : ℕ → List ℕ → Result (List ℕ) (List ℕ)
units_in steps [] = Ok []
units_in zero (c ∷ cs) = Err (c ∷ cs)
units_in (suc steps) (c ∷ cs) = behind (c ∷ cs) (units_in steps) (element_at (c ∷ cs))

-- the place of a fault is the number of bytes before it
abbrev pub placed : ℕ → Result (List ℕ) (List ℕ) → Result (List ℕ) NameFault
placed len (Ok units) = Ok units
placed len (Err rest) = Err (Text (len - length (encode_utf8_all rest)))

-- the units that a text spells, or the place of its first element at fault
abbrev pub units_of_text : List ℕ → Result (List ℕ) NameFault
units_of_text text = placed (length text) (units_in (length (chars text)) (chars text))

-- the name that a text spells, or what refuses it
abbrev pub name_of_text : List ℕ → Result (List ℕ) NameFault
name_of_text text = units_of_text text >>= name_of
