-- Paths of a script.
use Rattle.std.specs.Prelude.{ℕ, ◌||◌, ◌==◌, nat_lt, if◌then◌else◌, List, [], ◌∷◌, length, codes, Result, Ok, Err}
use Rattle.std.specs.List.{slice_split}
use Rattle.std.specs.Str.{bytes_eq}
use Rattle.host_base.specs.Answers.{◌>>=◌}
use Rattle.utf16_name.specs.declared.name.NameFault.{NameFault}
use Rattle.utf16_name.specs.Reading.{units_of_text}

-- a part has a unit or more
abbrev pub some_units : Result (List ℕ) NameFault → Result (List ℕ) ℕ
some_units (Ok []) = Err 7
some_units (Ok (unit ∷ units)) = Ok (unit ∷ units)
some_units (Err fault) = Err 7

-- the units of a part's text
unfoldable pub part_of : List ℕ → Result (List ℕ) ℕ
part_of text = some_units (units_of_text text)

-- the parts, each of which is lawful
unfoldable pub parts_of : List (List ℕ) → Result (List (List ℕ)) ℕ
parts_of [] = Ok []
parts_of (text ∷ texts) = do
  part ← part_of text
  parts ← parts_of texts
  Ok (part ∷ parts)

-- what the texts between slashes are: none before the first, and 1 to 255 parts behind it
unfoldable pub path_between : List (List ℕ) → Result (List (List ℕ)) ℕ
path_between [] = Err 7
path_between (before ∷ texts) =
    if nat_lt 0 (length before) then Err 7
    else if length texts == 0 || nat_lt 255 (length texts) then Err 7
    else parts_of texts

-- a path is `/`, or 1 to 255 parts, each `/` and the text of a unit or more; else rule 7 is broken
unfoldable pub path_of : List ℕ → Result (List (List ℕ)) ℕ
path_of word = if bytes_eq word (codes "/") then Ok [] else path_between (slice_split (λ b. b == 47) word)
