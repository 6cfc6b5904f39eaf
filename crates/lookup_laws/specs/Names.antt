-- What a lookup finds among the names that a directory's index holds, and what a listing of them is.
use Rattle.std.specs.Prelude.{ℕ, Bool, List, [], ◌∷◌, map, find, Option, Some, None}
use Rattle.std.specs.List.{filter}
use Rattle.std.specs.Option.{option_or}
use Rattle.file_tree.specs.declared.link.Link.{Link}
use Rattle.file_tree.specs.Names.{same_units, same_name}
use Rattle.file_tree.specs.Trees.{is_long}

abbrev pub front_link : List Link → Option Link
front_link [] = None
front_link (l ∷ links) = Some l

-- the names that are the same as this part, as a search of an index gives them
abbrev pub named_so : List ℕ → List ℕ → List Link → List Link
named_so upper part links = filter (λ l. same_name upper l.name part) links

-- of the names that a search gives: the one of equal units, else the first
unfoldable pub chosen_of : List ℕ → List Link → Option Link
chosen_of part found = option_or (find (λ l. same_units l.name part) found) (front_link found)

-- the names of an index but the short ones, as a walk gives them
abbrev pub long_units : List Link → List (List ℕ)
long_units links = map (λ l. l.name) (filter is_long links)
