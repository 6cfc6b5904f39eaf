-- Where a directory's index lies.
use Rattle.std.specs.Prelude.{ℕ, List, Option, Some, None}
use Rattle.index_tree.specs.declared.place.DirPlace.{DirPlace}

-- the value of its root, where it lies somewhere
abbrev pub root_in : Option DirPlace → Option (List ℕ)
root_in None = None
root_in (Some dir) = Some dir.root
