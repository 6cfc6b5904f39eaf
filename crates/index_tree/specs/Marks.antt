-- The blocks that a walk has met, as a set of their numbers.
use Rattle.std.specs.Prelude.{ℕ, Bool, List, map}
use Rattle.std.specs.List.{range_with_len}
use Rattle.std.specs.Ordering.{nat_cmp}
use Rattle.std.specs.BTreeSet.{BTreeSet, contains}

-- a mark for each of so many blocks: whether it was met
abbrev pub marks_of : BTreeSet ℕ → ℕ → List Bool
marks_of numbers count = map (contains nat_cmp numbers) (range_with_len 0 count)
