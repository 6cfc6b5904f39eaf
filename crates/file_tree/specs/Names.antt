-- The order of names, by the table that gives each unit its upper-case unit.
use Rattle.std.specs.Prelude.{ℕ, Bool, List, map, slice_index, nat_eq}
use Rattle.std.specs.declared.cmp.Ordering.{Ordering}
use Rattle.std.specs.Ordering.{nat_cmp, ordering_then, is_lt}
use Rattle.std.specs.Cmp.Lexicographic.{slice_cmp, pointwise}

-- the upper-case unit of each unit
unfoldable pub upper_units : List ℕ → List ℕ → List ℕ
upper_units upper units = map (slice_index upper) units

-- by the upper-case units, and where these are equal by the units themselves
unfoldable pub name_order : List ℕ → List ℕ → List ℕ → Ordering
name_order upper a b = ordering_then (slice_cmp nat_cmp (upper_units upper a) (upper_units upper b)) (slice_cmp nat_cmp a b)

abbrev pub comes_before : List ℕ → List ℕ → List ℕ → Bool
comes_before upper a b = is_lt (name_order upper a b)

abbrev pub same_units : List ℕ → List ℕ → Bool
same_units a b = pointwise nat_eq a b

-- two names are the same where their upper-case units are equal
unfoldable pub same_name : List ℕ → List ℕ → List ℕ → Bool
same_name upper a b = same_units (upper_units upper a) (upper_units upper b)
