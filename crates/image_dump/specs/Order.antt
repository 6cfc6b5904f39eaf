-- The orders in which nodes and links are printed.
use Rattle.std.specs.Prelude.{Bool, if◌then◌else◌, List, [], ◌∷◌, filter}
use Rattle.std.specs.declared.cmp.Ordering.{Ordering}
use Rattle.std.specs.Ordering.{nat_cmp, ordering_then, is_lt}
use Rattle.std.specs.Cmp.Lexicographic.{slice_cmp}
use Rattle.std.specs.List.Sorted.{IsPermutation, IsSortedBy, IsStableBy}
use Rattle.file_tree.specs.declared.node.Node.{Node}
use Rattle.file_tree.specs.declared.link.Link.{Link}
use Rattle.file_tree.specs.Trees.{is_short, is_long}

-- ---- any order

-- x put into a list, behind the elements at its front that stand before it
unfoldable pub put_in : {X : Type 0} → (X → X → Bool) → X → List X → List X
put_in before x [] = x ∷ []
put_in before x (y ∷ ys) = if before y x then y ∷ put_in before x ys else x ∷ (y ∷ ys)

-- a list in order; elements that tie stand as before
unfoldable pub in_order : {X : Type 0} → (X → X → Bool) → List X → List X
in_order before [] = []
in_order before (x ∷ xs) = put_in before x (in_order before xs)

-- the same elements in order; those that tie stand as before
pub record IsInOrder {X : Type 0} (before : X → X → Bool) (xs order : List X) : Type 0 where
  pub same : IsPermutation xs order
  pub sorted : IsSortedBy before order
  pub ties : IsStableBy before xs order

-- ---- nodes

abbrev pub node_order : Node → Node → Ordering
node_order a b = nat_cmp a.number b.number

abbrev pub is_node_before : Node → Node → Bool
is_node_before a b = is_lt (node_order a b)

-- nodes by number
abbrev pub by_number : List Node → List Node
by_number nodes = in_order is_node_before nodes

-- ---- links

-- by child number, by parent number, and by the raw units of the name
abbrev pub link_order : Link → Link → Ordering
link_order a b = ordering_then (nat_cmp a.child.number b.child.number) (ordering_then (nat_cmp a.parent.number b.parent.number) (slice_cmp nat_cmp a.name b.name))

abbrev pub stands_before : Link → Link → Bool
stands_before a b = is_lt (link_order a b)

-- the long ones among links, in order
abbrev pub long_links : List Link → List Link
long_links links = in_order stands_before (filter is_long links)

-- the short ones among links, in order
abbrev pub short_links : List Link → List Link
short_links links = in_order stands_before (filter is_short links)
