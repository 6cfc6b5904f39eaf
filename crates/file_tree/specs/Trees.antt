-- Looking up nodes and links in a tree.
use Rattle.std.specs.Prelude.{◌≡◌, ℕ, Bool, true, false, ◌&&◌, ◌==◌, not, if◌then◌else◌, List, [], ◌∷◌, map, filter, find, count_by, Option, Some, None}
use Rattle.std.specs.Option.{option_or}
use Rattle.std.specs.Ordering.{is_gt}
use Rattle.std.specs.List.Sorted.{IsPermutation, IsSortedBy}
use Rattle.file_tree.specs.declared.node.Kind.{Kind}
use Rattle.file_tree.specs.declared.node.Kind.TheVariants.{Directory, File, Fixed, Opaque, System}
use Rattle.file_tree.specs.declared.node.Node.{Node}
use Rattle.file_tree.specs.declared.link.Link.{Link}
use Rattle.file_tree.specs.Names.{name_order, comes_before, same_units, same_name}

-- ---- nodes

abbrev pub has_number : ℕ → Node → Bool
has_number number node = node.number == number

-- the node with this number, if there is one
unfoldable pub node_at : List Node → ℕ → Option Node
node_at nodes number = find (has_number number) nodes

abbrev pub is_directory_kind : Kind → Bool
is_directory_kind Directory = true
is_directory_kind File = false
is_directory_kind Fixed = false
is_directory_kind Opaque = false
is_directory_kind System = false

abbrev pub is_directory_node : Option Node → Bool
is_directory_node None = false
is_directory_node (Some node) = is_directory_kind node.kind

-- a node without its bytes
abbrev pub without_bytes : Node → Node
without_bytes n = record {
  number = n.number;
  seq = n.seq;
  kind = n.kind;
  why = n.why;
  held = n.held;
  size = n.size;
  valid = n.valid;
  clusters = n.clusters;
  bytes = [];
  flags = n.flags;
  created = n.created;
  modified = n.modified;
  changed = n.changed;
  read_at = n.read_at;
}

unfoldable pub is_directory : List Node → ℕ → Bool
is_directory nodes number = is_directory_node (node_at nodes number)

-- ---- links

-- the namespaces of Win32 and of short names
abbrev pub win32_space : ℕ
win32_space = 1

abbrev pub short_space : ℕ
short_space = 2

abbrev pub is_short : Link → Bool
is_short link = link.space == short_space

-- all other links are long
abbrev pub is_long : Link → Bool
is_long link = not (is_short link)

-- a name of this file, a name in this directory
abbrev pub is_of : ℕ → Link → Bool
is_of number link = link.child.number == number

abbrev pub is_in : ℕ → Link → Bool
is_in directory link = link.parent.number == directory

-- how many long names a file has
unfoldable pub long_names_of : List Link → ℕ → ℕ
long_names_of links number = count_by (λ l. is_of number l && is_long l) links

-- of two links the one whose name comes first; of equal names the first link
abbrev pub first_of_two : List ℕ → Link → Option Link → Link
first_of_two upper a None = a
first_of_two upper a (Some b) = if is_gt (name_order upper a.name b.name) then b else a

-- the link whose name comes first in order
abbrev pub first_in_order : List ℕ → List Link → Option Link
first_in_order upper [] = None
first_in_order upper (a ∷ links) = Some (first_of_two upper a (first_in_order upper links))

-- the links of a directory whose name is the same
unfoldable pub same_links : List ℕ → List Link → ℕ → List ℕ → List Link
same_links upper links directory part = filter (λ l. is_in directory l && same_name upper l.name part) links

-- Looking up a part: the link of the directory whose name has equal units, else the first in order that is the same.
unfoldable pub look_up : List ℕ → List Link → ℕ → List ℕ → Option Link
look_up upper links directory part = option_or (find (λ l. same_units l.name part) (same_links upper links directory part)) (first_in_order upper (same_links upper links directory part))

-- the long links of a directory
unfoldable pub long_links_in : List Link → ℕ → List Link
long_links_in links directory = filter (λ l. is_in directory l && is_long l) links

abbrev pub stands_before : List ℕ → Link → Link → Bool
stands_before upper a b = comes_before upper a.name b.name

-- the long names of a directory, in order
pub record IsListing (upper : List ℕ) (links : List Link) (directory : ℕ) (names : List (List ℕ)) : Type 0 where
  pub order : List Link
  pub same : IsPermutation (long_links_in links directory) order
  pub sorted : IsSortedBy (stands_before upper) order
  pub listed : names ≡ map (λ l. l.name) order
