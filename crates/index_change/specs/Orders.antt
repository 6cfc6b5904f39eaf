-- Where a key is put, and where a link is looked for.
use Rattle.std.specs.Prelude.{◌≡◌, ℕ, Bool, true, false, ◌&&◌, ◌==◌, if◌then◌else◌, List, [], ◌∷◌, ◌++◌}
use Rattle.std.specs.List.{filter, list_any}
use Rattle.std.specs.declared.cmp.Ordering.{Ordering}
use Rattle.std.specs.declared.cmp.Ordering.TheVariants.{Less, Equal, Greater}
use Rattle.index_tree.specs.host_base.declared.file_ref.FileRef.{FileRef}
use Rattle.index_tree.specs.host_base.FileRefs.{same_reference}
use Rattle.record_model.specs.Values.{is_file_name, parent_of, space_of, units_of}
use Rattle.index_tree.specs.file_tree.declared.link.Link.{Link}
use Rattle.index_tree.specs.file_tree.Names.{comes_before, name_order}
use Rattle.index_tree.specs.state_model.Rules.{same_link}
use Rattle.index_tree.specs.index_model.declared.key.Key.{Key}
use Rattle.index_plan.specs.declared.side.KeySide.{KeySide}
use Rattle.index_plan.specs.declared.side.KeySide.TheVariants as sides
use Rattle.index_tree.specs.Calls.{is_sought}

-- the link that a key stands for, where its value is that of a file name
unfoldable pub link_of : Key → Link
link_of k = record { parent = parent_of k.value; name = units_of k.value; space = space_of k.value; child = k.child }

-- a key with this name stands before that key
abbrev pub goes : List ℕ → List ℕ → Key → Bool
goes upper name k = is_file_name k.value && comes_before upper name (units_of k.value)

-- a link put into links, before the first one that it stands before by the order of names
abbrev pub put_link : List ℕ → Link → List Link → List Link
put_link upper l [] = l ∷ []
put_link upper l (k ∷ links) = if comes_before upper l.name k.name then l ∷ k ∷ links else k ∷ put_link upper l links

-- the link names this file
abbrev pub names_file : FileRef → Link → Bool
names_file file l = same_reference l.child file

-- some link has this name, by the table of upper-case units, and names this file
abbrev pub has_entry : List ℕ → Link → List Link → Bool
has_entry upper l links = list_any (names_file l.child) (filter (is_sought upper l.name) links)

-- ---- links that are looked for

-- the key has the file, the directory and the namespace of the link
abbrev pub is_entry_of : Link → Key → Bool
is_entry_of l k = same_reference k.child l.child && same_reference (parent_of k.value) l.parent && (space_of k.value == l.space)

abbrev pub stands_by : Ordering → Bool → KeySide
stands_by Less here = sides.Before
stands_by Equal true = sides.Here
stands_by Equal false = sides.Beside
stands_by Greater here = sides.Behind

-- where a link stands against a key: by the order of names, and beside those of equal units
abbrev pub stands : List ℕ → Link → Key → KeySide
stands upper l k = if is_file_name k.value then stands_by (name_order upper l.name (units_of k.value)) (is_entry_of l k) else sides.Beside

-- some link is this one
abbrev pub has_link : Link → List Link → Bool
has_link l links = list_any (same_link l) links

-- these are the links without one that is this one
pub record LacksOne (l : Link) (links left : List Link) : Type 0 where
  pub before : List Link
  pub behind : List Link
  pub had : links ≡ before ++ l ∷ behind
  pub left_is : left ≡ before ++ behind
