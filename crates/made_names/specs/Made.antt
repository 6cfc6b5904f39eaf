-- The names of a volume's files once one more has a name.
use Rattle.std.specs.Prelude.{◌≡◌, ℕ, ◌+◌, ◌-◌, ◌^◌, ◌<◌, ◌≤◌, true, Bool, List, [], ◌∷◌, length, slice_set, slice_index, Option, Some, None}
use Rattle.tree_laws.specs.record_model.Records.{Record}
use Rattle.tree_laws.specs.file_tree.declared.link.Link.{Link}
use Rattle.tree_laws.specs.file_tree.Walks.{first_user_record}
use Rattle.tree_laws.specs.state_model.Files.{file_at, record_links, is_base_record}
use Rattle.tree_laws.specs.state_model.Loads.{table_in}
use Rattle.tree_laws.specs.state_model.Trees.{leads, is_in_system}
use Rattle.record_rules.specs.Counts.{has_reference}
use Rattle.tree_laws.specs.Leaves.{IsLeaf}
use Rattle.volume_tree.specs.declared.names.Names.{Names}
use Rattle.volume_tree.specs.Named.{AreNamesOf}

-- A file of a user with this one name, for a number that no file has and in which no name stands. Its directory is there, and leads to the root.
pub record MakesName (records : List (Option Record)) (n : ℕ) (r : Record) (l : Link) : Type 0 where
  pub within : n < length records
  pub user : first_user_record ≤ n
  pub none : file_at (table_in records) n ≡ None
  pub leaf : IsLeaf n (table_in records)
  pub base : is_base_record r ≡ true
  pub one : record_links n r ≡ l ∷ []
  pub there : has_reference (table_in records) l.parent ≡ true
  pub leads : leads (table_in records) (length records) l.parent.number ≡ true

-- the records with the file
abbrev pub with_file : ℕ → Record → List (Option Record) → List (Option Record)
with_file n r records = slice_set records n (Some r)

-- its directory is one of the volume itself, or stands below one, other than the root
abbrev pub stands_in_system : List (Option Record) → Link → Bool
stands_in_system records l = is_in_system (table_in records) (length records) l.parent.number

-- there are places for the file and for its directory, in which one name more can be counted
pub record HasPlaces (n parent : ℕ) (names : Names) : Type 0 where
  pub links : n < length names.links.items
  pub counts : parent < length names.counts.items
  pub few : slice_index names.counts.items parent < 2 ^ 64 - 1
  pub parents : n < length names.ways.parents.items
  pub rooted : n < length names.ways.rooted.items
  pub in_system : n < length names.ways.in_system.items

-- The file has these names, one name more is counted in this directory, from which the way up reaches the root, and the file's way up is the directory's.
pub record PutsName (n : ℕ) (links : List Link) (parent : ℕ) (system : Bool) (old new : Names) : Type 0 where
  pub list : new.links.items ≡ slice_set old.links.items n links
  pub counts : new.counts.items ≡ slice_set old.counts.items parent (slice_index old.counts.items parent + 1)
  pub parents : new.ways.parents.items ≡ slice_set old.ways.parents.items n (Some parent)
  pub rooted : new.ways.rooted.items ≡ slice_set old.ways.rooted.items n true
  pub in_system : new.ways.in_system.items ≡ slice_set old.ways.in_system.items n system

-- Then the names are those of the records with the file.
abbrev pub MadeNamesTell : Type 0
MadeNamesTell = (records : List (Option Record)) (n : ℕ) (r : Record) (l : Link) (old new : Names) → AreNamesOf old records → MakesName records n r l → PutsName n (l ∷ []) l.parent.number (stands_in_system records l) old new → AreNamesOf new (with_file n r records)
