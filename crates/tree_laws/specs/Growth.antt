-- The tree of a volume whose file table gets more records, none of which is in use.
use Rattle.std.specs.Prelude.{◌≡◌, ℕ, ◌-◌, ◌*◌, ◌<◌, ◌≤◌, max, false, List, ◌++◌, map}
use Rattle.std.specs.List.{range_with_len}
use Rattle.volume_state.specs.host_base.declared.file_ref.FileRef.{FileRef}
use Rattle.volume_state.specs.disk_model.declared.block.BlockKind.TheVariants.{FileRec}
use Rattle.volume_state.specs.disk_model.Content.{Content, is_signed}
use Rattle.volume_state.specs.file_tree.declared.tree.Tree.{Tree}
use Rattle.volume_state.specs.bit_set.Bits.{bit}
use Rattle.volume_state.specs.state_model.declared.stream.Extents.{Extents}
use Rattle.volume_state.specs.state_model.Loads.{record_count}
use Rattle.volume_state.specs.file_tree.Walks.{first_user_record}
use Rattle.volume_state.specs.volume_model.Volumes.{Volume, count_of, size_or, record_bytes, record_bitmap, record_bits}
use Rattle.volume_state.specs.Trees.{Holds, tree_of}
use Rattle.stream_laws.specs.Rewrites.{TableGoesOn, filled_up, with_table}

-- the volume with as many records in its file table as these extents have, and no files in those that it hadn't
abbrev pub grown : Volume → Extents → Volume
grown v f = with_table v f (filled_up (record_count f) v.files)

-- The file table goes on in these extents, and had at least the four records that the boot sector's place says; its bitmap has a bit for
-- each record. The new records don't begin FILE, and their bits are clear.
pub record GrowsTable (d : Content) (v : Volume) (f : Extents) : Type 0 where
  pub counted : count_of v ≡ record_count v.table
  pub four : 4 ≤ count_of v
  pub goes_on : TableGoesOn v.per v.table f
  pub bitmap : record_count f ≤ 8 * size_or (record_bitmap v)
  pub blank : (m : ℕ) → count_of v ≤ m → m < record_count f → is_signed FileRec (record_bytes d (grown v f) m) ≡ false
  pub clear : (m : ℕ) → count_of v ≤ m → m < record_count f → bit (record_bits d (grown v f)) m ≡ false

abbrev pub new_number : ℕ → FileRef
new_number n = record { number = n; seq = 1 }

-- the numbers of users from the old count on, below the new one
abbrev pub new_numbers : ℕ → ℕ → List FileRef
new_numbers old new = map new_number (range_with_len (max first_user_record old) (new - max first_user_record old))

-- the trees are the same, but for the count of records and the new numbers, which are spare and have the sequence 1
pub record HasNewNumbers (t u : Tree) : Type 0 where
  pub nodes : u.nodes ≡ t.nodes
  pub links : u.links ≡ t.links
  pub spare : u.spare ≡ t.spare ++ new_numbers t.count u.count
  pub journal : u.journal ≡ t.journal
  pub room : u.room ≡ t.room

-- A volume that stands for a tree stands for it, with new numbers, where its file table grows.
pub record TableGrown : Type 0 where
  pub holds : (d : Content) (v : Volume) (f : Extents) (t : Tree) → Holds d v t → GrowsTable d v f → Holds d (grown v f) (tree_of d (grown v f))
  pub count : (d : Content) (v : Volume) (f : Extents) (t : Tree) → Holds d v t → GrowsTable d v f → (tree_of d (grown v f)).count ≡ record_count f
  pub tree : (d : Content) (v : Volume) (f : Extents) (t : Tree) → Holds d v t → GrowsTable d v f → HasNewNumbers t (tree_of d (grown v f))
