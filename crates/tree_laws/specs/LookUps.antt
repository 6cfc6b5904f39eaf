-- The tree after some files change, by look-up.
use Rattle.std.specs.Prelude.{◌≡◌, ℕ, ◌+◌, ◌==◌, ◌&&◌, ◌||◌, Bool, false, nat_le, nat_lt, if◌then◌else◌, List, [], ◌∷◌, ◌++◌, length, find, Option, None}
use Rattle.std.specs.List.Sorted.{IsPermutation}
use Rattle.volume_state.specs.host_base.declared.file_ref.FileRef.{FileRef}
use Rattle.volume_state.specs.disk_model.Content.{Content}
use Rattle.volume_state.specs.record_model.Records.{Record}
use Rattle.volume_state.specs.file_tree.declared.link.Link.{Link}
use Rattle.volume_state.specs.file_tree.declared.tree.Tree.{Tree}
use Rattle.volume_state.specs.file_tree.Trees.{node_at as node_by_number}
use Rattle.volume_state.specs.state_model.declared.stream.Extents.{Extents}
use Rattle.volume_state.specs.state_model.Files.{links_at}
use Rattle.volume_state.specs.state_model.Loads.{table_in}
use Rattle.volume_state.specs.file_tree.Walks.{first_user_record}
use Rattle.volume_state.specs.state_model.Trees.{all_links}
use Rattle.volume_state.specs.volume_model.Volumes.{Volume, count_of, bytes_or, cluster_bits}
use Rattle.volume_state.specs.volume_model.Nodes.{node_at, spare_at, spare_numbers}
use Rattle.volume_state.specs.Trees.{Holds, volume_journal, tree_of}
use Rattle.stream_laws.specs.Replacing.{FileEdit, with_edits, AreEdits, edit_links}
use Rattle.stream_laws.specs.Rewrites.{with_files}
use Rattle.tree_laws.specs.Changed.{TouchesFiles, AgreesElsewhere}
use Rattle.tree_laws.specs.Contents.{SameShownAt}
use Rattle.tree_laws.specs.Growth.{grown, GrowsTable}
use Rattle.tree_laws.specs.Room.{newly_set, newly_clear}

-- ---- spare numbers

-- the spare number with its sequence, if it is among these
abbrev pub spare_by_number : List FileRef → ℕ → Option FileRef
spare_by_number spare n = find (λ (s : FileRef). s.number == n) spare

-- the same by the bits and records of a volume: the number of a user, below the count
abbrev pub spare_of : Content → Volume → ℕ → Option FileRef
spare_of c v n = if nat_le first_user_record n && nat_lt n (count_of v) then spare_at c v n else None

-- ---- names

-- the names of the files that go, and of those that come
abbrev pub links_lost : List (Option Record) → List FileEdit → List Link
links_lost files [] = []
links_lost files (e ∷ edits) = links_at (table_in files) e.number ++ links_lost files edits

abbrev pub links_gained : List FileEdit → List Link
links_gained [] = []
links_gained (e ∷ edits) = edit_links e ++ links_gained edits

-- ---- the tree

-- The new tree by look-up. The node at each number and the sequence of each spare number are what the new files and bits say, and those
-- from before at numbers that aren't touched. The new links with those that went are the old ones with those that came. The count and the
-- journal are those of the new volume, and what is free and what was taken is what was free and what was given back.
pub record TreeLedTo (touched : ℕ → Bool) (c d : Content) (v w : Volume) (gone came : List Link) (t u : Tree) : Type 0 where
  pub node : (n : ℕ) → node_by_number u.nodes n ≡ node_at (bytes_or d w.per) w n
  pub other_node : (n : ℕ) → touched n ≡ false → node_by_number u.nodes n ≡ node_by_number t.nodes n
  pub links : IsPermutation (u.links ++ gone) (t.links ++ came)
  pub spare : (n : ℕ) → spare_by_number u.spare n ≡ spare_of d w n
  pub other_spare : (n : ℕ) → touched n ≡ false → spare_by_number u.spare n ≡ spare_by_number t.spare n
  pub count : u.count ≡ count_of w
  pub journal : u.journal ≡ volume_journal d w
  pub room : u.room + newly_set v.clusters (cluster_bits c v) (cluster_bits d w) ≡ t.room + newly_clear v.clusters (cluster_bits c v) (cluster_bits d w)

-- the numbers that are touched, and those from this count on
abbrev pub touched_or_new : (ℕ → Bool) → ℕ → ℕ → Bool
touched_or_new touched count n = touched n || nat_le count n

-- Edits of files lead to this tree, and so they do where the file table grows behind them.
pub record TreesByLookUp : Type 0 where
  pub spare : (c : Content) (v : Volume) (n : ℕ) → spare_by_number (spare_numbers c v) n ≡ spare_of c v n
  pub links : (files : List (Option Record)) (edits : List FileEdit) → AreEdits (length files) edits
      → IsPermutation (all_links (table_in (with_edits edits files)) (length files) ++ links_lost files edits) (all_links (table_in files) (length files) ++ links_gained edits)
  pub edited : (touched inside : ℕ → Bool) (c d : Content) (v : Volume) (edits : List FileEdit) (t : Tree) → Holds c v t → AreEdits (count_of v) edits → TouchesFiles touched inside v.files (with_edits edits v.files) → AgreesElsewhere touched c d v (with_files v (with_edits edits v.files))
      → ((m : ℕ) → touched m ≡ false → SameShownAt c d v m)
      → TreeLedTo touched c d v (with_files v (with_edits edits v.files)) (links_lost v.files edits) (links_gained edits) t (tree_of d (with_files v (with_edits edits v.files)))
  pub grown : (touched : ℕ → Bool) (c d : Content) (v w : Volume) (f : Extents) (gone came : List Link) (t u : Tree) → w.clusters ≡ v.clusters → Holds c v t → Holds d w u → TreeLedTo touched c d v w gone came t u → GrowsTable d w f
      → TreeLedTo (touched_or_new touched (count_of w)) c d v (grown w f) gone came t (tree_of d (grown w f))
