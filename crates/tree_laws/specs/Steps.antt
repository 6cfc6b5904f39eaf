-- A content that stands for a tree again, after writes that replace files of its volume and may let its file table grow.
use Rattle.std.specs.Prelude.{◌≡◌, ℕ, ◌<◌, ◌≤◌, Bool, false, List, Ok, None}
use Rattle.std.specs.List.{AllByRecursion}
use Rattle.volume_state.specs.disk_model.Content.{Content, HasSizes}
use Rattle.volume_state.specs.disk_model.Writes.{Write, overlay}
use Rattle.volume_state.specs.file_tree.declared.tree.Tree.{Tree}
use Rattle.volume_state.specs.state_model.declared.geometry.Geometry.{Geometry}
use Rattle.volume_state.specs.state_model.declared.stream.Extents.{Extents}
use Rattle.volume_state.specs.state_model.Loads.{table_of}
use Rattle.volume_state.specs.volume_model.Volumes.{Volume, volume_of, count_of}
use Rattle.volume_state.specs.Rules.{broken_4}
use Rattle.volume_state.specs.Trees.{Holds, IsState, tree_of}
use Rattle.stream_laws.specs.Replacing.{FileEdit, with_edits, AreEdits}
use Rattle.stream_laws.specs.Rewrites.{RewritesRecords, new_file, with_files, with_table, is_edited}
use Rattle.tree_laws.specs.Changed.{TouchesFiles, AgreesElsewhere, KeepsTouched}
use Rattle.tree_laws.specs.Contents.{SameShownAt}
use Rattle.tree_laws.specs.Growth.{grown, GrowsTable}
use Rattle.tree_laws.specs.LookUps.{links_lost, links_gained, TreeLedTo, touched_or_new}

-- the volume with edited files, in these extents of the file table
abbrev pub stepped : Volume → Extents → List FileEdit → Volume
stepped v f edits = grown (with_files v (with_edits edits v.files)) f

-- What writes have to show that put these files in the places of those with their numbers, record 0 among them or not. After them record
-- 0 says that the table lies in these extents, in which it may have more records; the edited records stand alone, and are the files of the
-- edits by themselves. The old files that aren't edited stay, with all that they show, and the new ones keep the rules.
pub record ReplacesFiles (inside : ℕ → Bool) (c : Content) (g : Geometry) (v : Volume) (f : Extents) (writes : List Write) (edits : List FileEdit) : Type 0 where
  pub sized : HasSizes c
  pub extents : table_of (overlay c writes) g ≡ Ok f
  pub records : RewritesRecords c writes v.per v.table f (is_edited edits)
  pub distinct : AreEdits (count_of v) edits
  pub files : AllByRecursion (λ e. e.file ≡ new_file (overlay c writes) (with_table v f v.files) e.number) edits
  pub touches : TouchesFiles (is_edited edits) inside v.files (with_edits edits v.files)
  pub agrees : AgreesElsewhere (is_edited edits) c (overlay c writes) v (with_files v (with_edits edits v.files))
  pub shown : (m : ℕ) → is_edited edits m ≡ false → SameShownAt c (overlay c writes) v m
  pub keeps : KeepsTouched (is_edited edits) inside c (overlay c writes) v (with_files v (with_edits edits v.files))
  pub grows : GrowsTable (overlay c writes) (with_files v (with_edits edits v.files)) f

-- Then the content after the writes is a state again, with the edited volume and its tree, which is the old one but for what the edits
-- say. A volume with clusters that keeps rule 4 has records enough. A table that stays grows by none.
pub record StatesFollow : Type 0 where
  pub loaded : (inside : ℕ → Bool) (c : Content) (g : Geometry) (clusters : ℕ) (v : Volume) (f : Extents) (writes : List Write) (edits : List FileEdit) → volume_of c g clusters ≡ Ok v → ReplacesFiles inside c g v f writes edits
      → volume_of (overlay c writes) g clusters ≡ Ok (stepped v f edits)
  pub holds : (inside : ℕ → Bool) (c : Content) (g : Geometry) (v : Volume) (f : Extents) (writes : List Write) (edits : List FileEdit) (t : Tree) → Holds c v t → ReplacesFiles inside c g v f writes edits
      → Holds (overlay c writes) (stepped v f edits) (tree_of (overlay c writes) (stepped v f edits))
  pub state : (inside : ℕ → Bool) (c : Content) (g : Geometry) (clusters : ℕ) (f : Extents) (writes : List Write) (edits : List FileEdit) (t : Tree) (s : IsState c g clusters t) → ReplacesFiles inside c g s.volume f writes edits
      → IsState (overlay c writes) g clusters (tree_of (overlay c writes) (stepped s.volume f edits))
  pub tree : (inside : ℕ → Bool) (c : Content) (g : Geometry) (v : Volume) (f : Extents) (writes : List Write) (edits : List FileEdit) (t : Tree) → Holds c v t → ReplacesFiles inside c g v f writes edits
      → TreeLedTo (touched_or_new (is_edited edits) (count_of v)) c (overlay c writes) v (stepped v f edits) (links_lost v.files edits) (links_gained edits) t (tree_of (overlay c writes) (stepped v f edits))
  pub enough : (c : Content) (v : Volume) → broken_4 c v ≡ None → 0 < v.clusters → 7 ≤ count_of v
  pub stays : (c d : Content) (g : Geometry) (clusters : ℕ) (v : Volume) (files : List FileEdit) → volume_of c g clusters ≡ Ok v → broken_4 d (with_files v (with_edits files v.files)) ≡ None → 0 < v.clusters
      → GrowsTable d (with_files v (with_edits files v.files)) v.table
