-- An edit of a volume's files that may be of $MFT itself, and in which the file table may grow.
use Rattle.std.specs.Prelude.{◌≡◌, ◌⊎◌, ℕ, ◌<◌, ◌≤◌, Bool, false, List, Ok}
use Rattle.std.specs.List.{AllByRecursion}
use Rattle.plan_bodies.specs.disk_model.Content.{Content}
use Rattle.plan_bodies.specs.disk_model.Writes.{Write, overlay}
use Rattle.index_change.specs.state_model.declared.geometry.Geometry.{Geometry}
use Rattle.index_change.specs.state_model.declared.stream.Extents.{Extents}
use Rattle.index_change.specs.state_model.Loads.{Free, record_count, table_of, table_slot}
use Rattle.index_change.specs.volume_model.Volumes.{Volume, count_of}
use Rattle.plan_owners.specs.volume_state.Trees.{tree_of}
use Rattle.plan_owners.specs.stream_laws.Leaving.{LiesFree}
use Rattle.plan_owners.specs.stream_laws.Replacing.{FileEdit, with_edits, AreEdits}
use Rattle.plan_owners.specs.stream_laws.Rewrites.{StandsAlone, TableGoesOn, new_file, with_table, is_edited}
use Rattle.plan_owners.specs.stream_laws.Sharing.{StreamKey}
use Rattle.plan_owners.specs.stream_laws.Tables.{table_key}
use Rattle.plan_owners.specs.tree_laws.Changed.{TouchesFiles, KeepsTouched}
use Rattle.plan_owners.specs.tree_laws.Growth.{GrowsTable}
use Rattle.plan_owners.specs.tree_laws.LookUps.{links_lost, links_gained, TreeLedTo, touched_or_new}
use Rattle.plan_owners.specs.tree_laws.Planned.{IsInStream, IsInRecord, SparesOthers, SparesLists}
use Rattle.plan_owners.specs.tree_laws.Steps.{stepped}
use Rattle.plan_owners.specs.States.{Stands, IsOwnRecord}
use Rattle.plan_model.specs.Edits.{edited, KeepsBits}

-- The writes put these files in the places of those with their numbers, that of $MFT among them or not; after them record 0 says that the
-- table lies in these extents. Each record was a file's own or marked free, and stands alone after the writes, which are to these records,
-- to free clusters, and to blocks of these streams: none of them the file table, an attribute list, or what the other files show. More
-- records of the table aren't in use.
pub record WritesTable (streams : StreamKey → Bool) (c : Content) (g : Geometry) (v : Volume) (f : Extents) (writes : List Write) (edits : List FileEdit) : Type 0 where
  pub extents : table_of (overlay c writes) g ≡ Ok f
  pub goes_on : TableGoesOn v.per v.table f
  pub distinct : AreEdits (count_of v) edits
  pub own : AllByRecursion (λ e. IsOwnRecord c v e.number) edits
  pub alone : AllByRecursion (λ e. StandsAlone v.per (table_slot (overlay c writes) v.per f e.number)) edits
  pub files : AllByRecursion (λ e. e.file ≡ new_file (overlay c writes) (with_table v f v.files) e.number) edits
  pub fresh : (m : ℕ) → record_count v.table ≤ m → m < record_count f → table_slot (overlay c writes) v.per f m ≡ Free
  pub each : AllByRecursion (λ w. IsInStream streams v w ⊎ IsInRecord (is_edited edits) v w ⊎ LiesFree v w.block) writes
  pub table : streams table_key ≡ false
  pub lists : SparesLists streams
  pub spares : SparesOthers (is_edited edits) streams (is_edited edits) c v writes

-- An edit whose new files keep the rules leads from a state to a state, with the tree by look-up.
pub record TableEdited : Type 0 where
  pub stands : (streams : StreamKey → Bool) (inside : ℕ → Bool) (c : Content) (g : Geometry) (clusters : ℕ) (v : Volume) (f : Extents) (writes : List Write) (edits : List FileEdit) → Stands c g clusters v → WritesTable streams c g v f writes edits
      → KeepsBits (is_edited edits) c (overlay c writes) v (edited v edits) → TouchesFiles (is_edited edits) inside v.files (with_edits edits v.files) → KeepsTouched (is_edited edits) inside c (overlay c writes) v (edited v edits) → GrowsTable (overlay c writes) (edited v edits) f
      → Stands (overlay c writes) g clusters (stepped v f edits)
  pub tree : (streams : StreamKey → Bool) (inside : ℕ → Bool) (c : Content) (g : Geometry) (clusters : ℕ) (v : Volume) (f : Extents) (writes : List Write) (edits : List FileEdit) → Stands c g clusters v → WritesTable streams c g v f writes edits
      → KeepsBits (is_edited edits) c (overlay c writes) v (edited v edits) → TouchesFiles (is_edited edits) inside v.files (with_edits edits v.files) → KeepsTouched (is_edited edits) inside c (overlay c writes) v (edited v edits) → GrowsTable (overlay c writes) (edited v edits) f
      → TreeLedTo (touched_or_new (is_edited edits) (count_of v)) c (overlay c writes) v (stepped v f edits) (links_lost v.files edits) (links_gained edits) (tree_of c v) (tree_of (overlay c writes) (stepped v f edits))
