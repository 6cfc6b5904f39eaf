-- An edit of a volume's files: the smallest change that leads from a state to a state.
use Rattle.std.specs.Prelude.{◌≡◌, ◌⊎◌, ℕ, ◌<◌, Bool, false, List, true, Some}
use Rattle.std.specs.List.{AllByRecursion}
use Rattle.plan_bodies.specs.disk_model.declared.block.Block.{Block}
use Rattle.plan_bodies.specs.disk_model.Content.{Content}
use Rattle.plan_bodies.specs.disk_model.Writes.{Write, overlay}
use Rattle.index_change.specs.record_model.Constants.{attribute_list}
use Rattle.index_change.specs.file_tree.Trees.{node_at as node_by_number}
use Rattle.index_change.specs.bit_set.Bits.{bit}
use Rattle.index_change.specs.state_model.declared.geometry.Geometry.{Geometry}
use Rattle.index_change.specs.state_model.Loads.{table_slot}
use Rattle.index_change.specs.state_model.Streams.{block_at}
use Rattle.index_change.specs.volume_model.Volumes.{Volume, count_of, record_bits, table_file}
use Rattle.index_change.specs.volume_model.Nodes.{spare_at}
use Rattle.plan_owners.specs.volume_state.Trees.{tree_of}
use Rattle.plan_owners.specs.stream_laws.Leaving.{LiesFree}
use Rattle.plan_owners.specs.stream_laws.Replacing.{FileEdit, with_edits, AreEdits, LeaveNumber}
use Rattle.plan_owners.specs.stream_laws.Rewrites.{StandsAlone, new_file, with_files, is_edited}
use Rattle.plan_owners.specs.stream_laws.Owners.{stream_kind}
use Rattle.plan_owners.specs.stream_laws.Sharing.{StreamKey, stream_at, runs_in}
use Rattle.plan_owners.specs.stream_laws.Tables.{table_key}
use Rattle.plan_owners.specs.tree_laws.Changed.{TouchesFiles, AgreesElsewhere, KeepsTouched}
use Rattle.plan_owners.specs.tree_laws.Planned.{IsInStream, IsInRecord, SparesOthers}
use Rattle.plan_owners.specs.States.{Stands, IsOwnRecord}

-- the block, of the kind of its stream's blocks, is one of these streams'
pub record IsOwnedIn (streams : StreamKey → Bool) (v : Volume) (b : Block) : Type 0 where
  pub stream : StreamKey
  pub chosen : streams stream ≡ true
  pub number : ℕ
  pub lies : block_at v.per (runs_in (stream_at v stream)) (stream_kind stream) number ≡ Some b

-- The writes put these files in the places of those with their numbers, none of which is $MFT. Each record was a file's own or
-- marked free, and stands alone after the writes, which are to these records, to free clusters and to blocks of these streams: none of
-- them the file table, an attribute list, or what the other files show.
pub record WritesFiles (streams : StreamKey → Bool) (c : Content) (v : Volume) (writes : List Write) (edits : List FileEdit) : Type 0 where
  pub distinct : AreEdits (count_of v) edits
  pub no_table : LeaveNumber table_file edits
  pub own : AllByRecursion (λ e. IsOwnRecord c v e.number) edits
  pub alone : AllByRecursion (λ e. StandsAlone v.per (table_slot (overlay c writes) v.per v.table e.number)) edits
  pub files : AllByRecursion (λ e. e.file ≡ new_file (overlay c writes) v e.number) edits
  pub each : AllByRecursion (λ w. IsInStream streams v w ⊎ IsInRecord (is_edited edits) v w ⊎ LiesFree v w.block) writes
  pub table : streams table_key ≡ false
  pub lists : (n : ℕ) (name : List ℕ) → streams (record { file = n; kind = attribute_list; name = name }) ≡ false
  pub spares : SparesOthers (is_edited edits) streams (is_edited edits) c v writes

-- the volume after the edits
abbrev pub edited : Volume → List FileEdit → Volume
edited v edits = with_files v (with_edits edits v.files)

-- the bit of each other record stays
abbrev pub KeepsBits : (ℕ → Bool) → Content → Content → Volume → Volume → Type 0
KeepsBits touched c d v w = (m : ℕ) → m < count_of v → touched m ≡ false → bit (record_bits d w) m ≡ bit (record_bits c v) m

-- The second content is a state again, with this volume, and agrees with the first on what the files that aren't touched show: each
-- of them has its node from before, and is spare as before.
pub record LeadsTo (touched : ℕ → Bool) (c : Content) (v : Volume) (d : Content) (g : Geometry) (clusters : ℕ) (w : Volume) : Type 0 where
  pub stands : Stands d g clusters w
  pub agrees : AgreesElsewhere touched c d v w
  pub count : count_of w ≡ count_of v
  pub nodes : (m : ℕ) → touched m ≡ false → node_by_number (tree_of d w).nodes m ≡ node_by_number (tree_of c v).nodes m
  pub spare : (m : ℕ) → m < count_of v → touched m ≡ false → spare_at d w m ≡ spare_at c v m

-- An edit whose new files keep the rules leads from a state to a state.
abbrev pub FilesEdited : Type 0
FilesEdited = (streams : StreamKey → Bool) (inside : ℕ → Bool) (c : Content) (g : Geometry) (clusters : ℕ) (v : Volume) (writes : List Write) (edits : List FileEdit) → Stands c g clusters v → WritesFiles streams c v writes edits
    → KeepsBits (is_edited edits) c (overlay c writes) v (edited v edits) → TouchesFiles (is_edited edits) inside v.files (with_edits edits v.files)
    → KeepsTouched (is_edited edits) inside c (overlay c writes) v (edited v edits) → LeadsTo (is_edited edits) c v (overlay c writes) g clusters (edited v edits)
