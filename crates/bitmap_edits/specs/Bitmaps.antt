-- The bits of clusters, wherever they stand, as a plan sets and clears them.
use Rattle.std.specs.Prelude.{◌≡◌, ◌≢◌, ◌⊎◌, ℕ, ◌+◌, ◌<◌, ◌≤◌, false, true, Bool, nat_le, List, [], ◌∷◌, Option, Some, None, Ok, if◌then◌else◌}
use Rattle.std.specs.List.{AllByRecursion, list_all}
use Rattle.disk_model.specs.declared.block.Block.{Block}
use Rattle.disk_model.specs.Content.{Content, HasSizes}
use Rattle.record_model.specs.declared.runs.Run.{Run}
use Rattle.record_model.specs.Constants.{attribute_list, data_type}
use Rattle.record_model.specs.Records.{Record}
use Rattle.file_tree.specs.declared.tree.Tree.{Tree}
use Rattle.file_tree.specs.Trees.{node_at as node_by_number}
use Rattle.bit_set.specs.Bits.{bit}
use Rattle.state_model.specs.declared.geometry.Geometry.{Geometry}
use Rattle.state_model.specs.declared.stream.Extents.{Extents}
use Rattle.state_model.specs.Files.{has_type}
use Rattle.state_model.specs.Loads.{extents_or}
use Rattle.state_model.specs.Streams.{attributes_of, stream_of}
use Rattle.volume_model.specs.Owners.{uses, volume_runs}
use Rattle.volume_model.specs.Sizes.{are_joined, lies_inside}
use Rattle.volume_model.specs.Volumes.{Volume, bitmap_file, bytes_or, cluster_bits, count_of, file_in}
use Rattle.volume_state.specs.Trees.{tree_of}
use Rattle.stream_laws.specs.Owners.{initialised_in, IsLive, Owns}
use Rattle.stream_laws.specs.Sharing.{runs_in, stream_at, StreamKey}
use Rattle.stream_laws.specs.Tables.{table_key}
use Rattle.table_edits.specs.plan_growth.Streams.{marks_streams}
use Rattle.plan_owners.specs.States.{Stands}
use Rattle.plan_bodies.specs.Bodies.{AreBodies, content_with, NewBody}
use Rattle.table_edits.specs.plan_model.Drafts.{IsPut}
use Rattle.plan_draft.specs.declared.touched.Touched.{Touched}
use Rattle.plan_draft.specs.Drafts.{drafted}
use Rattle.draft_bits.specs.Effects.{IsKept}
use Rattle.draft_records.specs.Records.{written_record}
use Rattle.table_edits.specs.draft_bitmaps.declared.bitmap.Bitmap.{Bitmap}
use Rattle.table_edits.specs.draft_bitmaps.Bitmaps.{IsBitmap, PutsBitsOf}
use Rattle.table_edits.specs.draft_bitmaps.Effects.{room_of}
use Rattle.table_edits.specs.draft_growth.Clusters.{PutsRunsOf}
use Rattle.table_edits.specs.plan_edits.Edits.{bitmap_key, mirror_key}
use Rattle.table_edits.specs.plan_edits.Moves.{EditsDraft}
use Rattle.table_edits.specs.plan_edits.Written.{IsInUse}

-- ---- the bitmap

-- the record of a file is this one, or stands as this one is written
abbrev pub StandsAs : Record → Record → Type 0
StandsAs r p = (r ≡ p) ⊎ (r ≡ written_record p)

-- The bitmap is the unnamed data of $Bitmap, as a value of its record or in clusters. Its record has no attribute list, and is in use.
pub record IsClusterBitmap (v : Volume) (b : Bitmap) : Type 0 where
  pub number : b.number ≡ bitmap_file
  pub kind : b.kind ≡ data_type
  pub stands : IsBitmap b
  pub file : Record
  pub is_file : file_in v bitmap_file ≡ Some file
  pub stands_as : StandsAs file b.file
  pub no_list : has_type attribute_list b.file ≡ false
  pub used : IsInUse b.file
  pub stream : stream_of data_type [] b.file.attrs ≡ Some b.stream
  pub joined : are_joined (attributes_of data_type [] b.file.attrs) ≡ true

-- ---- bits that are put

-- The bits of so many clusters are put, of which nobody has one. The bitmap's record has room where it is put.
pub record PutsFreeBits (c : Content) (v : Volume) (mirror : Extents) (b : Bitmap) (first len : ℕ) (value : Bool) (old new : List Touched) (after : Bitmap) : Type 0 where
  pub sized : HasSizes c
  pub kept : IsKept old
  pub bitmap : IsClusterBitmap v b
  pub mirror_is : extents_or (stream_at v mirror_key) ≡ mirror
  pub inside : first + len ≤ v.clusters
  pub free : (x : ℕ) → first ≤ x → x < first + len → uses (volume_runs v.files) x ≡ 0
  pub stands : IsBitmap after
  pub room : room_of v.per b first len ≡ Ok tt
  pub put : PutsBitsOf c v.per v.table mirror b first len value old new after

-- a bit where those of the clusters of runs are put
abbrev pub put_in : Bool → List Run → ℕ → Bool → Bool
put_in value runs x was = if nat_le 1 (uses runs x) then value else was

-- the trees are the same but for the room
pub record RoomDiffers (t u : Tree) : Type 0 where
  pub nodes : (m : ℕ) → node_by_number u.nodes m ≡ node_by_number t.nodes m
  pub links : u.links ≡ t.links
  pub spare : u.spare ≡ t.spare
  pub count : u.count ≡ t.count
  pub journal : u.journal ≡ t.journal

-- These bodies over the content lead from a state to one with the same owners of clusters. No file differs but $Bitmap, of which the unnamed
-- data may have a greater initialised size; what that newly covers is put whole.
pub record KeepsOwners (c : Content) (g : Geometry) (clusters : ℕ) (v : Volume) (bodies : List NewBody) (w : Volume) : Type 0 where
  pub whole : AreBodies bodies
  pub stands : Stands (content_with c bodies) g clusters w
  pub per : w.per ≡ v.per
  pub clusters_stay : w.clusters ≡ v.clusters
  pub table : w.table ≡ v.table
  pub count_stays : count_of w ≡ count_of v
  pub files : (m : ℕ) → m ≢ bitmap_file → file_in w m ≡ file_in v m
  pub runs : (t : StreamKey) → runs_in (stream_at w t) ≡ runs_in (stream_at v t)
  pub sizes : (t : StreamKey) → bitmap_key ≢ t → initialised_in (stream_at w t) ≡ initialised_in (stream_at v t)
  pub owners : (x : ℕ) → uses (volume_runs w.files) x ≡ uses (volume_runs v.files) x
  pub owned : AllByRecursion (λ p. Owns v p.block) bodies
  pub covers : (b : Block) → IsLive w b → IsLive v b ⊎ IsPut bodies b
  pub reads : (t : StreamKey) → marks_streams t ≡ false → table_key ≢ t → bytes_or (content_with c bodies) v.per (stream_at w t) ≡ bytes_or c v.per (stream_at v t)
  pub tree : RoomDiffers (tree_of c v) (tree_of (content_with c bodies) w)

-- ---- bits of runs that are put

-- So many bits from this one on are put: the bitmap's record has room where it is put, and the bitmap may be given others. A sparse run has none.
abbrev pub PutsClustersIn : Content → ℕ → Extents → Extents → Bool → Option ℕ → ℕ → Bitmap → List Touched → List Touched → Bitmap → Type 0
PutsClustersIn c per table mirror value None len b old new after = (new ≡ old) × (after ≡ b)
PutsClustersIn c per table mirror value (Some first) len b old new after = IsBitmap after × (room_of per b first len ≡ Ok tt) × PutsBitsOf c per table mirror b first len value old new after

-- those of runs, of one after the other
unfoldable pub PutsRunsIn : Content → ℕ → Extents → Extents → Bool → List Run → Bitmap → List Touched → List Touched → Bitmap → Type 0
PutsRunsIn c per table mirror value [] b old new after = (new ≡ old) × (after ≡ b)
PutsRunsIn c per table mirror value (r ∷ runs) b old new after =
    (between : Bitmap) × (mid : List Touched) × PutsClustersIn c per table mirror value r.lcn r.len b old mid between × PutsRunsIn c per table mirror value runs between mid new after

-- The bits of the clusters of runs are put, of which nobody has one.
pub record PutsFreeRuns (c : Content) (v : Volume) (mirror : Extents) (b : Bitmap) (runs : List Run) (value : Bool) (old new : List Touched) (after : Bitmap) : Type 0 where
  pub sized : HasSizes c
  pub kept : IsKept old
  pub bitmap : IsClusterBitmap v b
  pub mirror_is : extents_or (stream_at v mirror_key) ≡ mirror
  pub inside : list_all (lies_inside v.clusters) runs ≡ true
  pub free : (x : ℕ) → 0 < uses runs x → uses (volume_runs v.files) x ≡ 0
  pub put : PutsRunsIn c v.per v.table mirror value runs b old new after

-- What is put is an edit that keeps the owners of clusters: their bits have the value, and the others stay.
pub record PutsOwnersKept (c : Content) (g : Geometry) (clusters : ℕ) (v : Volume) (runs : List Run) (value : Bool) (old new : List Touched) (after : Bitmap) : Type 0 where
  pub volume : Volume
  pub bodies : List NewBody
  pub edits : EditsDraft c old new bodies
  pub keeps : KeepsOwners (drafted old c) g clusters v bodies volume
  pub bitmap : IsClusterBitmap volume after
  pub kept : IsKept new
  pub bits : (x : ℕ) → x < v.clusters → bit (cluster_bits (content_with (drafted old c) bodies) volume) x ≡ put_in value runs x (bit (cluster_bits (drafted old c) v) x)

-- So bits of clusters that nobody has are put from a state to a state, wherever they stand. A bitmap that was read of a volume is that of its
-- clusters; and bits of runs that are put one after the other are put so, where its record has room for it.
pub record BitsAreEdit : Type 0 where
  pub begins : (c : Content) (g : Geometry) (clusters : ℕ) (v : Volume) (b : Bitmap) → Stands c g clusters v → b.number ≡ bitmap_file → b.kind ≡ data_type → IsBitmap b → file_in v bitmap_file ≡ Some b.file → has_type attribute_list b.file ≡ false → stream_of data_type [] b.file.attrs ≡ Some b.stream → IsClusterBitmap v b
  pub runs : (c : Content) (g : Geometry) (clusters : ℕ) (v : Volume) (mirror : Extents) (b : Bitmap) (runs : List Run) (value : Bool) (old new : List Touched) (after : Bitmap) → g.per_cluster ≡ 8 → Stands (drafted old c) g clusters v
      → PutsFreeRuns c v mirror b runs value old new after → PutsOwnersKept c g clusters v runs value old new after
  pub in_room : (c : Content) (g : Geometry) (clusters : ℕ) (v : Volume) (mirror : Extents) (b : Bitmap) (runs : List Run) (value : Bool) (old new : List Touched) (after : Bitmap) → g.per_cluster ≡ 8 → Stands (drafted old c) g clusters v → IsClusterBitmap v b → ((at len : ℕ) → at + len ≤ v.clusters → room_of v.per b at len ≡ Ok tt)
      → list_all (lies_inside v.clusters) runs ≡ true → PutsRunsOf c v.per v.table mirror value runs b old new after → PutsRunsIn c v.per v.table mirror value runs b old new after
