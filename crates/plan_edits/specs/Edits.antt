-- What a draft has put of a file is an edit of a plan.
use Rattle.std.specs.Prelude.{◌≡◌, ◌≢◌, ℕ, ◌+◌, ◌*◌, ◌≤◌, ◌<◌, ◌&&◌, ◌||◌, not, nat_le, is_some, Bool, true, List, [], Some}
use Rattle.disk_model.specs.declared.block.BlockKind.TheVariants.{Plain}
use Rattle.disk_model.specs.Content.{Content}
use Rattle.plan_values.specs.record_model.declared.runs.Run.{Run}
use Rattle.plan_values.specs.record_model.Constants.{data_type, index_allocation}
use Rattle.plan_values.specs.record_model.Pairs.{cluster_limit, HasSpelling}
use Rattle.plan_values.specs.record_model.Records.{Record}
use Rattle.bit_set.specs.Bits.{bit}
use Rattle.plan_values.specs.state_model.declared.geometry.Geometry.{Geometry}
use Rattle.plan_values.specs.state_model.declared.stream.Extents.{Extents}
use Rattle.plan_values.specs.state_model.declared.stream.Stream.TheVariants.{Placed}
use Rattle.plan_values.specs.state_model.Loads.{extents_or, total_clusters}
use Rattle.plan_values.specs.state_model.Streams.{block_at}
use Rattle.plan_values.specs.volume_model.Volumes.{Volume, mirror_file, bitmap_file, cluster_bits}
use Rattle.plan_values.specs.volume_model.Owners.{uses}
use Rattle.plan_values.specs.stream_laws.Sharing.{StreamKey, stream_at}
use Rattle.plan_values.specs.plan_owners.States.{Stands}
use Rattle.plan_values.specs.plan_bodies.Bodies.{NewBody, put_bodies, content_with}
use Rattle.draft_resized.specs.plan_draft.declared.touched.Touched.{Touched}
use Rattle.draft_resized.specs.plan_draft.Touching.{bodies_of}
use Rattle.draft_resized.specs.plan_draft.Drafts.{drafted}
use Rattle.draft_resized.specs.plan_draft.Same.{PutSame}
use Rattle.draft_resized.specs.draft_streams.Effects.{HasOwnSectors}
use Rattle.draft_resized.specs.draft_bits.Effects.{stream_bit}
use Rattle.draft_resized.specs.draft_records.Records.{record_block, written_record}
use Rattle.plan_values.specs.resized_streams.declared.resized.Resized.{Resized}
use Rattle.plan_values.specs.resized_streams.Resizing.{IsGrown, IsCut}
use Rattle.draft_resized.specs.Effects.{PutsWhole}
use Rattle.plan_values.specs.plan_growth.Streams.{IsOwnStream, MayTake, marks_streams, PutsFile}
use Rattle.plan_values.specs.plan_growth.Growing.{GrowsStream}
use Rattle.plan_values.specs.plan_growth.Cutting.{CutsStream}
use Rattle.plan_edits.specs.Written.{IsInUse}

-- the unnamed data of $Bitmap, and that of $MFTMirr
abbrev pub bitmap_key : StreamKey
bitmap_key = record { file = bitmap_file; kind = data_type; name = [] }

abbrev pub mirror_key : StreamKey
mirror_key = record { file = mirror_file; kind = data_type; name = [] }

-- the bits of the clusters stand in these clusters, each below the initialised size and in a run
pub record HasBitmap (v : Volume) (bitmap : Extents) : Type 0 where
  pub stream : stream_at v bitmap_key ≡ Some (Placed bitmap)
  pub lawful : bitmap.initialised ≤ bitmap.real
  pub below : v.clusters ≤ 8 * bitmap.initialised
  pub lies : (s : ℕ) → 512 * s < bitmap.initialised → is_some (block_at v.per bitmap.runs Plain s) ≡ true

-- In a state no two sectors of $Bitmap's data share a block; and where each cluster has a bit below the initialised size, the bits stand so.
pub record StateHasBitmap : Type 0 where
  pub own : (c : Content) (g : Geometry) (clusters : ℕ) (v : Volume) (bitmap : Extents) → Stands c g clusters v → stream_at v bitmap_key ≡ Some (Placed bitmap) → HasOwnSectors v.per bitmap.runs
  pub bits : (c : Content) (g : Geometry) (clusters : ℕ) (v : Volume) (bitmap : Extents) → g.per_cluster ≡ 8 → Stands c g clusters v → stream_at v bitmap_key ≡ Some (Placed bitmap) → HasSpelling 0 bitmap.runs → v.clusters ≤ 8 * bitmap.initialised → HasBitmap v bitmap

-- A file of a volume is put into a draft, of which the bitmap, the file table and its mirror are these.
pub record PutsOfVolume (c : Content) (v : Volume) (bitmap mirror : Extents) (n : ℕ) (z : Resized) (old new : List Touched) : Type 0 where
  pub bits : HasBitmap v bitmap
  pub mirror_is : extents_or (stream_at v mirror_key) ≡ mirror
  pub put : PutsWhole c v.per bitmap v.table mirror n z old new

-- the cluster went, or came, or was set before
abbrev pub is_marked : Resized → ℕ → Bool → Bool
is_marked z x was = not (nat_le 1 (uses z.freed.items x)) && (nat_le 1 (uses z.taken.items x) || was)

-- The bodies that it puts are those of an edit over the draft before: its record is read as it is written, all else goes to the bitmap
-- and the mirror, and each bit of a cluster is set where it came, clear where it went, and else as before.
pub record IsEdit (c : Content) (v : Volume) (n : ℕ) (z : Resized) (old new : List Touched) : Type 0 where
  pub bodies : List NewBody
  pub same : PutSame (bodies_of new) (put_bodies bodies (bodies_of old))
  pub content : content_with (drafted old c) bodies ≡ drafted new c
  pub puts : PutsFile marks_streams v n (written_record z.file) bodies
  pub marked : (x : ℕ) → x < v.clusters → bit (cluster_bits (content_with (drafted old c) bodies) v) x ≡ is_marked z x (bit (cluster_bits (drafted old c) v) x)

-- A bit of a cluster is that of the stream. A file that has a block in the table and is in use is put as an edit. Where one of its streams
-- took clusters or was cut, in a state that the draft before stands for, the edit is the one that leads to a state.
pub record ResizedIsEdit : Type 0 where
  pub bits : (c : Content) (v : Volume) (bitmap : Extents) (x : ℕ) → HasBitmap v bitmap → x < v.clusters → bit (cluster_bits c v) x ≡ stream_bit c v.per bitmap x
  pub edit : (c : Content) (v : Volume) (bitmap mirror : Extents) (n : ℕ) (z : Resized) (old new : List Touched) → PutsOfVolume c v bitmap mirror n z old new → IsInUse z.file → is_some (record_block v.per v.table n) ≡ true → IsEdit c v n z old new
  pub grown : (c : Content) (g : Geometry) (clusters : ℕ) (v : Volume) (bitmap mirror : Extents) (n kind : ℕ) (name : List ℕ) (e : Extents) (r : Record) (more : List Run) (z : Resized) (old new : List Touched) → Stands (drafted old c) g clusters v
      → IsOwnStream v n kind name r (Placed e) → HasSpelling 0 e.runs → IsGrown v.per kind name e r more z → MayTake v.clusters (cluster_bits (drafted old c) v) more → total_clusters e.runs + total_clusters more ≤ cluster_limit
      → PutsOfVolume c v bitmap mirror n z old new → (is : IsEdit c v n z old new) × GrowsStream (drafted old c) v n kind name e r more z (written_record z.file) is.bodies
  pub cut : (c : Content) (g : Geometry) (clusters : ℕ) (v : Volume) (bitmap mirror : Extents) (n kind : ℕ) (name : List ℕ) (e : Extents) (r : Record) (size : ℕ) (z : Resized) (old new : List Touched) → Stands (drafted old c) g clusters v
      → IsOwnStream v n kind name r (Placed e) → index_allocation ≢ kind → HasSpelling 0 e.runs → IsCut v.per kind name e r size z → size ≤ e.real
      → PutsOfVolume c v bitmap mirror n z old new → (is : IsEdit c v n z old new) × CutsStream (drafted old c) v n kind name e r size z (written_record z.file) is.bodies
