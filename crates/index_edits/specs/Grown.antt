-- A directory's index that a draft has let grow is an edit of a plan.
use Rattle.std.specs.Prelude.{◌≡◌, ◌⊎◌, ◌≤◌, ℕ, Bool, true, false, not, List, count_by, length, Ok, Some}
use Rattle.disk_model.specs.Content.{Content, HasSizes}
use Rattle.record_model.specs.declared.runs.Run.{Run}
use Rattle.record_model.specs.Constants.{attribute_list}
use Rattle.record_model.specs.Records.{Record}
use Rattle.bit_set.specs.Bits.{bit}
use Rattle.index_model.specs.Indexes.{is_index_body}
use Rattle.state_model.specs.declared.geometry.Geometry.{Geometry}
use Rattle.state_model.specs.declared.stream.Extents.{Extents}
use Rattle.state_model.specs.declared.stream.Stream.TheVariants.{Held, Placed}
use Rattle.state_model.specs.Files.{has_type, is_directory_record}
use Rattle.state_model.specs.Loads.{extents_or, has_all_pairs}
use Rattle.volume_model.specs.Indexes.{void_block, index_stream}
use Rattle.volume_model.specs.Volumes.{Volume, cluster_bits, file_in}
use Rattle.stream_laws.specs.Sharing.{stream_at}
use Rattle.plan_bodies.specs.Bodies.{NewBody}
use Rattle.plan_owners.specs.States.{Stands}
use Rattle.plan_draft.specs.declared.touched.Touched.{Touched}
use Rattle.plan_draft.specs.Drafts.{drafted}
use Rattle.plan_blocks.specs.plan_model.Informed.{IsApart}
use Rattle.draft_bits.specs.Effects.{IsKept}
use Rattle.draft_records.specs.Records.{fits_room, written_record}
use Rattle.resized_streams.specs.declared.resized.Resized.{Resized}
use Rattle.draft_indexes.specs.declared.blocks.IndexBlocks.{IndexBlocks}
use Rattle.draft_indexes.specs.Growing.{size_with, wanted_clusters, taken_for, grown_file, MayGrowBlocks, GrowsBlocks}
use Rattle.plan_blocks.specs.plan_edits.Edits.{HasBitmap, mirror_key}
use Rattle.plan_blocks.specs.plan_edits.Moves.{EditsDraft}
use Rattle.plan_blocks.specs.Blocks.{beside_blocks, used_stream, HasNoPlace, blocks_before, GrowsIndex}

-- The blocks of a directory's index and their bitmap as a plan has them: those of its record, which has both, or of one in which a stream came
-- empty where the directory had none. All else is the directory's own.
pub record HasStreams (r : Record) (i : IndexBlocks) : Type 0 where
  pub seq : i.file.head.seq ≡ r.head.seq
  pub flags : i.file.head.flags ≡ r.head.flags
  pub base : i.file.head.base ≡ r.head.base
  pub others : beside_blocks i.file.attrs ≡ beside_blocks r.attrs
  pub pairs : has_all_pairs r ≡ true → has_all_pairs i.file ≡ true
  pub before : blocks_before r ≡ i.extents
  pub no_place : HasNoPlace (used_stream r)
  pub blocks : index_stream i.file ≡ Some (Placed i.extents)
  pub used : used_stream i.file ≡ Some (Held i.bits)

-- A directory's index grows in a draft, in a volume of which the bitmap of clusters and the mirror are these. The record is that of the volume, or
-- has streams more that are empty; what is free is clear in the volume, and is enough; no block that the index had is past its initialised size, or
-- nothing is a node past the end of every disk; and the record has room.
pub record GrowsOfVolume (c : Content) (v : Volume) (bits : List Bool) (bitmap mirror : Extents) (r : Record) (i : IndexBlocks) (more : ℕ) (old new : List Touched) (z : Resized) : Type 0 where
  pub sized : HasSizes c
  pub kept : IsKept old
  pub count : length bits ≡ v.clusters
  pub free : (x : ℕ) → bit bits x ≡ false → bit (cluster_bits (drafted old c) v) x ≡ false
  pub space : wanted_clusters v.per more i.extents ≤ count_by not bits
  pub file : file_in v i.number ≡ Some r
  pub apart : IsApart i.number
  pub no_list : has_type attribute_list r ≡ false
  pub directory : is_directory_record r ≡ true
  pub streams : HasStreams r i
  pub begun : (i.extents.real ≤ i.extents.initialised) ⊎ (is_index_body (drafted old c void_block) ≡ false)
  pub stands : MayGrowBlocks v.per (length bits) more i
  pub marks : HasBitmap v bitmap
  pub mirror_is : extents_or (stream_at v mirror_key) ≡ mirror
  pub grows : GrowsBlocks c v.per bits bitmap v.table mirror i more old new z
  pub room : fits_room (grown_file v.per (taken_for v.per bits more i.extents) more i) ≡ Ok tt

-- the clusters that the index takes of these bits
abbrev pub index_runs : ℕ → List Bool → ℕ → IndexBlocks → List Run
index_runs per bits more i = taken_for per bits more i.extents

-- In a state that the draft before stands for, what is put is the edit by which the index gets the clusters and sizes; what is touched stays whole
-- bodies in order.
abbrev pub GrownIsEdit : Type 0
GrownIsEdit = (c : Content) (g : Geometry) (clusters : ℕ) (v : Volume) (bits : List Bool) (bitmap mirror : Extents) (r : Record) (i : IndexBlocks) (more : ℕ) (old new : List Touched) (z : Resized) → g.per_cluster ≡ 8 → Stands (drafted old c) g clusters v
    → GrowsOfVolume c v bits bitmap mirror r i more old new z
    → IsKept new × ((bodies : List NewBody) × (EditsDraft c old new bodies × GrowsIndex (drafted old c) v i.number r (index_runs v.per bits more i) (size_with more i.extents) (size_with more i.extents) (written_record z.file) bodies))
