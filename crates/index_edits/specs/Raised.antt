-- A directory's index that a draft has let grow with a level more is an edit of a plan.
use Rattle.std.specs.Prelude.{◌≡◌, ◌⊎◌, ◌*◌, ◌/◌, ◌<◌, ◌≤◌, ℕ, Bool, true, false, not, List, [], ◌∷◌, count_by, length, Ok, Some}
use Rattle.disk_model.specs.Content.{Content, HasSizes}
use Rattle.record_model.specs.Constants.{attribute_list}
use Rattle.record_model.specs.Nodes.{last_entry}
use Rattle.record_model.specs.Records.{Record}
use Rattle.bit_set.specs.Bits.{bit}
use Rattle.index_model.specs.Indexes.{is_index_body, most_levels, node_of_body}
use Rattle.index_model.specs.Laws.{HoldsIndex}
use Rattle.index_model.specs.Trees.{Tree, levels, raws_of}
use Rattle.index_change.specs.Plans.{clusters_of}
use Rattle.index_node.specs.Roots.{root_spelling}
use Rattle.state_model.specs.declared.geometry.Geometry.{Geometry}
use Rattle.state_model.specs.declared.stream.Extents.{Extents}
use Rattle.state_model.specs.Files.{has_type, is_directory_record}
use Rattle.state_model.specs.Loads.{extents_or}
use Rattle.volume_model.specs.Indexes.{void_block, index_place, root_value}
use Rattle.volume_model.specs.Volumes.{Volume, cluster_bits, file_in, upper_of}
use Rattle.stream_laws.specs.Sharing.{stream_at}
use Rattle.plan_bodies.specs.Bodies.{NewBody}
use Rattle.plan_owners.specs.States.{Stands}
use Rattle.plan_draft.specs.declared.touched.Touched.{Touched}
use Rattle.plan_draft.specs.Drafts.{drafted}
use Rattle.plan_blocks.specs.plan_model.Informed.{IsApart, with_record}
use Rattle.draft_bits.specs.Effects.{IsKept}
use Rattle.draft_records.specs.Records.{fits_room, written_record}
use Rattle.resized_streams.specs.declared.resized.Resized.{Resized}
use Rattle.draft_indexes.specs.declared.blocks.IndexBlocks.{IndexBlocks}
use Rattle.draft_indexes.specs.Growing.{size_with, wanted_clusters, taken_for, grown_file, raised_file, blocks_in, MayGrowBlocks, RaisesBlocks}
use Rattle.plan_blocks.specs.plan_edits.Edits.{HasBitmap, mirror_key}
use Rattle.plan_blocks.specs.plan_edits.Moves.{EditsDraft}
use Rattle.plan_blocks.specs.Levels.{RaisesIndex, IsRaised}
use Rattle.index_edits.specs.Grown.{HasStreams, index_runs}

-- A directory whose index may grow in a draft, in a volume of which the bitmap of clusters and the mirror are these. The record is that of the
-- volume, or has streams more that are empty; what is free is clear in the volume, and is enough; no block that the index had is past its
-- initialised size, or nothing is a node past the end of every disk.
pub record MayGrowDrafted (c : Content) (v : Volume) (bits : List Bool) (bitmap mirror : Extents) (r : Record) (i : IndexBlocks) (more : ℕ) (old : List Touched) : Type 0 where
  pub sized : HasSizes c
  pub kept : IsKept old
  pub count : length bits ≡ v.clusters
  pub free : (x : ℕ) → bit bits x ≡ false → bit (cluster_bits (drafted old c) v) x ≡ false
  pub space : wanted_clusters v.per more i.extents ≤ count_by not bits
  pub file : file_in v i.number ≡ Some r
  pub apart : IsApart i.number
  pub no_list : has_type attribute_list r ≡ false
  pub directory : is_directory_record r ≡ true
  pub streams : HasStreams r i
  pub begun : (i.extents.real ≤ i.extents.initialised) ⊎ (is_index_body (drafted old c void_block) ≡ false)
  pub stands : MayGrowBlocks v.per (length bits) more i
  pub marks : HasBitmap v bitmap
  pub mirror_is : extents_or (stream_at v mirror_key) ≡ mirror

-- the first block that comes to be initialised
abbrev pub first_fresh : IndexBlocks → ℕ
first_fresh i = blocks_in i.extents.initialised

-- The index of whole blocks, with this tree of fewer than sixteen levels below a root with this value, gets some blocks more and a level more: the
-- body is that of a node with the entries of the root, and the new root has one entry alone, whose child is that node.
pub record IsLevelMore (c : Content) (v : Volume) (r : Record) (i : IndexBlocks) (more : ℕ) (value : List ℕ) (t : Tree) (root node : List ℕ) : Type 0 where
  pub some : 1 ≤ more
  pub whole : i.extents.real ≡ 4096 * (i.extents.real / 4096)
  pub old_root : root_value r ≡ Some value
  pub index : HoldsIndex c (index_place v.per r) (upper_of c v) value t
  pub low : levels t < most_levels
  pub new_root : root ≡ root_spelling (clusters_of value) (last_entry (Some (first_fresh i)) ∷ [])
  pub long : length node ≡ 4096
  pub entries : node_of_body (first_fresh i) (record { bytes = node; torn = false }) ≡ Ok (raws_of t)

-- It grows so in a draft, and its record has room.
pub record RaisesOfVolume (c : Content) (v : Volume) (bits : List Bool) (bitmap mirror : Extents) (r : Record) (i : IndexBlocks) (more : ℕ) (value : List ℕ) (t : Tree) (root node : List ℕ) (old new : List Touched) (z : Resized) : Type 0 where
  pub may : MayGrowDrafted c v bits bitmap mirror r i more old
  pub level : IsLevelMore (drafted old c) v r i more value t root node
  pub grows : RaisesBlocks c v.per bits bitmap v.table mirror i more root node old new z
  pub room : fits_room (raised_file v.per (taken_for v.per bits more i.extents) more root i) ≡ Ok tt

-- In a state that the draft before stands for, what is put is the edit by which the index gets the clusters and sizes and is raised; the index has a
-- level more then, and lists what it listed. What is touched stays whole bodies in order.
abbrev pub RaisedIsEdit : Type 0
RaisedIsEdit = (c : Content) (g : Geometry) (clusters : ℕ) (v : Volume) (bits : List Bool) (bitmap mirror : Extents) (r : Record) (i : IndexBlocks) (more : ℕ) (value : List ℕ) (t : Tree) (root node : List ℕ) (old new : List Touched) (z : Resized) → g.per_cluster ≡ 8 → Stands (drafted old c) g clusters v
    → RaisesOfVolume c v bits bitmap mirror r i more value t root node old new z
    → IsKept new × ((bodies : List NewBody) × (EditsDraft c old new bodies × RaisesIndex (drafted old c) v i.number r (index_runs v.per bits more i) (size_with more i.extents) (size_with more i.extents) (written_record (grown_file v.per (taken_for v.per bits more i.extents) more i)) (written_record z.file) bodies
    × IsRaised (drafted old c) v r value t (first_fresh i) (drafted new c) (with_record v i.number (written_record z.file)) (written_record z.file)))
