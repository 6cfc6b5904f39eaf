-- What a draft has put of a directory whose index gets more blocks is the edit of a plan.
use Rattle.std.specs.Prelude.{◌≡◌, ◌⊎◌, ◌+◌, ◌*◌, ◌≤◌, ◌<◌, ◌^◌, ℕ, true, false, List, [], Some}
use Rattle.disk_model.specs.declared.block.Block.{Block}
use Rattle.disk_model.specs.declared.block.BlockKind.TheVariants.{Index}
use Rattle.disk_model.specs.Content.{Content, HasSizes}
use Rattle.record_model.specs.declared.runs.Run.{Run}
use Rattle.record_model.specs.Constants.{attribute_list}
use Rattle.record_model.specs.Pairs.{cluster_limit, HasSpelling}
use Rattle.record_model.specs.Records.{Record}
use Rattle.index_model.specs.Indexes.{is_index_body}
use Rattle.state_model.specs.declared.geometry.Geometry.{Geometry}
use Rattle.state_model.specs.declared.stream.Extents.{Extents}
use Rattle.state_model.specs.Files.{has_type, is_directory_record}
use Rattle.state_model.specs.Loads.{total_clusters}
use Rattle.state_model.specs.Streams.{block_at}
use Rattle.volume_model.specs.Indexes.{void_block}
use Rattle.volume_model.specs.Volumes.{Volume, file_in, cluster_bits}
use Rattle.plan_bodies.specs.Bodies.{NewBody}
use Rattle.plan_owners.specs.States.{Stands}
use Rattle.plan_edits.specs.plan_model.Informed.{IsApart}
use Rattle.plan_draft.specs.declared.touched.Touched.{Touched}
use Rattle.plan_draft.specs.Drafts.{drafted}
use Rattle.draft_bits.specs.Effects.{IsKept}
use Rattle.plan_edits.specs.draft_records.Records.{written_record}
use Rattle.plan_edits.specs.resized_streams.declared.resized.Resized.{Resized}
use Rattle.plan_edits.specs.plan_growth.Streams.{MayTake}
use Rattle.plan_edits.specs.Edits.{IsEdit}
use Rattle.plan_edits.specs.Moves.{EditsDraft}
use Rattle.plan_edits.specs.Puts.{PutsBlocks}
use Rattle.plan_edits.specs.Written.{IsInUse}
use Rattle.plan_blocks.specs.Blocks.{used_stream, HasNoPlace, blocks_before, blocks_behind, IsFreshBlock, SizesRise, GrowsIndex}
use Rattle.plan_blocks.specs.Written.{MakesBlocks}

-- What is asked of a directory, of the runs and the sizes that its index gets, and of its record with them, in a volume that ends before the
-- block past the end of every disk.
pub record MakesIndex (c : Content) (v : Volume) (n : ℕ) (r : Record) (more : List Run) (real initialised : ℕ) (z : Resized) : Type 0 where
  pub file : file_in v n ≡ Some r
  pub apart : IsApart n
  pub no_list : has_type attribute_list r ≡ false
  pub directory : is_directory_record r ≡ true
  pub spelled : HasSpelling 0 (blocks_before r).runs
  pub taken : MayTake v.clusters (cluster_bits c v) more
  pub room : total_clusters (blocks_before r).runs + total_clusters more ≤ cluster_limit
  pub sizes : SizesRise (blocks_before r) (blocks_behind v.per r more real initialised)
  pub begun : ((blocks_before r).real ≤ (blocks_before r).initialised) ⊎ (is_index_body (c void_block) ≡ false)
  pub no_place : HasNoPlace (used_stream r)
  pub made : MakesBlocks r z.file (blocks_behind v.per r more real initialised)
  pub in_use : IsInUse z.file
  pub came : z.taken.items ≡ more
  pub none : z.freed.items ≡ []
  pub ends : 8 * v.clusters ≤ 2 ^ 62

-- a block in these extents that comes to be initialised
abbrev pub IsBegunBlock : Volume → Record → Extents → Block → Type 0
IsBegunBlock v r f b = (m : ℕ) × ((block_at v.per f.runs Index m ≡ Some b) × ((blocks_before r).initialised ≤ 4096 * m) × (4096 * m < f.initialised))

-- Where its file was put with the bits of its clusters, and then fresh blocks of the index, among them each that comes to be initialised, all
-- that was put is the edit by which the index gets them, in a state that the draft before stands for.
abbrev pub IndexIsEdit : Type 0
IndexIsEdit = (c : Content) (g : Geometry) (clusters : ℕ) (v : Volume) (n : ℕ) (r : Record) (more : List Run) (real initialised : ℕ) (z : Resized) (old mid new : List Touched) → HasSizes c → g.per_cluster ≡ 8 → IsKept old → IsKept new → Stands (drafted old c) g clusters v
    → MakesIndex (drafted old c) v n r more real initialised z → IsEdit c v n z old mid → PutsBlocks (IsFreshBlock v r (blocks_behind v.per r more real initialised)) (IsBegunBlock v r (blocks_behind v.per r more real initialised)) mid new
    → (bodies : List NewBody) × (EditsDraft c old new bodies × GrowsIndex (drafted old c) v n r more real initialised (written_record z.file) bodies)
