-- A record that is made with the blocks of its index and another root, and what a draft has put of it.
use Rattle.std.specs.Prelude.{◌≡◌, ◌⊎◌, ◌+◌, ◌*◌, ◌≤◌, ◌^◌, ℕ, true, false, List, [], Some}
use Rattle.std.specs.List.{list_all}
use Rattle.disk_model.specs.Content.{Content, HasSizes}
use Rattle.record_model.specs.declared.runs.Run.{Run}
use Rattle.record_model.specs.Constants.{attribute_list, index_root, names_index}
use Rattle.record_model.specs.Pairs.{cluster_limit, HasSpelling}
use Rattle.record_model.specs.Records.{Record}
use Rattle.index_model.specs.Indexes.{is_index_body}
use Rattle.state_model.specs.declared.geometry.Geometry.{Geometry}
use Rattle.state_model.specs.declared.stream.Extents.{Extents}
use Rattle.state_model.specs.Files.{has_type, is_directory_record}
use Rattle.state_model.specs.Loads.{total_clusters}
use Rattle.volume_model.specs.Indexes.{void_block, root_value}
use Rattle.volume_model.specs.Sizes.{keeps_stream}
use Rattle.volume_model.specs.Volumes.{Volume, file_in, cluster_bits}
use Rattle.plan_bodies.specs.Bodies.{NewBody}
use Rattle.plan_owners.specs.States.{Stands}
use Rattle.plan_edits.specs.plan_model.Attributes.{RewritesValues}
use Rattle.plan_edits.specs.plan_model.Informed.{IsApart}
use Rattle.plan_draft.specs.declared.touched.Touched.{Touched}
use Rattle.plan_draft.specs.Drafts.{drafted}
use Rattle.draft_bits.specs.Effects.{IsKept}
use Rattle.record_values.specs.Values.{valued_record}
use Rattle.plan_edits.specs.draft_records.Records.{written_record}
use Rattle.plan_edits.specs.resized_streams.declared.resized.Resized.{Resized}
use Rattle.plan_edits.specs.plan_growth.Streams.{MayTake}
use Rattle.plan_edits.specs.Edits.{IsEdit}
use Rattle.plan_edits.specs.Moves.{EditsDraft}
use Rattle.plan_edits.specs.Puts.{PutsBlocks}
use Rattle.plan_edits.specs.Written.{IsInUse}
use Rattle.plan_blocks.specs.Blocks.{used_stream, HasNoPlace, blocks_before, blocks_behind, IsFreshBlock, SizesRise}
use Rattle.plan_blocks.specs.Drafted.{IsBegunBlock}
use Rattle.plan_blocks.specs.Levels.{is_index_root, PutsRooted}
use Rattle.plan_blocks.specs.Written.{MakesBlocks}

-- the record with this root of its index
abbrev pub rooted : List ℕ → Record → Record
rooted root r = valued_record index_root names_index root r

-- A record whose streams keep their rule has one root; where it is made with blocks of its index, and then with another root, that root alone is
-- written anew, as it is written.
pub record RootsWritten : Type 0 where
  pub values : (per clusters : ℕ) (r p : Record) (f : Extents) (was new : List ℕ) → list_all (keeps_stream per clusters r.attrs) r.attrs ≡ true → root_value r ≡ Some was → MakesBlocks r p f → RewritesValues is_index_root (written_record p) (written_record (rooted new p))
  pub used : (per clusters : ℕ) (r p : Record) (f : Extents) (was new : List ℕ) → list_all (keeps_stream per clusters r.attrs) r.attrs ≡ true → root_value r ≡ Some was → MakesBlocks r p f → IsInUse p → IsInUse (rooted new p)
  pub value : (per clusters : ℕ) (r p : Record) (f : Extents) (was new : List ℕ) → list_all (keeps_stream per clusters r.attrs) r.attrs ≡ true → root_value r ≡ Some was → MakesBlocks r p f → root_value (written_record (rooted new p)) ≡ Some new

-- What is asked of a directory, of the runs and the sizes that its index gets, of its record p with them, and of the record that is put, in which the
-- root of the index may be another one.
pub record MakesRooted (c : Content) (v : Volume) (n : ℕ) (r : Record) (more : List Run) (real initialised : ℕ) (p : Record) (z : Resized) : Type 0 where
  pub file : file_in v n ≡ Some r
  pub apart : IsApart n
  pub no_list : has_type attribute_list r ≡ false
  pub directory : is_directory_record r ≡ true
  pub spelled : HasSpelling 0 (blocks_before r).runs
  pub taken : MayTake v.clusters (cluster_bits c v) more
  pub room : total_clusters (blocks_before r).runs + total_clusters more ≤ cluster_limit
  pub sizes : SizesRise (blocks_before r) (blocks_behind v.per r more real initialised)
  pub begun : ((blocks_before r).real ≤ (blocks_before r).initialised) ⊎ (is_index_body (c void_block) ≡ false)
  pub no_place : HasNoPlace (used_stream r)
  pub made : MakesBlocks r p (blocks_behind v.per r more real initialised)
  pub in_use : IsInUse p
  pub values : RewritesValues is_index_root (written_record p) (written_record z.file)
  pub came : z.taken.items ≡ more
  pub none : z.freed.items ≡ []
  pub ends : 8 * v.clusters ≤ 2 ^ 62

-- Where its file was put with the bits of its clusters, and then fresh blocks of the index, among them each that comes to be initialised, all
-- that was put is the edit by which the index gets them below that root, in a state that the draft before stands for.
abbrev pub RootedIsEdit : Type 0
RootedIsEdit = (c : Content) (g : Geometry) (clusters : ℕ) (v : Volume) (n : ℕ) (r : Record) (more : List Run) (real initialised : ℕ) (p : Record) (z : Resized) (old mid new : List Touched) → HasSizes c → g.per_cluster ≡ 8 → IsKept old → IsKept new → Stands (drafted old c) g clusters v
    → MakesRooted (drafted old c) v n r more real initialised p z → IsEdit c v n z old mid → PutsBlocks (IsFreshBlock v r (blocks_behind v.per r more real initialised)) (IsBegunBlock v r (blocks_behind v.per r more real initialised)) mid new
    → (bodies : List NewBody) × (EditsDraft c old new bodies × PutsRooted (drafted old c) v n r more real initialised (written_record p) (written_record z.file) bodies)
