-- The index of a directory grows behind the file table, in a draft, by clusters for its blocks.
use Rattle.std.specs.Prelude.{◌≡◌, ℕ, ◌*◌, ◌/◌, ◌<◌, ◌≤◌, false, List, ◌++◌}
use Rattle.std.specs.List.{AllByRecursion}
use Rattle.disk_model.specs.declared.block.Block.{Block}
use Rattle.disk_model.specs.Content.{Content, HasSizes}
use Rattle.record_model.specs.declared.runs.Run.{Run}
use Rattle.record_model.specs.Pairs.{cluster_limit}
use Rattle.record_model.specs.Records.{Record}
use Rattle.index_model.specs.Indexes.{is_index_body}
use Rattle.state_model.specs.declared.geometry.Geometry.{Geometry}
use Rattle.state_model.specs.Loads.{total_clusters}
use Rattle.volume_model.specs.Volumes.{Volume, cluster_bits}
use Rattle.plan_owners.specs.States.{Stands}
use Rattle.plan_bodies.specs.Bodies.{NewBody}
use Rattle.plan_draft.specs.declared.touched.Touched.{Touched}
use Rattle.plan_draft.specs.Drafts.{drafted}
use Rattle.plan_blocks.specs.plan_edits.Moves.{EditsDraft}
use Rattle.plan_blocks.specs.Blocks.{used_stream, HasNoPlace, blocks_before, blocks_behind, GrowsIndex}
use Rattle.plan_blocks.specs.Drafted.{IsBegunBlock}
use Rattle.made_trees.specs.plan_model.Informed.{with_record}
use Rattle.space_model.specs.Choosing.{chosen, with_runs}
use Rattle.stream_runs.specs.Runs.{last_cluster}
use Rattle.draft_bits.specs.Effects.{IsKept}
use Rattle.made_trees.specs.step_model.Placing.{Growth, taken_runs}
use Rattle.made_trees.specs.Grown.{IsOfTable, KeepsIndex, HasGrownBefore}
use Rattle.grown_indexes.specs.First.{growths_by}

-- In a draft streams of the file table have grown, and the directory's index stands as it stood at first. Behind it the edit is put by which the index
-- takes these runs, some clusters that are chosen behind its own among those that the file table left clear, and gets this size. The bitmap of the
-- blocks had no clusters, the index had whole blocks, and no block that comes to be initialised is an index block yet.
pub record GrowsNext (c : Content) (g : Geometry) (clusters : ℕ) (v : Volume) (n : ℕ) (r : Record) (growths : List Growth) (u : Volume) (grown : List Touched) (runs : List Run) (size : ℕ) (q : Record) (bodies : List NewBody) (new : List Touched) : Type 0 where
  pub before : HasGrownBefore c g clusters v n r growths u r grown
  pub index : KeepsIndex c v r (drafted grown c) u r
  pub table : AllByRecursion IsOfTable growths
  pub kept : IsKept new
  pub edits : EditsDraft c grown new bodies
  pub grows : GrowsIndex (drafted grown c) u n r runs size size q bodies
  pub some : 0 < total_clusters runs
  pub are_chosen : runs ≡ chosen (with_runs (taken_runs growths) (cluster_bits c v)) (last_cluster (blocks_before r).runs) (total_clusters runs)
  pub no_place : HasNoPlace (used_stream r)
  pub whole : (blocks_before r).real ≡ 4096 * ((blocks_before r).real / 4096)
  pub empty : (b : Block) → IsBegunBlock u r (blocks_behind u.per r runs size size) b → is_index_body (drafted new c b) ≡ false

-- Then both have grown as they may before a file is made in the directory, and the index stands as it stood at first.
abbrev pub IndexGrowsNext : Type 0
IndexGrowsNext = (c : Content) (g : Geometry) (clusters : ℕ) (v : Volume) (n : ℕ) (r : Record) (growths : List Growth) (u : Volume) (grown : List Touched) (runs : List Run) (size : ℕ) (q : Record) (bodies : List NewBody) (new : List Touched) → HasSizes c → g.per_cluster ≡ 8 → u.clusters ≤ cluster_limit
    → Stands c g clusters v → GrowsNext c g clusters v n r growths u grown runs size q bodies new → HasGrownBefore c g clusters v n r (growths ++ growths_by n r runs) (with_record u n q) q new × KeepsIndex c v r (drafted new c) (with_record u n q) q
