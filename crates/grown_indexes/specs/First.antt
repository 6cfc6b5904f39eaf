-- The index of a directory grows first in a draft, by clusters for its blocks.
use Rattle.std.specs.Prelude.{◌≡◌, ℕ, ◌+◌, ◌*◌, ◌/◌, ◌<◌, ◌≤◌, false, List, [], ◌∷◌}
use Rattle.disk_model.specs.declared.block.Block.{Block}
use Rattle.disk_model.specs.Content.{Content, HasSizes}
use Rattle.record_model.specs.declared.runs.Run.{Run}
use Rattle.record_model.specs.Pairs.{cluster_limit}
use Rattle.record_model.specs.Records.{Record}
use Rattle.index_model.specs.Indexes.{is_index_body}
use Rattle.state_model.specs.declared.geometry.Geometry.{Geometry}
use Rattle.state_model.specs.Loads.{total_clusters}
use Rattle.volume_model.specs.Volumes.{Volume, cluster_bits}
use Rattle.plan_owners.specs.States.{Stands}
use Rattle.plan_bodies.specs.Bodies.{NewBody}
use Rattle.plan_draft.specs.declared.touched.Touched.{Touched}
use Rattle.plan_draft.specs.Drafts.{drafted}
use Rattle.plan_blocks.specs.plan_edits.Moves.{EditsDraft}
use Rattle.plan_blocks.specs.Blocks.{used_stream, HasNoPlace, blocks_before, blocks_behind, GrowsIndex}
use Rattle.plan_blocks.specs.Drafted.{IsBegunBlock}
use Rattle.made_trees.specs.plan_model.Informed.{with_record}
use Rattle.space_model.specs.Choosing.{chosen}
use Rattle.stream_runs.specs.Runs.{last_cluster}
use Rattle.draft_bits.specs.Effects.{IsKept}
use Rattle.made_trees.specs.step_model.Placing.{Growth}
use Rattle.made_trees.specs.step_model.Streams.{blocks_key, used_key, in_record}
use Rattle.made_trees.specs.Grown.{KeepsIndex, HasGrownBefore}

-- the blocks take these runs behind their own, and their bitmap stands in the record
abbrev pub blocks_by : ℕ → Record → List Run → Growth
blocks_by n r runs = record { stream = blocks_key n; old = (blocks_before r).runs; clusters = total_clusters (blocks_before r).runs + total_clusters runs; runs = runs; stands = false }

abbrev pub growths_by : ℕ → Record → List Run → List Growth
growths_by n r runs = blocks_by n r runs ∷ in_record (used_key n) ∷ []

-- A draft that touched nothing before has put the edit by which the index takes these runs, some clusters that are chosen behind its own, and gets
-- this size. The bitmap of the blocks had no clusters, the index had whole blocks, and no block that comes to be initialised is an index block yet.
pub record GrowsFirst (c : Content) (v : Volume) (n : ℕ) (r : Record) (runs : List Run) (size : ℕ) (q : Record) (bodies : List NewBody) (new : List Touched) : Type 0 where
  pub kept : IsKept new
  pub edits : EditsDraft c [] new bodies
  pub grows : GrowsIndex (drafted [] c) v n r runs size size q bodies
  pub some : 0 < total_clusters runs
  pub are_chosen : runs ≡ chosen (cluster_bits c v) (last_cluster (blocks_before r).runs) (total_clusters runs)
  pub no_place : HasNoPlace (used_stream r)
  pub whole : (blocks_before r).real ≡ 4096 * ((blocks_before r).real / 4096)
  pub empty : (b : Block) → IsBegunBlock v r (blocks_behind v.per r runs size size) b → is_index_body (drafted new c b) ≡ false

-- Then the index has grown as it may before a file is made in the directory, and stands as it stood at first.
abbrev pub IndexGrowsFirst : Type 0
IndexGrowsFirst = (c : Content) (g : Geometry) (clusters : ℕ) (v : Volume) (n : ℕ) (r : Record) (runs : List Run) (size : ℕ) (q : Record) (bodies : List NewBody) (new : List Touched) → HasSizes c → g.per_cluster ≡ 8 → v.clusters ≤ cluster_limit → Stands c g clusters v
    → GrowsFirst c v n r runs size q bodies new → HasGrownBefore c g clusters v n r (growths_by n r runs) (with_record v n q) q new × KeepsIndex c v r (drafted new c) (with_record v n q) q
