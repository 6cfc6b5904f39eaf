-- The index of a directory grows with a level more, first in a draft or behind the file table, by clusters for its blocks.
use Rattle.std.specs.Prelude.{◌≡◌, ℕ, ◌<◌, ◌≤◌, Bool, List, [], ◌++◌}
use Rattle.std.specs.List.{AllByRecursion}
use Rattle.disk_model.specs.Content.{Content, HasSizes}
use Rattle.record_model.specs.declared.runs.Run.{Run}
use Rattle.record_model.specs.Pairs.{cluster_limit}
use Rattle.record_model.specs.Records.{Record}
use Rattle.index_model.specs.Trees.{Tree}
use Rattle.state_model.specs.declared.geometry.Geometry.{Geometry}
use Rattle.state_model.specs.declared.stream.Extents.{Extents}
use Rattle.state_model.specs.Loads.{total_clusters}
use Rattle.volume_model.specs.Volumes.{Volume, cluster_bits}
use Rattle.plan_owners.specs.States.{Stands}
use Rattle.plan_bodies.specs.Bodies.{NewBody}
use Rattle.plan_draft.specs.declared.touched.Touched.{Touched}
use Rattle.plan_draft.specs.Drafts.{drafted}
use Rattle.plan_blocks.specs.plan_edits.Moves.{EditsDraft}
use Rattle.plan_blocks.specs.Blocks.{used_stream, HasNoPlace, blocks_before}
use Rattle.plan_blocks.specs.Levels.{RaisesIndex, IsRaised}
use Rattle.draft_records.specs.Records.{written_record}
use Rattle.resized_streams.specs.declared.resized.Resized.{Resized}
use Rattle.draft_indexes.specs.declared.blocks.IndexBlocks.{IndexBlocks}
use Rattle.draft_indexes.specs.Growing.{wanted_clusters}
use Rattle.index_edits.specs.Grown.{index_runs}
use Rattle.index_edits.specs.Raised.{first_fresh, RaisesOfVolume}
use Rattle.made_trees.specs.plan_model.Informed.{with_record}
use Rattle.space_model.specs.Choosing.{chosen, with_runs}
use Rattle.stream_runs.specs.Runs.{last_cluster}
use Rattle.draft_bits.specs.Effects.{IsKept}
use Rattle.made_trees.specs.step_model.Placing.{Growth, taken_runs}
use Rattle.made_trees.specs.Grown.{IsOfTable, KeepsIndex, HasGrownBefore}
use Rattle.grown_indexes.specs.First.{growths_by}

-- In a draft streams of the file table have grown. Behind it the edit is put by which the index takes these runs, some clusters that are chosen behind
-- its own among those that the file table left clear, and gets this size, below another root or the one from before. The bitmap of the blocks had no clusters.
pub record RaisesNext (c : Content) (g : Geometry) (clusters : ℕ) (v : Volume) (n : ℕ) (r : Record) (growths : List Growth) (u : Volume) (grown : List Touched) (runs : List Run) (size : ℕ) (p q : Record) (bodies : List NewBody) (new : List Touched) : Type 0 where
  pub before : HasGrownBefore c g clusters v n r growths u r grown
  pub table : AllByRecursion IsOfTable growths
  pub kept : IsKept new
  pub edits : EditsDraft c grown new bodies
  pub raises : RaisesIndex (drafted grown c) u n r runs size size p q bodies
  pub some : 0 < total_clusters runs
  pub are_chosen : runs ≡ chosen (with_runs (taken_runs growths) (cluster_bits c v)) (last_cluster (blocks_before r).runs) (total_clusters runs)
  pub no_place : HasNoPlace (used_stream r)

-- Then both have grown as they may before a file is made in the directory.
abbrev pub IndexRaisesNext : Type 0
IndexRaisesNext = (c : Content) (g : Geometry) (clusters : ℕ) (v : Volume) (n : ℕ) (r : Record) (growths : List Growth) (u : Volume) (grown : List Touched) (runs : List Run) (size : ℕ) (p q : Record) (bodies : List NewBody) (new : List Touched) → HasSizes c → g.per_cluster ≡ 8 → u.clusters ≤ cluster_limit
    → Stands c g clusters v → RaisesNext c g clusters v n r growths u grown runs size p q bodies new → HasGrownBefore c g clusters v n r (growths ++ growths_by n r runs) (with_record u n q) q new

-- What a draft's call has put of an index that grows with a level more is what a file may be made behind: in a draft that touched nothing, or behind
-- streams of the file table that have grown, where the index stood as at first. Its clusters are chosen among those that are clear then. The index
-- has the level more than it had at first.
pub record PutRaises : Type 0 where
  pub first : (c : Content) (g : Geometry) (clusters : ℕ) (v : Volume) (bitmap mirror : Extents) (r : Record) (i : IndexBlocks) (more : ℕ) (value : List ℕ) (t : Tree) (root node : List ℕ) (new : List Touched) (z : Resized) → g.per_cluster ≡ 8 → Stands c g clusters v
      → RaisesOfVolume c v (cluster_bits c v) bitmap mirror r i more value t root node [] new z → 0 < wanted_clusters v.per more i.extents
      → HasGrownBefore c g clusters v i.number r (growths_by i.number r (index_runs v.per (cluster_bits c v) more i)) (with_record v i.number (written_record z.file)) (written_record z.file) new
      × IsRaised c v r value t (first_fresh i) (drafted new c) (with_record v i.number (written_record z.file)) (written_record z.file)
  pub next : (c : Content) (g : Geometry) (clusters : ℕ) (v : Volume) (bits : List Bool) (bitmap mirror : Extents) (r : Record) (growths : List Growth) (u : Volume) (grown : List Touched) (i : IndexBlocks) (more : ℕ) (value : List ℕ) (t : Tree) (root node : List ℕ) (new : List Touched) (z : Resized) → g.per_cluster ≡ 8
      → Stands c g clusters v → HasGrownBefore c g clusters v i.number r growths u r grown → KeepsIndex c v r (drafted grown c) u r → AllByRecursion IsOfTable growths → bits ≡ with_runs (taken_runs growths) (cluster_bits c v)
      → RaisesOfVolume c u bits bitmap mirror r i more value t root node grown new z → 0 < wanted_clusters u.per more i.extents
      → HasGrownBefore c g clusters v i.number r (growths ++ growths_by i.number r (index_runs u.per bits more i)) (with_record u i.number (written_record z.file)) (written_record z.file) new
      × IsRaised c v r value t (first_fresh i) (drafted new c) (with_record u i.number (written_record z.file)) (written_record z.file)
