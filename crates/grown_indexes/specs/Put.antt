-- What a draft's call has put of an index that grows is what a file may be made behind.
use Rattle.std.specs.Prelude.{◌≡◌, ℕ, ◌*◌, ◌/◌, ◌<◌, List, [], ◌++◌}
use Rattle.std.specs.List.{AllByRecursion}
use Rattle.disk_model.specs.Content.{Content}
use Rattle.record_model.specs.Records.{Record}
use Rattle.space_model.specs.Choosing.{with_runs}
use Rattle.state_model.specs.declared.geometry.Geometry.{Geometry}
use Rattle.state_model.specs.declared.stream.Extents.{Extents}
use Rattle.volume_model.specs.Volumes.{Volume, cluster_bits}
use Rattle.plan_owners.specs.States.{Stands}
use Rattle.plan_draft.specs.declared.touched.Touched.{Touched}
use Rattle.plan_draft.specs.Drafts.{drafted}
use Rattle.draft_records.specs.Records.{written_record}
use Rattle.resized_streams.specs.declared.resized.Resized.{Resized}
use Rattle.draft_indexes.specs.declared.blocks.IndexBlocks.{IndexBlocks}
use Rattle.draft_indexes.specs.Growing.{wanted_clusters}
use Rattle.index_edits.specs.Grown.{GrowsOfVolume, index_runs}
use Rattle.made_trees.specs.plan_model.Informed.{with_record}
use Rattle.made_trees.specs.step_model.Placing.{Growth, taken_runs}
use Rattle.made_trees.specs.Grown.{IsOfTable, KeepsIndex, HasGrownBefore}
use Rattle.grown_indexes.specs.First.{growths_by}

-- In a state whose clear clusters are those that the draft knows as free, an index of whole blocks that took clusters in a draft that touched
-- nothing before has grown as it may before a file is made in the directory, and stands as it stood at first.
abbrev pub PutGrowsFirst : Type 0
PutGrowsFirst = (c : Content) (g : Geometry) (clusters : ℕ) (v : Volume) (bitmap mirror : Extents) (r : Record) (i : IndexBlocks) (more : ℕ) (new : List Touched) (z : Resized) → g.per_cluster ≡ 8 → Stands c g clusters v → GrowsOfVolume c v (cluster_bits c v) bitmap mirror r i more [] new z
    → 0 < wanted_clusters v.per more i.extents → i.extents.real ≡ 4096 * (i.extents.real / 4096)
    → HasGrownBefore c g clusters v i.number r (growths_by i.number r (index_runs v.per (cluster_bits c v) more i)) (with_record v i.number (written_record z.file)) (written_record z.file) new
    × KeepsIndex c v r (drafted new c) (with_record v i.number (written_record z.file)) (written_record z.file)

-- So both have where it took clusters behind a file table that has grown in the same draft, which knew as free what that left clear, and the index stood as it
-- stood at first.
abbrev pub PutGrowsNext : Type 0
PutGrowsNext = (c : Content) (g : Geometry) (clusters : ℕ) (v : Volume) (growths : List Growth) (u : Volume) (grown : List Touched) (bitmap mirror : Extents) (r : Record) (i : IndexBlocks) (more : ℕ) (new : List Touched) (z : Resized) → g.per_cluster ≡ 8 → Stands c g clusters v
    → HasGrownBefore c g clusters v i.number r growths u r grown → KeepsIndex c v r (drafted grown c) u r → AllByRecursion IsOfTable growths → GrowsOfVolume c u (with_runs (taken_runs growths) (cluster_bits c v)) bitmap mirror r i more grown new z → 0 < wanted_clusters u.per more i.extents
    → i.extents.real ≡ 4096 * (i.extents.real / 4096)
    → HasGrownBefore c g clusters v i.number r (growths ++ growths_by i.number r (index_runs u.per (with_runs (taken_runs growths) (cluster_bits c v)) more i)) (with_record u i.number (written_record z.file)) (written_record z.file) new
    × KeepsIndex c v r (drafted new c) (with_record u i.number (written_record z.file)) (written_record z.file)
