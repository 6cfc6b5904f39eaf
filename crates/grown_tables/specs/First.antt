-- The file table grows first in a draft.
use Rattle.std.specs.Prelude.{◌≡◌, ◌≤◌, ℕ, true, List, [], length}
use Rattle.std.specs.List.{AllByRecursion}
use Rattle.disk_model.specs.Content.{Content}
use Rattle.record_model.specs.declared.runs.Run.{Run}
use Rattle.record_model.specs.Records.{Record}
use Rattle.state_model.specs.declared.geometry.Geometry.{Geometry}
use Rattle.state_model.specs.declared.stream.Extents.{Extents}
use Rattle.state_model.specs.declared.stream.Stream.{Stream}
use Rattle.state_model.specs.declared.stream.Stream.TheVariants.{Held, Placed}
use Rattle.state_model.specs.Files.{is_directory_record}
use Rattle.volume_model.specs.Volumes.{Volume, cluster_bits}
use Rattle.volume_state.specs.Trees.{tree_of}
use Rattle.stream_runs.specs.Runs.{merged}
use Rattle.plan_owners.specs.States.{Stands}
use Rattle.plan_draft.specs.declared.touched.Touched.{Touched}
use Rattle.plan_draft.specs.Drafts.{drafted}
use Rattle.table_edits.specs.draft_growth.draft_bitmaps.declared.bitmap.Bitmap.{Bitmap}
use Rattle.table_edits.specs.draft_growth.declared.table.Table.{Table}
use Rattle.table_edits.specs.plan_edits.draft_records.Records.{written_record}
use Rattle.plan_table.specs.Growing.{longer_volume}
use Rattle.table_edits.specs.Grown.{table_runs, numbers_runs, GrowsOfVolume}
use Rattle.made_trees.specs.made_files.plan_values.Values.{IsOwnFile}
use Rattle.made_trees.specs.step_model.Plans.{grows_table, table_change}
use Rattle.made_trees.specs.Grown.{IsOfTable, KeepsIndex, HasGrownBefore}

-- the volume with the longer table, and record 0 as it is put
abbrev pub table_volume : Content → Volume → Table → Table → Volume
table_volume c v t after = longer_volume v (table_runs (cluster_bits c v) t) (written_record after.bitmap.file)

-- A bitmap of numbers that is a value has at most 1,024 bytes. Where one in clusters takes none, runs of it that touch would be put as one, so
-- there are none.
abbrev pub MayBePut : List Run → Stream → Type 0
MayBePut more (Held value) = length value ≤ 1024
MayBePut more (Placed e) = more ≡ [] → merged e.runs ≡ e.runs

-- In a state where no number is spare, a file table that a draft has let grow, that touched nothing before and knew the clear clusters, has grown as it
-- may before a file is made in any directory without an attribute list: by the clusters that a step counts. The directory's index stands as it stood.
abbrev pub TableGrowsFirst : Type 0
TableGrowsFirst = (c : Content) (g : Geometry) (clusters : ℕ) (v : Volume) (n : ℕ) (r : Record) (bitmap mirror : Extents) (t : Table) (b : Bitmap) (new : List Touched) (after : Table) (marked : Bitmap) → g.per_cluster ≡ 8 → Stands c g clusters v → grows_table (tree_of c v) ≡ true
    → GrowsOfVolume c v (cluster_bits c v) bitmap mirror t b [] new after marked → MayBePut (numbers_runs v.per (cluster_bits c v) t) t.bitmap.stream → IsOwnFile v n r → is_directory_record r ≡ true
    → HasGrownBefore c g clusters v n r (table_change c v).growths (table_volume c v t after) r new × KeepsIndex c v r (drafted new c) (table_volume c v t after) r × AllByRecursion IsOfTable (table_change c v).growths
