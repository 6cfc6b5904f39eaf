-- What is asked of a volume where a file is made in it, once its file table has grown.
use Rattle.std.specs.Prelude.{◌≡◌, ℕ, ◌≤◌, true, List, [], Some}
use Rattle.host_base.specs.declared.file_ref.FileRef.{FileRef}
use Rattle.disk_model.specs.Content.{Content}
use Rattle.state_model.specs.declared.geometry.Geometry.{Geometry}
use Rattle.state_model.specs.declared.stream.Extents.{Extents}
use Rattle.state_model.specs.declared.stream.Stream.TheVariants.{Placed}
use Rattle.volume_model.specs.Volumes.{Volume, cluster_bits}
use Rattle.volume_state.specs.Trees.{tree_of}
use Rattle.tree_model.specs.Needs.{table_part}
use Rattle.tree_model.specs.Effects.{numbers_to_take, least_ref}
use Rattle.plan_owners.specs.States.{Stands}
use Rattle.plan_draft.specs.declared.touched.Touched.{Touched}
use Rattle.plan_draft.specs.Drafts.{drafted}
use Rattle.table_edits.specs.draft_growth.draft_bitmaps.declared.bitmap.Bitmap.{Bitmap}
use Rattle.table_edits.specs.draft_growth.declared.table.Table.{Table}
use Rattle.table_edits.specs.Grown.{numbers_runs, GrowsOfVolume}
use Rattle.made_trees.specs.step_model.Placing.{wanted_by}
use Rattle.made_trees.specs.step_model.Plans.{grows_table, table_change}
use Rattle.made_trees.specs.file_puts.declared.streams.VolumeStreams.{VolumeStreams}
use Rattle.made_trees.specs.file_puts.Written.{AreStreamsOf}
use Rattle.made_trees.specs.made_files.Made.{HasNumbers, IsSpare}
use Rattle.grown_tables.specs.First.{table_volume, MayBePut}

-- Its streams are those of before, with the longer table; the bits of all its numbers stand in these clusters; and the number that the operation takes,
-- where none was spare, is spare now.
pub record IsReady (c : Content) (v : Volume) (s : VolumeStreams) (after : Table) (numbers : Extents) (u : Volume) (new : List Touched) : Type 0 where
  pub streams : AreStreamsOf u (record { table = after.extents; mirror = s.mirror; bitmap = s.bitmap })
  pub bits : HasNumbers u numbers
  pub spare : (x : FileRef) → least_ref (numbers_to_take (tree_of c v)) ≡ Some x → IsSpare (drafted new c) u x.number

-- So it is where a draft that touched nothing before has let the table grow, of which the bitmap of numbers stands in clusters then.
abbrev pub TableIsReady : Type 0
TableIsReady = (c : Content) (g : Geometry) (clusters : ℕ) (v : Volume) (s : VolumeStreams) (bitmap mirror : Extents) (t : Table) (b : Bitmap) (new : List Touched) (after : Table) (marked : Bitmap) (numbers : Extents) → g.per_cluster ≡ 8 → Stands c g clusters v → grows_table (tree_of c v) ≡ true
    → GrowsOfVolume c v (cluster_bits c v) bitmap mirror t b [] new after marked → after.bitmap.stream ≡ Placed numbers → AreStreamsOf v s → IsReady c v s after numbers (table_volume c v t after) new

-- It has taken no more clusters than an operation counts for it.
abbrev pub TableTakesLittle : Type 0
TableTakesLittle = (c : Content) (g : Geometry) (clusters : ℕ) (v : Volume) (bitmap mirror : Extents) (t : Table) (b : Bitmap) (new : List Touched) (after : Table) (marked : Bitmap) → g.per_cluster ≡ 8 → Stands c g clusters v → grows_table (tree_of c v) ≡ true
    → GrowsOfVolume c v (cluster_bits c v) bitmap mirror t b [] new after marked → MayBePut (numbers_runs v.per (cluster_bits c v) t) t.bitmap.stream → wanted_by (table_change c v).growths ≤ table_part (tree_of c v)
