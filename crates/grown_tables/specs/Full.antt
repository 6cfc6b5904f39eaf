-- Record 0 isn't too full where the file table grows.
use Rattle.std.specs.Prelude.{◌≡◌, ◌≤◌, ℕ, true, List, [], length, None, Result, Ok}
use Rattle.disk_model.specs.Content.{Content}
use Rattle.record_model.specs.declared.runs.Run.{Run}
use Rattle.state_model.specs.declared.geometry.Geometry.{Geometry}
use Rattle.state_model.specs.declared.stream.Extents.{Extents}
use Rattle.state_model.specs.declared.stream.Stream.{Stream}
use Rattle.state_model.specs.declared.stream.Stream.TheVariants.{Held, Placed}
use Rattle.volume_model.specs.Volumes.{Volume, cluster_bits}
use Rattle.volume_state.specs.Trees.{tree_of}
use Rattle.plan_owners.specs.States.{Stands}
use Rattle.plan_draft.specs.declared.touched.Touched.{Touched}
use Rattle.table_edits.specs.draft_growth.draft_bitmaps.declared.bitmap.Bitmap.{Bitmap}
use Rattle.table_edits.specs.draft_growth.declared.table.Table.{Table}
use Rattle.table_edits.specs.draft_growth.Growing.{with_records}
use Rattle.table_edits.specs.plan_edits.draft_records.Records.{fits_room}
use Rattle.table_edits.specs.Grown.{table_runs, numbers_runs, GrowsOfVolume}
use Rattle.made_trees.specs.step_model.Plans.{full_row, grows_table}
use Rattle.made_steps.specs.Behind.{table_used}

-- A bitmap of numbers that is a value has at most 1,024 bytes. Where one in clusters takes none, a step counts it as it stands, and the draft's call as
-- it is written: then record 0 has room with the longer table alone.
abbrev pub MayBeCounted : Result (Unit {0}) ℕ → List Run → Stream → Type 0
MayBeCounted room more (Held value) = length value ≤ 1024
MayBeCounted room more (Placed e) = more ≡ [] → room ≡ Ok tt

-- A step counts no more than 1,024 used bytes of record 0 then, where a draft's call let the table grow.
abbrev pub TableIsNotFull : Type 0
TableIsNotFull = (c : Content) (g : Geometry) (clusters : ℕ) (v : Volume) (bitmap mirror : Extents) (t : Table) (b : Bitmap) (new : List Touched) (after : Table) (marked : Bitmap) → g.per_cluster ≡ 8 → Stands c g clusters v → grows_table (tree_of c v) ≡ true
    → GrowsOfVolume c v (cluster_bits c v) bitmap mirror t b [] new after marked → MayBeCounted (fits_room (with_records v.per (table_runs (cluster_bits c v) t) t)) (numbers_runs v.per (cluster_bits c v) t) t.bitmap.stream → full_row (table_used c v) ≡ None
