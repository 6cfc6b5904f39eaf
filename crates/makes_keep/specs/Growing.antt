-- What is put before a file is made is put well: nothing, or the index of its directory that gets more blocks.
use Rattle.std.specs.Prelude.{◌≡◌, ◌≢◌, ℕ, ◌≤◌, Bool, List, []}
use Rattle.std.specs.List.{AllByRecursion}
use Rattle.disk_model.specs.declared.block.BlockKind.TheVariants.{Index}
use Rattle.disk_model.specs.Content.{Content, HasSizes}
use Rattle.record_model.specs.Records.{Record}
use Rattle.state_model.specs.declared.geometry.Geometry.{Geometry}
use Rattle.state_model.specs.declared.stream.Extents.{Extents}
use Rattle.volume_model.specs.Volumes.{Volume}
use Rattle.plan_owners.specs.States.{Stands}
use Rattle.plan_draft.specs.declared.touched.Touched.{Touched}
use Rattle.plans_keep.specs.plan_spares.Plans.{HasOwnLists}
use Rattle.draft_indexes.specs.declared.blocks.IndexBlocks.{IndexBlocks}
use Rattle.index_edits.specs.Grown.{GrowsOfVolume}
use Rattle.written_values.specs.resized_streams.declared.resized.Resized.{Resized}
use Rattle.written_values.specs.draft_records.Records.{written_record}
use Rattle.written_values.specs.plan_model.Informed.{with_record}
use Rattle.written_values.specs.step_model.Placing.{Growth}
use Rattle.made_trees.specs.Grown.{HasGrownBefore}
use Rattle.makes_keep.specs.Makes.{GrowsWell}

-- A draft that touched nothing has put nothing but well, where no attribute list has a part in another record.
abbrev pub NoneGrowsWell : Type 0
NoneGrowsWell = (c : Content) (v : Volume) (n : ℕ) → HasSizes c → HasOwnLists c v → GrowsWell c v n v []

-- Behind a draft that has put well what it put, and no block of an index, so has one that lets the index of a directory grow, of which the file table's mirror has no record.
abbrev pub IndexGrowsWell : Type 0
IndexGrowsWell = (c : Content) (g : Geometry) (clusters : ℕ) (v : Volume) (bits : List Bool) (bitmap mirror : Extents) (r : Record) (i : IndexBlocks) (more : ℕ) (growths : List Growth) (u : Volume) (old new : List Touched) (z : Resized) → g.per_cluster ≡ 8 → Stands c g clusters v → 4 ≤ i.number
    → HasGrownBefore c g clusters v i.number r growths u r old → GrowsWell c v i.number u old → AllByRecursion (λ y. y.block.kind ≢ Index) old → GrowsOfVolume c u bits bitmap mirror r i more old new z → GrowsWell c v i.number (with_record u i.number (written_record z.file)) new
