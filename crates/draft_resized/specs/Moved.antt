-- A value that left its record, put into a draft with the clusters that it took.
use Rattle.std.specs.Prelude.{◌≡◌, ◌⊎◌, ℕ, List}
use Rattle.draft_records.specs.disk_model.Content.{Content}
use Rattle.draft_records.specs.state_model.declared.stream.Extents.{Extents}
use Rattle.draft_records.specs.plan_draft.declared.touched.Touched.{Touched}
use Rattle.draft_runs.specs.draft_streams.Parts.{touch_bytes, IsFrontOf}
use Rattle.draft_records.specs.resized_streams.declared.resized.Resized.{Resized}
use Rattle.draft_resized.specs.Resized.{PutsResized, PutsResizedFront}

-- the file is put with its clusters, and then the value into them, whose sectors are all fresh
abbrev pub PutsMoved : Content → ℕ → Extents → Extents → Extents → ℕ → Resized → List ℕ → List Touched → List Touched → Type 0
PutsMoved c per bitmap table mirror n z value old new = (mid : List Touched) × (PutsResized c per bitmap table mirror n z old mid × (new ≡ touch_bytes c per z.extents.runs 0 0 value mid))

-- some of the file is put, or all of it and the first sectors of the value
abbrev pub PutsMovedFront : Content → ℕ → Extents → Extents → Extents → ℕ → Resized → List ℕ → List Touched → List Touched → Type 0
PutsMovedFront c per bitmap table mirror n z value old new =
    PutsResizedFront c per bitmap table mirror n z old new ⊎ ((mid : List Touched) × (PutsResized c per bitmap table mirror n z old mid × IsFrontOf c per z.extents.runs 0 0 value mid new))
