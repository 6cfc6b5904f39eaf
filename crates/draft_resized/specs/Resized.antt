-- A file of which a stream took clusters or gave some back, put into a draft.
use Rattle.std.specs.Prelude.{◌⊎◌, ℕ, true, false, List}
use Rattle.draft_records.specs.disk_model.Content.{Content}
use Rattle.draft_records.specs.record_model.Records.{record_spelling}
use Rattle.draft_records.specs.state_model.declared.stream.Extents.{Extents}
use Rattle.draft_records.specs.plan_draft.declared.touched.Touched.{Touched}
use Rattle.draft_records.specs.plan_draft.Touching.{bodies_of}
use Rattle.draft_records.specs.Records.{written_record, touch_record, IsFront}
use Rattle.draft_records.specs.resized_streams.declared.resized.Resized.{Resized}
use Rattle.draft_runs.specs.Clusters.{PutsRuns, PutsRunsFront}

-- the bytes of its record as it is written
abbrev pub resized_bytes : Resized → List ℕ
resized_bytes z = record_spelling (written_record z.file)

-- the record is put, in the table and in the mirror
abbrev pub with_file : Content → ℕ → Extents → Extents → ℕ → Resized → List Touched → List Touched
with_file c per table mirror n z touched = touch_record c per table mirror n (resized_bytes z) touched

-- so many of the clusters that came are set, and of those that went cleared: all of them
abbrev pub PutsBoth : Content → ℕ → Extents → Resized → List Touched → List Touched → Type 0
PutsBoth c per bitmap z old new = (mid : List Touched) × (PutsRuns c per bitmap true z.taken.items old mid × PutsRuns c per bitmap false z.freed.items mid new)

-- the first of them
abbrev pub PutsBothFront : Content → ℕ → Extents → Resized → List Touched → List Touched → Type 0
PutsBothFront c per bitmap z old new = PutsRunsFront c per bitmap true z.taken.items old new ⊎ ((mid : List Touched) × (PutsRuns c per bitmap true z.taken.items old mid × PutsRunsFront c per bitmap false z.freed.items mid new))

-- the record is put, the bits of the clusters that came are set, and those of the clusters that went are cleared
abbrev pub PutsResized : Content → ℕ → Extents → Extents → Extents → ℕ → Resized → List Touched → List Touched → Type 0
PutsResized c per bitmap table mirror n z old new = PutsBoth c per bitmap z (with_file c per table mirror n z old) new

-- nothing is put, or the record in its own block alone, or the record and the first of the bits
abbrev pub PutsResizedFront : Content → ℕ → Extents → Extents → Extents → ℕ → Resized → List Touched → List Touched → Type 0
PutsResizedFront c per bitmap table mirror n z old new =
    IsFront per table n (resized_bytes z) (bodies_of old) (bodies_of new) ⊎ PutsBothFront c per bitmap z (with_file c per table mirror n z old) new
