-- Bits of the clusters of runs, in the bitmap of clusters, that a plan sets or clears.
use Rattle.std.specs.Prelude.{◌≡◌, ◌⊎◌, ℕ, Bool, List, [], ◌∷◌, Option, Some, None}
use Rattle.draft_bits.specs.disk_model.Content.{Content}
use Rattle.draft_bits.specs.record_model.declared.runs.Run.{Run}
use Rattle.draft_bits.specs.state_model.declared.stream.Extents.{Extents}
use Rattle.draft_bits.specs.plan_draft.declared.touched.Touched.{Touched}
use Rattle.draft_bits.specs.Filling.{PutsBits, PutsFront}

-- the bits of so many clusters from this one on are put into the bitmap; a sparse run has no clusters
abbrev pub PutsClusters : Content → ℕ → Extents → Bool → Option ℕ → ℕ → List Touched → List Touched → Type 0
PutsClusters c per e value None len old new = new ≡ old
PutsClusters c per e value (Some first) len old new = PutsBits c per e first len value old new

-- those of the runs, of one after the other
unfoldable pub PutsRuns : Content → ℕ → Extents → Bool → List Run → List Touched → List Touched → Type 0
PutsRuns c per e value [] old new = new ≡ old
PutsRuns c per e value (r ∷ runs) old new = (mid : List Touched) × (PutsClusters c per e value r.lcn r.len old mid × PutsRuns c per e value runs mid new)

-- nothing is put, or the first sectors of a run's bits
abbrev pub PutsClustersFront : Content → ℕ → Extents → Bool → Option ℕ → ℕ → List Touched → List Touched → Type 0
PutsClustersFront c per e value None len old new = new ≡ old
PutsClustersFront c per e value (Some first) len old new = PutsFront c per e first len value old new

-- nothing is put, or the bits of the first runs and the first sectors of those of the next one
unfoldable pub PutsRunsFront : Content → ℕ → Extents → Bool → List Run → List Touched → List Touched → Type 0
PutsRunsFront c per e value [] old new = new ≡ old
PutsRunsFront c per e value (r ∷ runs) old new =
    PutsClustersFront c per e value r.lcn r.len old new ⊎ ((mid : List Touched) × (PutsClusters c per e value r.lcn r.len old mid × PutsRunsFront c per e value runs mid new))
