-- Bits of the clusters of runs, in a bitmap wherever it stands.
use Rattle.std.specs.Prelude.{◌≡◌, ℕ, ◌+◌, ◌≤◌, Bool, IfSome, List, [], ◌∷◌, Option, Some, None}
use Rattle.disk_model.specs.Content.{Content}
use Rattle.record_model.specs.declared.runs.Run.{Run}
use Rattle.draft_bitmaps.specs.state_model.declared.stream.Extents.{Extents}
use Rattle.draft_bitmaps.specs.plan_draft.declared.touched.Touched.{Touched}
use Rattle.draft_bitmaps.specs.declared.bitmap.Bitmap.{Bitmap}
use Rattle.draft_bitmaps.specs.Bitmaps.{PutsBitsOf}

-- the run lies below this cluster, or is sparse
abbrev pub IsInside : ℕ → Run → Type 0
IsInside clusters r = IfSome r.lcn (λ lcn. lcn + r.len ≤ clusters)

-- the bits of so many clusters from this one on are put; a sparse run has no clusters
abbrev pub PutsClustersOf : Content → ℕ → Extents → Extents → Bool → Option ℕ → ℕ → Bitmap → List Touched → List Touched → Bitmap → Type 0
PutsClustersOf c per table mirror bit None len b old new after = (new ≡ old) × (after ≡ b)
PutsClustersOf c per table mirror bit (Some first) len b old new after = PutsBitsOf c per table mirror b first len bit old new after

-- those of the runs, of one after the other
unfoldable pub PutsRunsOf : Content → ℕ → Extents → Extents → Bool → List Run → Bitmap → List Touched → List Touched → Bitmap → Type 0
PutsRunsOf c per table mirror bit [] b old new after = (new ≡ old) × (after ≡ b)
PutsRunsOf c per table mirror bit (r ∷ runs) b old new after =
    (between : Bitmap) × (mid : List Touched) × PutsClustersOf c per table mirror bit r.lcn r.len b old mid between × PutsRunsOf c per table mirror bit runs between mid new after
