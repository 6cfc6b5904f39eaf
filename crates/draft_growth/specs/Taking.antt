-- Numbers that are taken of a file table.
use Rattle.std.specs.Prelude.{◌≡◌, ℕ, true, List, Option, MatchOption}
use Rattle.host_base.specs.declared.file_ref.FileRef.{FileRef}
use Rattle.disk_model.specs.Content.{Content}
use Rattle.draft_bitmaps.specs.state_model.declared.stream.Extents.{Extents}
use Rattle.draft_bitmaps.specs.plan_draft.declared.touched.Touched.{Touched}
use Rattle.draft_bitmaps.specs.declared.bitmap.Bitmap.{Bitmap}
use Rattle.draft_bitmaps.specs.Bitmaps.{PutsBitsOf}

-- the number's bit is set in the bitmap, where there is one
abbrev pub PutsNumberOf : Content → ℕ → Extents → Extents → Bitmap → List Touched → List Touched → Bitmap → Option FileRef → Type 0
PutsNumberOf c per table mirror b old new after spare = MatchOption spare ((new ≡ old) × (after ≡ b)) (λ r. PutsBitsOf c per table mirror b r.number 1 true old new after)
