use Rattle.plan_edits.proofs.Bitmap.{state_bitmap}
use Rattle.plan_edits.proofs.laws.state_has_bitmap.Goals as goal

pub returns : goal.returns
returns c = state_bitmap
