use Rattle.draft_bitmaps.proofs.BitmapEffects.{bitmap_put}
use Rattle.draft_bitmaps.proofs.laws.bitmap_is_put.Goals as goal

pub returns : goal.returns
returns c = bitmap_put
