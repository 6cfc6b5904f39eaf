use Rattle.bitmap_edits.proofs.Giving.{resized_edit}
use Rattle.bitmap_edits.proofs.laws.resized_with_bits.Goals as goal

pub returns : goal.returns
returns c = resized_edit
