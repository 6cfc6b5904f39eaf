use Rattle.bitmap_edits.proofs.Rooms.{bits_edit}
use Rattle.bitmap_edits.proofs.laws.bits_are_edit.Goals as goal

pub returns : goal.returns
returns c = bits_edit
