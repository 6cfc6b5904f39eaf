use Rattle.made_index.proofs.Rooms.{any_has_room}
use Rattle.made_index.proofs.laws.any_index_has_room.Goals as goal

pub returns : goal.returns
returns c = any_has_room c.index_has_room.ensures
