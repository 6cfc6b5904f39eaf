use Rattle.directory_growth.proofs.Room.{has_room}
use Rattle.directory_growth.proofs.laws.index_has_room.Goals as goal

pub returns : goal.returns
returns c = has_room
