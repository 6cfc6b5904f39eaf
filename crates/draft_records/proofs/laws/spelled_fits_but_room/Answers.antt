use Rattle.draft_records.proofs.Spelled.{spelled_but_room}
use Rattle.draft_records.proofs.laws.spelled_fits_but_room.Goals as goal

pub returns : goal.returns
returns c = spelled_but_room
