use Rattle.record_writer.proofs.NormalRoom.{all_fit_by_room}
use Rattle.record_writer.proofs.laws.normal_has_spelling.Goals as goal

pub returns : goal.returns
returns c = all_fit_by_room
