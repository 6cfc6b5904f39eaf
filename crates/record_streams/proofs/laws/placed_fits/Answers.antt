use Rattle.record_streams.proofs.Kept.{spelled_but_room, but_room_fits}
use Rattle.record_streams.proofs.Read.{read_but_room}
use Rattle.record_streams.proofs.laws.placed_fits.Goals as goal

pub returns : goal.returns
returns c = record {
  spelled = spelled_but_room;
  read = read_but_room;
  by_room = but_room_fits;
}
