use Rattle.std.proofs.Common.{arith}
use Rattle.record_streams.proofs.Kept.{but_room_fits}
use Rattle.used_laws.proofs.Lengths.{written_used}
use Rattle.place_makes.proofs.making.with_used.Goals as goal

pub used-requires : goal.used-requires
used-requires c = (let room = but_room_fits c.args.file.now c.requires in omega (arith, room.countable, written_used c.args.file.now))
