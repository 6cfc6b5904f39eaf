use Rattle.file_writes.proofs.Cases.{written_room}
use Rattle.file_writes.proofs.puts.put_times_behind.Goals as goal

pub put_times-requires-clause-room : goal.put_times-requires-clause-room
put_times-requires-clause-room g c = written_room c.args.file.now c.in_ok-standing.standing c.requires.room c.in_ok-standing.ensures.value c.in_ok-standing.ensures.fits
