use Rattle.file_writes.proofs.Cases.{timed_room}
use Rattle.file_writes.proofs.puts.put_times.Goals as goal

pub put_record-requires-clause-room : goal.put_record-requires-clause-room
put_record-requires-clause-room g c = timed_room c.args.stamp c.args.file.now c.in_ok-timed.timed c.requires.room c.in_ok-timed.ensures.value
