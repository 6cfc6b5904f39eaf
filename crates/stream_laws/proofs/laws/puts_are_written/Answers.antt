use Rattle.stream_laws.proofs.Putting.{puts_written}
use Rattle.stream_laws.proofs.laws.puts_are_written.Goals as goal

pub returns : goal.returns
returns c = puts_written
