use Rattle.record_writer.proofs.Again.{read_again}
use Rattle.record_writer.proofs.laws.written_is_read.Goals as goal

pub returns : goal.returns
returns c = read_again
