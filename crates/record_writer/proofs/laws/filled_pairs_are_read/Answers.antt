use Rattle.record_writer.proofs.Filling.{filled_read}
use Rattle.record_writer.proofs.laws.filled_pairs_are_read.Goals as goal

pub returns : goal.returns
returns c = filled_read
