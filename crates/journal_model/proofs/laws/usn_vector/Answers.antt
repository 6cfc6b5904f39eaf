use Rattle.journal_model.proofs.UsnWorked.{worked_written, worked_read}
use Rattle.journal_model.proofs.laws.usn_vector.Goals as goal

pub returns : goal.returns
returns c = record { written = worked_written; read = worked_read }
