use Rattle.plan_edits.proofs.Reading.{written_read}
use Rattle.plan_edits.proofs.laws.written_is_read.Goals as goal

pub returns : goal.returns
returns c = written_read
