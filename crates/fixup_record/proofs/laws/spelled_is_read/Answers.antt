use Rattle.fixup_record.proofs.Spelled.{read_spelled, tested}
use Rattle.fixup_record.proofs.laws.spelled_is_read.Goals as goal

pub returns : goal.returns
returns c = record { read = read_spelled; tested = tested }
