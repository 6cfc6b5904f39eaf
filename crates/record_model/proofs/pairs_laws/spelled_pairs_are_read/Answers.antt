use Rattle.record_model.proofs.PairsRead.{spelled_read}
use Rattle.record_model.proofs.pairs_laws.spelled_pairs_are_read.Goals as goal

pub returns : goal.returns
returns c = spelled_read
