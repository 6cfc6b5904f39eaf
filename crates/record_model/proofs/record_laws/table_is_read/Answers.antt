use Rattle.record_model.proofs.Records.{table_is_read}
use Rattle.record_model.proofs.record_laws.table_is_read.Goals as goal

pub returns : goal.returns
returns c = table_is_read
