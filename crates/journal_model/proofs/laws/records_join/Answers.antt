use Rattle.journal_model.proofs.RecordsBehind.{one_record, records_more, records_behind, zeros_behind}
use Rattle.journal_model.proofs.laws.records_join.Goals as goal

pub returns : goal.returns
returns c = record { one = one_record; more = records_more; joined = records_behind; filled = zeros_behind }
