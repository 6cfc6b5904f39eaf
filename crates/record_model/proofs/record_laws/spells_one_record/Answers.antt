use Rattle.record_model.proofs.Records.{one_record}
use Rattle.record_model.proofs.record_laws.spells_one_record.Goals as goal

pub returns : goal.returns
returns c = one_record
