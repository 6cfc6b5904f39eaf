use Rattle.record_model.specs.Records.{record_spelling}
use Rattle.record_model.proofs.RecordSpelling.{length-record_spelling, record_spells}
use Rattle.record_model.proofs.Records.{table_is_read}
use Rattle.record_model.proofs.record_laws.record_read_again.Goals as goal

pub returns : goal.returns
returns c = record {
  size = length-record_spelling;
  spelled = record_spells;
  read = λ r fits. table_is_read (record_spelling r) r (length-record_spelling r fits) (record_spells r fits);
}
