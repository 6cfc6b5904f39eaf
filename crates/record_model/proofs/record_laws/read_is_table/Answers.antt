use Rattle.record_model.proofs.Records.{read_is_table}
use Rattle.record_model.proofs.record_laws.read_is_table.Goals as goal

pub returns : goal.returns
returns c = λ body r long each e. read_is_table body r each e
