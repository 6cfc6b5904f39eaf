use Rattle.journal_model.proofs.UsnSpelled.{spelled_table, spelled_read, table_fits, only_spelling}
use Rattle.journal_model.proofs.laws.usn_read_again.Goals as goal

pub returns : goal.returns
returns c = record {
  spelled = λ entry fits. spelled_table entry fits;
  read = λ entry page rest fits e. spelled_read entry fits page rest e;
  fits = λ s entry each t. table_fits s entry each t;
  only = λ s entry each t. only_spelling s entry each t;
}
