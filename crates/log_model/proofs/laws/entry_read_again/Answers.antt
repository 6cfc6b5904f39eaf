use Rattle.log_model.proofs.EntrySpelled.{length-entry_spelling, spelled_table, spelled_read}
use Rattle.log_model.proofs.laws.entry_read_again.Goals as goal

pub returns : goal.returns
returns c = record { size = length-entry_spelling; spelled = spelled_table; read = spelled_read }
