use Rattle.log_model.proofs.EntryTables.{read_table, table_read, read_fits}
use Rattle.log_model.proofs.laws.entry_is_table.Goals as goal

pub returns : goal.returns
returns c = record { read = λ bytes e. (read_table bytes e, table_read bytes e); fits = read_fits }
