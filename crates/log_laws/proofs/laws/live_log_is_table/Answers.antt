use Rattle.log_laws.proofs.Logs.{table_read, table_stopped, read_table, stopped_table, one_count, outside}
use Rattle.log_laws.proofs.laws.live_log_is_table.Goals as goal

pub returns : goal.returns
returns c = record {
  read = λ pages raw oldest entries ring. (read_table pages raw oldest ring entries, table_read pages raw oldest ring entries);
  stopped = λ pages raw oldest lsn entries ring. (stopped_table pages raw oldest ring lsn entries, table_stopped pages raw oldest ring lsn entries);
  one = one_count;
  outside = outside;
}
