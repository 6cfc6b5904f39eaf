use Rattle.boot_sector.proofs.Tables.{table_is_read}
use Rattle.boot_sector.proofs.laws.boot_table_is_read.Goals as goal

pub returns : goal.returns
returns c = table_is_read
