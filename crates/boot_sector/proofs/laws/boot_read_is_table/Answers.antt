use Rattle.boot_sector.proofs.Tables.{read_is_table}
use Rattle.boot_sector.proofs.laws.boot_read_is_table.Goals as goal

pub returns : goal.returns
returns c = read_is_table
