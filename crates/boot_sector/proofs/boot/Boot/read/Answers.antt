use Rattle.boot_sector.proofs.Tables.{answered_table}
use Rattle.boot_sector.proofs.boot.Boot.read.Goals as goal

pub returns-clause-spelled : goal.returns-clause-spelled
returns-clause-spelled c = answered_table c.args.bytes.now c.checked_fields.result c.checked_fields.ensures
