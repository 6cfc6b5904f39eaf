use Rattle.boot_sector.proofs.Spelling.{spelled_table}
use Rattle.boot_sector.proofs.boot.Boot.write.Goals as goal

pub returns-clause-table : goal.returns-clause-table
returns-clause-table c = spelled_table c.args.self.now c.put_fields.new.out c.requires.fits c.put_fields.ensures
