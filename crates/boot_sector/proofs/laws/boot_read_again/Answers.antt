use Rattle.boot_sector.specs.BootSectors.{boot_spelling}
use Rattle.boot_sector.proofs.Tables.{table_is_read}
use Rattle.boot_sector.proofs.Spelling.{length-boot_spelling, boot_spells}
use Rattle.boot_sector.proofs.laws.boot_read_again.Goals as goal

pub returns : goal.returns
returns c = record {
  size = length-boot_spelling;
  spelled = boot_spells;
  read = λ b fits. table_is_read (boot_spelling b) b (boot_spells b fits);
}
