use Rattle.txn_mount.proofs.Knowing.{reads_disk_law}
use Rattle.txn_mount.proofs.laws.reads_disk.Goals as goal

pub returns : goal.returns
returns c = reads_disk_law
