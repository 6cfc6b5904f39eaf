use Rattle.txn_mount.proofs.Stopping.{stopped_mounts_law}
use Rattle.txn_mount.proofs.laws.stopped_mounts.Goals as goal

pub returns : goal.returns
returns c = stopped_mounts_law
