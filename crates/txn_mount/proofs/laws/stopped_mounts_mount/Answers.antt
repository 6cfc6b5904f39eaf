use Rattle.txn_mount.proofs.Mountable.{stopped_mounts_mount_law}
use Rattle.txn_mount.proofs.laws.stopped_mounts_mount.Goals as goal

pub returns : goal.returns
returns c = stopped_mounts_mount_law
