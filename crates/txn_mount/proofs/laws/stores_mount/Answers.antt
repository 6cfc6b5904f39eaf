use Rattle.txn_mount.proofs.Mountable.{stores_mount_law}
use Rattle.txn_mount.proofs.laws.stores_mount.Goals as goal

pub returns : goal.returns
returns c = stores_mount_law
