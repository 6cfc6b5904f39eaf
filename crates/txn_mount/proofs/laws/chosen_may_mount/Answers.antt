use Rattle.txn_mount.proofs.Choosing.{may_mount_law}
use Rattle.txn_mount.proofs.laws.chosen_may_mount.Goals as goal

pub returns : goal.returns
returns c = may_mount_law
