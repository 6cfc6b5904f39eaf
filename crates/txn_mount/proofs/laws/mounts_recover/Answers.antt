use Rattle.txn_mount.proofs.Ending.{mounts_recover_law}
use Rattle.txn_mount.proofs.laws.mounts_recover.Goals as goal

pub returns : goal.returns
returns g c = mounts_recover_law g.D.Device.gives g.D.Device.changes_of g.D.Device.moment_of g.met.D.Device.seen g.met.D.Device.values
