use Rattle.txn_mount.proofs.Knowing.{starts_behind_law}
use Rattle.txn_mount.proofs.laws.starts_behind.Goals as goal

pub returns : goal.returns
returns g c = starts_behind_law g.D.Device.gives g.D.Device.changes_of g.D.Device.moment_of g.met.D.Device.seen g.met.D.Device.values
