use Rattle.stays_at_mount.proofs.Mounting.{mount_stays}
use Rattle.stays_at_mount.proofs.laws.mounts_stay.Goals as goal

pub returns : goal.returns
returns g c = mount_stays g.D.Device.gives g.D.Device.changes_of g.D.Device.moment_of
