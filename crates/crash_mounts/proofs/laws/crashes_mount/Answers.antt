use Rattle.crash_mounts.proofs.Mounting.{crashes_mount}
use Rattle.crash_mounts.proofs.laws.crashes_mount.Goals as goal

pub returns : goal.returns
returns c = crashes_mount c.needed_is_all.ensures
