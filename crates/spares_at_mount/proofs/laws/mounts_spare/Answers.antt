use Rattle.spares_at_mount.proofs.Mounting.{spared_at_start}
use Rattle.spares_at_mount.proofs.laws.mounts_spare.Goals as goal

pub returns : goal.returns
returns c = spared_at_start
