use Rattle.mount_access.proofs.Changed.{change_is_mount}
use Rattle.mount_access.proofs.laws.change_is_the_mount.Goals as goal

pub returns : goal.returns
returns c = change_is_mount
