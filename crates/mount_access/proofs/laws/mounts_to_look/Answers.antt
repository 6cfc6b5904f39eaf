use Rattle.mount_access.proofs.Mounted.{to_look}
use Rattle.mount_access.proofs.laws.mounts_to_look.Goals as goal

pub returns : goal.returns
returns c = to_look
