use Rattle.mount_access.proofs.Looked.{look_is_check}
use Rattle.mount_access.proofs.laws.look_is_the_check.Goals as goal

pub returns : goal.returns
returns c = look_is_check
