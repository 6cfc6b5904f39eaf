use Rattle.volume_mount.proofs.Booting.{is_tried}
use Rattle.volume_mount.proofs.laws.boot_is_tried.Goals as goal

pub returns : goal.returns
returns c = is_tried
