use Rattle.mount_laws.proofs.Placed.{passes}
use Rattle.mount_laws.proofs.laws.mounted_passes.Goals as goal

pub returns : goal.returns
returns c = passes
