use Rattle.mount_laws.proofs.Placed.{on_ring}
use Rattle.mount_laws.proofs.laws.mounted_on_ring.Goals as goal

pub returns : goal.returns
returns c = on_ring
