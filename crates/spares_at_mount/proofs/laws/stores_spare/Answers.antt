use Rattle.spares_at_mount.proofs.Mounting.{stores}
use Rattle.spares_at_mount.proofs.laws.stores_spare.Goals as goal

pub returns : goal.returns
returns c = stores
