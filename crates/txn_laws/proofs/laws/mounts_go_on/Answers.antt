use Rattle.txn_laws.proofs.Mounting.{mounts_go_on_law}
use Rattle.txn_laws.proofs.laws.mounts_go_on.Goals as goal

pub returns : goal.returns
returns c = mounts_go_on_law
