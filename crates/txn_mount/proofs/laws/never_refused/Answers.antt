use Rattle.txn_mount.proofs.Mountable.{never_refused_law}
use Rattle.txn_mount.proofs.laws.never_refused.Goals as goal

pub returns : goal.returns
returns c = never_refused_law
