use Rattle.txn_laws.proofs.Following.{windows_follow_law}
use Rattle.txn_laws.proofs.laws.windows_follow.Goals as goal

pub returns : goal.returns
returns c = windows_follow_law
