use Rattle.txn_core.proofs.LogOpenings.{logs_open as they_open}
use Rattle.txn_core.proofs.laws.logs_open.Goals as goal

pub returns : goal.returns
returns c = they_open
