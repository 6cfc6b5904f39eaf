use Rattle.txn_log.proofs.Enough.{pages_are_enough}
use Rattle.txn_log.proofs.laws.pages_are_enough.Goals as goal

pub returns : goal.returns
returns c = pages_are_enough
