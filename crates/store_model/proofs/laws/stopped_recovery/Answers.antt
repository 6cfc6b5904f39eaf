use Rattle.store_model.proofs.Writes.{stopped_recovery_law}
use Rattle.store_model.proofs.laws.stopped_recovery.Goals as goal

pub returns : goal.returns
returns c = stopped_recovery_law
