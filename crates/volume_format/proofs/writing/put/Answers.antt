use Rattle.volume_format.proofs.Calls.{went_on, began_write}
use Rattle.std.proofs.Common.{arith}
use Rattle.volume_format.proofs.Crashing.{write_stays}
use Rattle.volume_format.proofs.writing.put.Goals as goal

pub returns-clause-moment : goal.returns-clause-moment
returns-clause-moment g c = went_on c.write.result _ _ c.write.ensures.moment (λ ended. (c.write.ensures.ended ended).failed)

pub returns-clause-changes : goal.returns-clause-changes
returns-clause-changes g c = began_write c.write.result _ _ _ _ _ c.write.ensures.changes (λ ended. (c.write.ensures.ended ended).failed)

pub returns-clause-above : goal.returns-clause-above
returns-clause-above g c = write_stays _ _ _ _ c.write.result _ _ (omega arith) c.write.ensures.changes
