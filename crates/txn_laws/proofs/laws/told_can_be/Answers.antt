use Rattle.txn_laws.proofs.Counting.{told_can_be as can_be_told}
use Rattle.txn_laws.proofs.laws.told_can_be.Goals as goal

pub returns : goal.returns
returns c = can_be_told
