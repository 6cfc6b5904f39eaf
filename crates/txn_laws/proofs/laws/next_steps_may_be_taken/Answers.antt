use Rattle.txn_laws.proofs.Choosing.{next_may_be_taken}
use Rattle.txn_laws.proofs.laws.next_steps_may_be_taken.Goals as goal

pub returns : goal.returns
returns c = next_may_be_taken
