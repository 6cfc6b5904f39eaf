use Rattle.txn_core.proofs.Leading.{steps_lead_on as they_lead_on}
use Rattle.txn_core.proofs.laws.steps_lead_on.Goals as goal

pub returns : goal.returns
returns c = they_lead_on
