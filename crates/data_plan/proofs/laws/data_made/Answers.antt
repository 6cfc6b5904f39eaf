use Rattle.data_plan.proofs.Making.{made}
use Rattle.data_plan.proofs.laws.data_made.Goals as goal

pub returns : goal.returns
returns c = made
