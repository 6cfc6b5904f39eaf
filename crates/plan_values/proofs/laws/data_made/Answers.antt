use Rattle.plan_values.proofs.Made.{data_is_made}
use Rattle.plan_values.proofs.laws.data_made.Goals as goal

pub returns : goal.returns
returns c = data_is_made
