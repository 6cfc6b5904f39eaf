use Rattle.plan_values.proofs.Valued.{values_written}
use Rattle.plan_values.proofs.laws.value_written.Goals as goal

pub returns : goal.returns
returns c = values_written
