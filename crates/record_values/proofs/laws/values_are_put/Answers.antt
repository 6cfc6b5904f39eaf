use Rattle.record_values.proofs.Valued.{values_put}
use Rattle.record_values.proofs.laws.values_are_put.Goals as goal

pub returns : goal.returns
returns c = values_put
