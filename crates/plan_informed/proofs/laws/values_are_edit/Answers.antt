use Rattle.plan_informed.proofs.Informed.{values_edit}
use Rattle.plan_informed.proofs.laws.values_are_edit.Goals as goal

pub returns : goal.returns
returns c = values_edit
