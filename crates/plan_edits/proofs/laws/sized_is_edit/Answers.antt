use Rattle.plan_edits.proofs.Sizing.{sized_edit}
use Rattle.plan_edits.proofs.laws.sized_is_edit.Goals as goal

pub returns : goal.returns
returns c = sized_edit
