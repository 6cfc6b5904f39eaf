use Rattle.change_steps.proofs.Changing.{changes_are_steps}
use Rattle.change_steps.proofs.laws.changes_are_steps.Goals as goal

pub returns : goal.returns
returns c = changes_are_steps
