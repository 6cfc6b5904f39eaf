use Rattle.plan_changes.proofs.Going.{files_going}
use Rattle.plan_changes.proofs.laws.files_go_on.Goals as goal

pub returns : goal.returns
returns c = files_going
