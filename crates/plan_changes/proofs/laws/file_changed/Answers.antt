use Rattle.plan_changes.proofs.Changing.{changes_done}
use Rattle.plan_changes.proofs.laws.file_changed.Goals as goal

pub returns : goal.returns
returns c = changes_done
