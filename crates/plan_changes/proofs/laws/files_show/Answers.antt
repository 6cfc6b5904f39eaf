use Rattle.plan_changes.proofs.Showing.{files_are}
use Rattle.plan_changes.proofs.laws.files_show.Goals as goal

pub returns : goal.returns
returns c = files_are
