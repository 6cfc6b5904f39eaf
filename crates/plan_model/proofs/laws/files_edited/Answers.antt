use Rattle.plan_model.proofs.Stepping.{files_edited}
use Rattle.plan_model.proofs.laws.files_edited.Goals as goal

pub returns : goal.returns
returns c = files_edited
