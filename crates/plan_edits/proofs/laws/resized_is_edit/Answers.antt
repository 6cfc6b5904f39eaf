use Rattle.plan_edits.proofs.Editing.{resized_edit}
use Rattle.plan_edits.proofs.laws.resized_is_edit.Goals as goal

pub returns : goal.returns
returns c = resized_edit
