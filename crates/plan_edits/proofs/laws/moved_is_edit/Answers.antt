use Rattle.plan_edits.proofs.Moving.{moved_edit}
use Rattle.plan_edits.proofs.laws.moved_is_edit.Goals as goal

pub returns : goal.returns
returns c = moved_edit
