use Rattle.plan_edits.proofs.Recording.{record_edit}
use Rattle.plan_edits.proofs.laws.record_is_edit.Goals as goal

pub returns : goal.returns
returns c = record_edit
