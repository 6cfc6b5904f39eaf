use Rattle.table_edits.proofs.Edit.{grown_edit}
use Rattle.table_edits.proofs.laws.grown_is_edit.Goals as goal

pub returns : goal.returns
returns c = grown_edit
