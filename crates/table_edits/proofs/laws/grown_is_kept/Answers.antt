use Rattle.table_edits.proofs.Edit.{grown_kept}
use Rattle.table_edits.proofs.laws.grown_is_kept.Goals as goal

pub returns : goal.returns
returns c = grown_kept
