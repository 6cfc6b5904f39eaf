use Rattle.index_edits.proofs.Grown.{grown_is}
use Rattle.index_edits.proofs.laws.grown_is_edit.Goals as goal

pub returns : goal.returns
returns c = grown_is
