use Rattle.index_edits.proofs.Raised.{raised_is}
use Rattle.index_edits.proofs.laws.raised_is_edit.Goals as goal

pub returns : goal.returns
returns c = raised_is
