use Rattle.index_change.proofs.Joining.{grown_keeps}
use Rattle.index_change.proofs.laws.grown_keeps.Goals as goal

pub returns : goal.returns
returns c = grown_keeps
