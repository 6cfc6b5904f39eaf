use Rattle.index_model.proofs.WalkLaw.{one_index}
use Rattle.index_model.proofs.laws.one_index.Goals as goal

pub returns : goal.returns
returns c = one_index
