use Rattle.index_laws.proofs.Reaching.{even_leaf}
use Rattle.index_laws.proofs.laws.even_root_is_leaf.Goals as goal

pub returns : goal.returns
returns c = even_leaf
