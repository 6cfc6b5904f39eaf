use Rattle.grown_indexes.proofs.First.{grows_first}
use Rattle.grown_indexes.proofs.laws.index_grows_first.Goals as goal

pub returns : goal.returns
returns c = grows_first
