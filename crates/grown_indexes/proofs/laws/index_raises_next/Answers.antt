use Rattle.grown_indexes.proofs.Behind.{raises_next}
use Rattle.grown_indexes.proofs.laws.index_raises_next.Goals as goal

pub returns : goal.returns
returns c = raises_next
