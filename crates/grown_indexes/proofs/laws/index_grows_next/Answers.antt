use Rattle.grown_indexes.proofs.Next.{grows_next}
use Rattle.grown_indexes.proofs.laws.index_grows_next.Goals as goal

pub returns : goal.returns
returns c = grows_next
