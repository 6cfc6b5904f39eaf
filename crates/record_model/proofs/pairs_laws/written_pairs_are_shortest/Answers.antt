use Rattle.record_model.proofs.PairsShortest.{shortest}
use Rattle.record_model.proofs.pairs_laws.written_pairs_are_shortest.Goals as goal

pub returns : goal.returns
returns c = shortest
