use Rattle.record_model.proofs.PairsSpelled.{written_spelled}
use Rattle.record_model.proofs.pairs_laws.written_pairs_are_spelled.Goals as goal

pub returns : goal.returns
returns c = written_spelled
