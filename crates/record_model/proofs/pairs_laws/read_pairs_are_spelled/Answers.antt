use Rattle.record_model.proofs.PairsBack.{read_spelled}
use Rattle.record_model.proofs.pairs_laws.read_pairs_are_spelled.Goals as goal

pub returns : goal.returns
returns c = read_spelled
