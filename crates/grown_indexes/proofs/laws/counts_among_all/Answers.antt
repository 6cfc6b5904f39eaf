use Rattle.grown_indexes.proofs.Steps.{among_all}
use Rattle.grown_indexes.proofs.laws.counts_among_all.Goals as goal

pub returns : goal.returns
returns c = among_all
