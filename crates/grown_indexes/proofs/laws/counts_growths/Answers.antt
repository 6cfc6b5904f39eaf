use Rattle.grown_indexes.proofs.Counted.{counts_growths}
use Rattle.grown_indexes.proofs.laws.counts_growths.Goals as goal

pub returns : goal.returns
returns c = counts_growths
