use Rattle.grown_indexes.proofs.Steps.{puts_among}
use Rattle.grown_indexes.proofs.laws.puts_among.Goals as goal

pub returns : goal.returns
returns c = puts_among
