use Rattle.grown_indexes.proofs.Steps.{puts_as_counted}
use Rattle.grown_indexes.proofs.laws.puts_as_counted.Goals as goal

pub returns : goal.returns
returns c = puts_as_counted
