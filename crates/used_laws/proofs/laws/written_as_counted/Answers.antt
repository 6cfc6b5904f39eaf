use Rattle.used_laws.proofs.Lengths.{as_counted}
use Rattle.used_laws.proofs.laws.written_as_counted.Goals as goal

pub returns : goal.returns
returns c = as_counted
