use Rattle.used_laws.proofs.Beside.{together}
use Rattle.used_laws.proofs.laws.streams_used_together.Goals as goal

pub returns : goal.returns
returns c = together
