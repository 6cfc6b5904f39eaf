use Rattle.used_laws.proofs.Beside.{used}
use Rattle.used_laws.proofs.laws.streams_used.Goals as goal

pub returns : goal.returns
returns c = used
