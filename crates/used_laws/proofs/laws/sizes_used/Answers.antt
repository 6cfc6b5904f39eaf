use Rattle.used_laws.proofs.Staying.{sizes}
use Rattle.used_laws.proofs.laws.sizes_used.Goals as goal

pub returns : goal.returns
returns c = sizes
