use Rattle.lookup_laws.proofs.Climbing.{system_by_nodes}
use Rattle.lookup_laws.proofs.laws.system_by_names.Goals as goal

pub returns : goal.returns
returns c = system_by_nodes
