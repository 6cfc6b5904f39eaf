use Rattle.mount_laws.proofs.First.{least_first}
use Rattle.mount_laws.proofs.laws.least_is_first.Goals as goal

pub returns : goal.returns
returns c = least_first
