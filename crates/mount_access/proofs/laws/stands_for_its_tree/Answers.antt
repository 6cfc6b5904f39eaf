use Rattle.mount_access.proofs.Mounted.{stands_for_tree}
use Rattle.mount_access.proofs.laws.stands_for_its_tree.Goals as goal

pub returns : goal.returns
returns c = stands_for_tree
