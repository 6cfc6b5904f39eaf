use Rattle.tree_laws.proofs.Numbering.{found_by_number}
use Rattle.tree_laws.proofs.laws.nodes_by_number.Goals as goal

pub returns : goal.returns
returns c = found_by_number
