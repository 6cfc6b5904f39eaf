use Rattle.record_model.proofs.NodeTables.{one_node, one_root}
use Rattle.record_model.proofs.node_laws.spells_one_node.Goals as goal

pub returns : goal.returns
returns c = record { node = one_node; root = one_root }
