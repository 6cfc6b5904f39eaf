use Rattle.record_model.proofs.NodeTables.{node_from_ok, ok_from_node}
use Rattle.record_model.proofs.node_laws.node_is_table.Goals as goal

pub returns : goal.returns
returns c = λ body n. (node_from_ok body n, ok_from_node body n)
