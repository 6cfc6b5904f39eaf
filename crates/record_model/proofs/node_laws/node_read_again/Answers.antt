use Rattle.record_model.specs.Nodes.{node_spelling}
use Rattle.record_model.proofs.NodeTables.{ok_from_node}
use Rattle.record_model.proofs.NodeSpelling.{length-node_spelling, node_spells}
use Rattle.record_model.proofs.node_laws.node_read_again.Goals as goal

pub returns : goal.returns
returns c = record {
  size = length-node_spelling;
  spelled = node_spells;
  read = λ n fits. ok_from_node (node_spelling n) n (node_spells n fits);
}
