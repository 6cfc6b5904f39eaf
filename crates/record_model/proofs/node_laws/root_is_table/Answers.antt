use Rattle.record_model.proofs.NodeTables.{root_from_ok, ok_from_root}
use Rattle.record_model.proofs.node_laws.root_is_table.Goals as goal

pub returns : goal.returns
returns c = λ value entries. (root_from_ok value entries, ok_from_root value entries)
