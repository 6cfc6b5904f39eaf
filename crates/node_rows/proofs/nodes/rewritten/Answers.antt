use Rattle.std.proofs.Common.{arith}
use Rattle.record_model.proofs.NodeFits.{read_node_fits}
use Rattle.node_rows.proofs.nodes.rewritten.Goals as goal

pub write-requires-clause-fits : goal.write-requires-clause-fits
write-requires-clause-fits c = read_node_fits c.args.body.now c.in_ok-node.node (λ i. (c.type_inv.body i).fits) c.in_ok-node.ensures.value (omega (arith, c.used.ensures))
