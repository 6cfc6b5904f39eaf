use Rattle.std.proofs.Common.{arith}
use Rattle.volume_format.proofs.Placing.{node_shape}
use Rattle.volume_format.proofs.indexing.write_node.Goals as goal

pub protect-requires-clause-shape : goal.protect-requires-clause-shape
protect-requires-clause-shape c = node_shape c.args.node.now c.write.new.out c.write.ensures (omega (arith, c.write.auto.out, c.requires.whole))
