use Rattle.index_node.proofs.Whole.{block_bounded}
use Rattle.index_node.proofs.node.Node.read.Goals as goal

pub invariant_of-result : goal.invariant_of-result
invariant_of-result c = block_bounded c.args.body.now c.in_ok-entries.entries c.requires (rw (← c.split_at.ensures.back) c.in_ok-entries.ensures)
