use Rattle.std.proofs.Common.{length, ap, arith}
use Rattle.record_model.specs.Nodes.{Node}
use Rattle.index_node.proofs.Sizes.{removed_bounded}
use Rattle.index_node.proofs.node.Node.remove.Goals as goal

pub invariant_of-self : goal.invariant_of-self
invariant_of-self c =
    removed_bounded c.self.inside.entries c.remove.new.self c.args.at c.self.invariant (omega (arith, c.requires, ap (λ (n : Node). length n.entries) c.self.view_is)) c.remove.ensures.rest
