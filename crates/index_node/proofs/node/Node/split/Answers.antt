use Rattle.std.proofs.Common.{length, ap, ◌∙◌, arith}
use Rattle.record_model.specs.Nodes.{Node}
use Rattle.index_node.proofs.Sizes.{left_bounded, right_bounded}
use Rattle.index_node.proofs.node.Node.split.Goals as goal

pub invariant_of-result : goal.invariant_of-result
invariant_of-result c =
    left_bounded c.self.inside.entries c.replace-left.result c.end_at.new.entries c.args.at c.self.invariant (omega (arith, c.requires, ap (λ (n : Node). length n.entries) c.self.view_is))
    (c.replace-left.ensures.value ∙ c.in_ok-right.ensures.ok) c.end_at.ensures

pub invariant_of-self-2 : goal.invariant_of-self-2
invariant_of-self-2 c = right_bounded c.self.inside.entries c.replace-left.new.dest c.args.at c.self.invariant (c.replace-left.ensures.after ∙ c.in_ok-right.ensures.later)
