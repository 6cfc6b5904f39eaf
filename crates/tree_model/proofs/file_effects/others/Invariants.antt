use Rattle.std.proofs.Common.{◌≡◌, take}
use Rattle.std.specs.Prelude.{filter, not, ◌==◌}
use Rattle.file_tree.specs.declared.node.Node.{Node}
use Rattle.tree_model.proofs.file_effects.others.Given as goal

abbrev pub invariant-loop-node : goal.invariant-loop-node
invariant-loop-node l = l.list ≡ filter (λ (n : Node). not (n.number == l.number)) (take l.node-index l.nodes)
