use Rattle.std.proofs.Common.{◌≡◌, take}
use Rattle.file_tree.proofs.node.NodeListClone.clone.Given as goal

-- the elements so far were copied
abbrev pub invariant-loop-node : goal.invariant-loop-node
invariant-loop-node l = l.copy ≡ take l.node-index l.self
