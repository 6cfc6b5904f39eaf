use Rattle.std.proofs.Common.{◌≡◌, ◌++◌, take, map, string_bytes}
use Rattle.std.specs.List.{flat_map}
use Rattle.std.specs.Borrow.{Bor}
use Rattle.file_tree.specs.declared.node.Node.{Node}
use Rattle.image_dump.specs.Texts.{node_line}
use Rattle.image_dump.proofs.dump.push_nodes.Given as goal

-- the lines of the nodes so far
abbrev pub invariant-loop-node : goal.invariant-loop-node
invariant-loop-node l = string_bytes l.text ≡ string_bytes l.initial.text ++ flat_map node_line (map (λ (k : Bor Node). k.now) (take l.node-index l.node-items))
