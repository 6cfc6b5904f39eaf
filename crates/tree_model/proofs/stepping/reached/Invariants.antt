use Rattle.std.proofs.Common.{◌≡◌, drop}
use Rattle.tree_model.specs.Walks.{walk, reached}
use Rattle.tree_model.proofs.stepping.reached.Given as goal

-- the walk of the rest leads where the path does
abbrev pub invariant-loop-at : goal.invariant-loop-at
invariant-loop-at l = walk l.tree.upper.now l.tree.tree.now.nodes l.tree.tree.now.links l.at l.number (drop l.at l.path) ≡ reached l.tree.upper.now l.tree.tree.now.nodes l.tree.tree.now.links l.path
