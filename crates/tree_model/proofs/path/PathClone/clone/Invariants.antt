use Rattle.std.proofs.Common.{◌≡◌, take}
use Rattle.tree_model.proofs.path.PathClone.clone.Given as goal

-- the elements so far were copied
abbrev pub invariant-loop-part : goal.invariant-loop-part
invariant-loop-part l = l.copy ≡ take l.part-index l.self
