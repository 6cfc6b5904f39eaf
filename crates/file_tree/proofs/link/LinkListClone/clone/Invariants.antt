use Rattle.std.proofs.Common.{◌≡◌, take}
use Rattle.file_tree.proofs.link.LinkListClone.clone.Given as goal

-- the elements so far were copied
abbrev pub invariant-loop-link : goal.invariant-loop-link
invariant-loop-link l = l.copy ≡ take l.link-index l.self
