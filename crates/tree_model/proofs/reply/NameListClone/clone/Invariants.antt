use Rattle.std.proofs.Common.{◌≡◌, take}
use Rattle.tree_model.proofs.reply.NameListClone.clone.Given as goal

-- the elements so far were copied
abbrev pub invariant-loop-name : goal.invariant-loop-name
invariant-loop-name l = l.copy ≡ take l.name-index l.self
