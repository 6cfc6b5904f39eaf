use Rattle.std.proofs.Common.{◌≡◌, take}
use Rattle.file_tree.proofs.journal.UsnListClone.clone.Given as goal

-- the elements so far were copied
abbrev pub invariant-loop-entry : goal.invariant-loop-entry
invariant-loop-entry l = l.copy ≡ take l.entry-index l.self
