use Rattle.std.proofs.Common.{◌≡◌, take}
use Rattle.tree_model.proofs.script.ScriptClone.clone.Given as goal

-- the elements so far were copied
abbrev pub invariant-loop-command : goal.invariant-loop-command
invariant-loop-command l = l.copy ≡ take l.command-index l.self
