use Rattle.std.proofs.Common.{◌≡◌, ℕ, ◌+◌, ◌<◌, length, get_or}
use Rattle.tree_model.specs.declared.script.Command.{Command}
use Rattle.run_model.specs.declared.turn.Turn.{Turn}
use Rattle.change_run.specs.Turns.{IsBlank}
use Rattle.change_run.proofs.blank.blank_turns.Given as goal

-- the turns of the commands so far
abbrev pub invariant-loop-command : goal.invariant-loop-command
invariant-loop-command l = (length l.turns.items ≡ l.command-index) × ((i : ℕ) (c : Command) (t : Turn) → i < l.command-index → IsBlank (get_or l.command-items i c) (i + 1) (get_or l.turns.items i t))
