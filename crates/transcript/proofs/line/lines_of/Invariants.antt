use Rattle.std.proofs.Common.{◌≡◌, ◌++◌, take, map}
use Rattle.run_model.specs.Texts.{turn_line, find_line}
use Rattle.transcript.proofs.line.lines_of.Given as goal

abbrev pub invariant-loop-turn : goal.invariant-loop-turn
invariant-loop-turn l = l.lines.items ≡ map turn_line (take l.turn-index l.turns)

abbrev pub invariant-loop-find : goal.invariant-loop-find
invariant-loop-find l = l.lines.items ≡ map turn_line l.turns ++ map find_line (take l.find-index l.finds)
