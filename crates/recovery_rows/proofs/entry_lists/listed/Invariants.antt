use Rattle.std.specs.Prelude.{All}
use Rattle.log_model.specs.Logs.{IsLevel}
use Rattle.recovery_rows.proofs.entry_lists.listed.Given as goal

-- the entries so far
abbrev pub invariant-loop-row : goal.invariant-loop-row
invariant-loop-row l = All IsLevel l.entries.items
