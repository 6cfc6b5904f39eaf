use Rattle.std.proofs.Common.{◌≡◌, drop}
use Rattle.put_checks.specs.Checks.{are_in_row}
use Rattle.put_checks.proofs.checking.are_in_row.Given as goal

-- the changes that are left are in a row from there on where all are
abbrev pub invariant-loop-change : goal.invariant-loop-change
invariant-loop-change l = are_in_row l.from (drop l.change-index l.changes) ≡ are_in_row 0 l.changes
