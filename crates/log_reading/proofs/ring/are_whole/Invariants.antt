use Rattle.std.proofs.Common.{◌≡◌, drop}
use Rattle.log_reading.specs.Rows.{are_whole}
use Rattle.log_reading.proofs.ring.are_whole.Given as goal

-- what is found of the runs that are left is what is found of all
abbrev pub invariant-loop-run : goal.invariant-loop-run
invariant-loop-run l = are_whole l.limit l.left l.end (drop l.run-index l.runs) ≡ are_whole l.limit l.fn.sectors 0 l.runs
