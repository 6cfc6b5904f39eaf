use Rattle.std.proofs.Common.{◌≡◌, ◌++◌, drop}
use Rattle.log_reading.specs.Rows.{front_runs}
use Rattle.log_reading.proofs.ring.front_runs.Given as goal

-- what was gathered, and what is to be gathered of the runs that are left
abbrev pub invariant-loop-run : goal.invariant-loop-run
invariant-loop-run l = l.parts.items ++ front_runs (drop l.run-index l.runs) l.left ≡ front_runs l.runs l.fn.sectors
