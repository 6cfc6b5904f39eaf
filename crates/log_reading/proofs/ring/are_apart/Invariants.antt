use Rattle.std.proofs.Common.{◌≡◌, drop}
use Rattle.log_reading.specs.Rows.{are_apart}
use Rattle.log_reading.proofs.ring.are_apart.Given as goal

-- what is found of the runs that are left is what is found of all
abbrev pub invariant-loop-run : goal.invariant-loop-run
invariant-loop-run l = are_apart l.first l.sectors (drop l.run-index l.runs) ≡ are_apart 0 0 l.runs
