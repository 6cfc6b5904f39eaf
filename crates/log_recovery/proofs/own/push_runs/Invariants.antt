use Rattle.std.proofs.Common.{◌≡◌, ◌++◌, drop}
use Rattle.log_recovery.specs.Own.{stretches_in}
use Rattle.log_recovery.proofs.own.push_runs.Given as goal

-- what was gathered, and what is to be gathered of the runs that are left
abbrev pub invariant-loop-run : goal.invariant-loop-run
invariant-loop-run l = l.stretches.items ++ stretches_in l.device l.left (drop l.run-index l.runs) ≡ l.initial.stretches.items ++ stretches_in l.device l.fn.sectors l.runs
