use Rattle.std.proofs.Common.{◌≡◌, ◌++◌, drop}
use Rattle.stream_runs.specs.Runs.{front}
use Rattle.stream_runs.proofs.sharing.front_of.Given as goal

-- the runs so far, and the first clusters of those that are left, are those of all
abbrev pub invariant-loop-run : goal.invariant-loop-run
invariant-loop-run l = l.new ++ front l.left (drop l.run-index l.runs) ≡ front l.clusters l.runs
