use Rattle.std.proofs.Common.{◌≡◌, ◌++◌, map, take}
use Rattle.stream_runs.specs.Runs.{moved}
use Rattle.stream_runs.proofs.joining.push_moved.Given as goal

-- the runs so far are moved behind the others
abbrev pub invariant-loop-run : goal.invariant-loop-run
invariant-loop-run l = l.all.items ≡ l.initial.all.items ++ map (moved l.clusters) (take l.run-index l.more)
