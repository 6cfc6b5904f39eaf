use Rattle.std.proofs.Common.{◌≡◌, ◌+◌, drop}
use Rattle.volume_model.specs.state_model.Loads.{total_clusters}
use Rattle.stream_runs.proofs.joining.total_clusters.Given as goal

-- the clusters so far and those of the runs that are left are all
abbrev pub invariant-loop-run : goal.invariant-loop-run
invariant-loop-run l = l.total + total_clusters (drop l.run-index l.runs) ≡ total_clusters l.runs
