use Rattle.std.proofs.Common.{◌≡◌, ◌+◌, ◌++◌, ◌≤◌, drop}
use Rattle.volume_model.specs.record_model.Pairs.{cluster_limit}
use Rattle.volume_model.specs.record_model.Runs.{IsSmall}
use Rattle.volume_model.specs.state_model.Loads.{total_clusters}
use Rattle.stream_runs.specs.Runs.{in_front, merged}
use Rattle.stream_runs.proofs.joining.joined.Given as goal

-- the runs so far, and the last one in front of those that are left, are all
abbrev pub invariant-loop-run : goal.invariant-loop-run
invariant-loop-run l = record {
  runs : l.new ++ in_front l.last (merged (drop l.run-index l.rest)) ≡ merged l.fn.runs;
  small : IsSmall l.last;
  few : l.last.len + total_clusters (drop l.run-index l.rest) ≤ cluster_limit;
}
