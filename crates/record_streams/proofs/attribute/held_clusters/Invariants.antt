use Rattle.std.proofs.Common.{◌≡◌, ◌+◌, ◌≤◌, drop}
use Rattle.record_writer.specs.record_model.Pairs.{cluster_limit}
use Rattle.stream_map.specs.state_model.Loads.{total_clusters}
use Rattle.record_streams.specs.Placing.{held_clusters}
use Rattle.record_streams.proofs.attribute.held_clusters.Given as goal

-- what is held so far, and of the runs that are left, is what all hold
abbrev pub invariant-loop-run : goal.invariant-loop-run
invariant-loop-run l = record {
  sum : l.held + held_clusters (drop l.run-index l.runs) ≡ held_clusters l.runs;
  few : l.held + total_clusters (drop l.run-index l.runs) ≤ cluster_limit;
}
