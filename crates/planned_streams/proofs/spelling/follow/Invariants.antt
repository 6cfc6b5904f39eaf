use Rattle.std.proofs.Common.{◌≤◌, drop}
use Rattle.record_model.specs.Pairs.{cluster_limit, Follow, HasSpelling}
use Rattle.planned_streams.proofs.spelling.follow.Given as goal

-- the runs have a spelling where those that are left follow the clusters so far
abbrev pub invariant-loop-run : goal.invariant-loop-run
invariant-loop-run l = record {
  few : l.clusters ≤ cluster_limit;
  all : Follow 0 l.clusters (drop l.run-index l.runs) → HasSpelling 0 l.runs;
  left : HasSpelling 0 l.runs → Follow 0 l.clusters (drop l.run-index l.runs);
}
