use Rattle.std.proofs.Common.{◌≡◌, ◌<◌, ℕ, ◌++◌, length}
use Rattle.record_model.specs.Pairs.{pairs_from, pairs_of, cluster_limit, Follow, first_vcn}
use Rattle.mapping_pairs.proofs.writer.write.Given as goal

abbrev pub invariant-loop-run : goal.invariant-loop-run
invariant-loop-run l = record {
  written : l.pairs.items ++ pairs_from l.before l.rest ≡ pairs_of l.runs;
  before : l.before < cluster_limit;
  follow : (clusters : ℕ) × Follow (first_vcn l.runs) clusters l.rest;
}

abbrev pub decreases-loop-run : goal.decreases-loop-run
decreases-loop-run l = length l.rest
