use Rattle.std.proofs.Common.{◌≡◌, ◌+◌, ◌-◌, ◌<◌, ◌≤◌, suc, length}
use Rattle.record_model.specs.Pairs.{runs_of, runs_from, cluster_limit}
use Rattle.mapping_pairs.specs.Reading.{place_of}
use Rattle.mapping_pairs.proofs.Steps.{with_front}
use Rattle.mapping_pairs.proofs.reader.read.Given as goal

abbrev pub invariant-loop-first : goal.invariant-loop-first
invariant-loop-first l = record {
  passed : l.place.at + length l.rest ≡ length l.pairs;
  few : length l.runs ≤ l.place.at;
  clusters : l.place.clusters ≤ cluster_limit;
  lcn : l.place.lcn < cluster_limit;
  read : with_front l.runs (runs_from (suc (length l.pairs - length l.runs)) l.first_vcn (place_of l.place) l.rest) ≡ runs_of l.first_vcn l.pairs;
}

abbrev pub decreases-loop-first : goal.decreases-loop-first
decreases-loop-first l = length l.rest
