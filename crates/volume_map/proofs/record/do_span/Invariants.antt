use Rattle.std.proofs.Common.{◌≡◌, ◌+◌, ◌%◌, ◌^◌, drop}
use Rattle.state_model.specs.Loads.{total_clusters}
use Rattle.volume_map.proofs.record.do_span.Given as goal

abbrev pub invariant-loop-run : goal.invariant-loop-run
invariant-loop-run l = (l.end + total_clusters (drop l.run-index l.runs)) % 2 ^ 64 ≡ (l.sizes.first + total_clusters l.runs) % 2 ^ 64
