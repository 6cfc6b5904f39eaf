use Rattle.std.proofs.Common.{◌≡◌}
use Rattle.std.specs.Prelude.{take}
use Rattle.state_model.specs.Loads.{total_clusters}
use Rattle.volume_tree.proofs.stream.total_clusters.Given as goal

abbrev pub invariant-loop-run : goal.invariant-loop-run
invariant-loop-run l = l.total ≡ total_clusters (take l.run-index l.runs)
