use Rattle.std.specs.Ordering.{nat_cmp}
use Rattle.std.specs.BTreeSet.{contains}
use Rattle.log_recovery.proofs.Clusters.{Leaves}
use Rattle.log_recovery.proofs.shadowing.shadows_of.Given as goal

-- those of the clusters to come are left
abbrev pub invariant-loop-cluster : goal.invariant-loop-cluster
invariant-loop-cluster l = Leaves (contains nat_cmp l.ended) l.groups l.cluster-iterator l.shadows.items
