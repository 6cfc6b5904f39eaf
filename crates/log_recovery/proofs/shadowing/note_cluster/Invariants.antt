use Rattle.std.proofs.Common.{◌+◌}
use Rattle.std.specs.Ordering.{nat_cmp}
use Rattle.std.specs.BTreeSet.{contains}
use Rattle.log_recovery.specs.Groups.{lent}
use Rattle.log_recovery.specs.Shadows.{shadow_by, AddsShadows}
use Rattle.log_recovery.proofs.Clusters.{is_between}
use Rattle.log_recovery.proofs.shadowing.note_cluster.Given as goal

-- those of the sectors so far
abbrev pub invariant-loop-sector : goal.invariant-loop-sector
invariant-loop-sector l = AddsShadows (shadow_by (contains nat_cmp l.ended) (lent l.group)) (is_between l.first (l.first + l.sector)) l.initial.shadows.items l.shadows.items
