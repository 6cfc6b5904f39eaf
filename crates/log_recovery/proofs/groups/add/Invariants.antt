use Rattle.std.proofs.Common.{◌≡◌, ℕ, ◌++◌, ◌∷◌, [], if◌then◌else◌, ◌&&◌}
use Rattle.std.specs.Prelude.{nat_le, nat_lt}
use Rattle.std.specs.Ordering.{nat_cmp}
use Rattle.std.specs.BTreeMap.{get}
use Rattle.log_recovery.specs.Groups.{first_cluster, held_group}
use Rattle.log_recovery.proofs.groups.add.Given as goal

-- it is in the groups of the clusters so far
abbrev pub invariant-loop-cluster : goal.invariant-loop-cluster
invariant-loop-cluster l = (c : ℕ) → held_group (get nat_cmp l.groups c) ≡ held_group (get nat_cmp l.initial.groups c) ++ (if nat_le (first_cluster l.fn.block) c && nat_lt c l.cluster then l.fn.entry ∷ [] else [])
