use Rattle.std.proofs.Common.{ℕ, List, ap, sym, subst, ◌∙◌}
use Rattle.std.specs.Ordering.{eq_by_cmp, nat_cmp}
use Rattle.std.specs.List.Sorted.{IsStrictlySortedBy}
use Rattle.std.specs.Set.{is_member}
use Rattle.std.specs.BTreeSet.{contains}
use Rattle.log_recovery.specs.Groups.{lent}
use Rattle.log_recovery.proofs.Clusters.{none_done, cluster_done}
use Rattle.log_recovery.proofs.shadowing.shadows_of.Goals as goal

pub loop-cluster-init : goal.loop-cluster-init
loop-cluster-init c =
    let clusters = c.keys-cluster-items.ensures in
    let same = c.into_iter-cluster-iterator.ensures.into_iter_gives in
    none_done (contains nat_cmp c.args.ended.now) c.args.groups.now c.into_iter-cluster-iterator.result c.new-shadows.result.items c.new-shadows.ensures.items
    (λ q. clusters.has q ∙ ap (λ (ks : List ℕ). is_member (eq_by_cmp nat_cmp) ks q) (sym same)) (subst (IsStrictlySortedBy nat_cmp) (sym (same ∙ clusters.rest)) clusters.ordered)

pub loop-cluster-preserved : goal.loop-cluster-preserved
loop-cluster-preserved c =
    cluster_done (contains nat_cmp c.args.ended.now) c.args.groups.now c.in-Some.cluster.now c.loop-cluster.cluster-iterator c.next.new.self (lent c.group_at-group.result.now)
    c.loop-cluster.shadows.items c.note_cluster.new.shadows.items c.in-Some.ensures.steps c.group_at-group.ensures c.in_ok-note_cluster.ensures c.loop-cluster.invariant
