use Rattle.std.proofs.Common.{◌≡◌, ℕ, ◌+◌, arith, subst}
use Rattle.std.specs.Ordering.{nat_cmp}
use Rattle.std.specs.BTreeSet.{contains}
use Rattle.log_recovery.specs.Groups.{lent}
use Rattle.log_recovery.specs.Shadows.{shadow_by, AddsShadows}
use Rattle.log_recovery.proofs.Clusters.{is_between, more_sectors, cluster_noted}
use Rattle.log_recovery.proofs.shadowing.note_cluster.Goals as goal

pub loop-sector-preserved : goal.loop-sector-preserved
loop-sector-preserved c =
    more_sectors (shadow_by (contains nat_cmp c.args.ended.now) (lent c.args.group.now)) c.in_ok-first.first c.loop-sector.sector _ _ _ c.loop-sector.invariant c.in_ok-note_sector.ensures

pub returns : goal.returns
returns c =
    let meant = shadow_by (contains nat_cmp c.args.ended.now) (lent c.args.group.now) in
    let first = c.in_ok-first.first in
    let all : c.loop-sector.sector ≡ 8 = omega arith in
    cluster_noted meant c.args.cluster first c.args.shadows.now.items c.loop-sector.shadows.items c.in_ok-first.ensures.value
    (subst (λ (n : ℕ). AddsShadows meant (is_between first (first + n)) c.args.shadows.now.items c.loop-sector.shadows.items) all c.loop-sector.invariant)
