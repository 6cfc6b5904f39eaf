use Rattle.std.proofs.Common.{List, sym, subst, ◌∙◌}
use Rattle.std.specs.Ordering.{nat_cmp}
use Rattle.std.specs.BTreeSet.{contains}
use Rattle.log_reading.specs.disk_model.Sectors.{same_block}
use Rattle.log_recovery.specs.declared.found.Shadow.{Shadow}
use Rattle.log_recovery.specs.Groups.{lent}
use Rattle.log_recovery.specs.Shadows.{shadow_by, AddsShadows}
use Rattle.log_recovery.proofs.Clusters.{one_noted}
use Rattle.log_recovery.proofs.shadowing.note.Goals as goal

pub returns-in_ok-push : goal.returns-in_ok-push
returns-in_ok-push c =
    let meant = shadow_by (contains nat_cmp c.args.ended.now) (lent c.args.group.now) in
    let old = c.args.shadows.now.items in
    subst (λ (new : List Shadow). AddsShadows meant (λ b. same_block b c.args.block) old new) (sym c.in_ok-push.ensures.items)
    (one_noted meant c.args.block c.in-Some.lsn old (sym c.shadow_of.ensures ∙ c.in-Some.is))
