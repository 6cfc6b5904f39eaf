use Rattle.std.proofs.Common.{Bool, Option, ap, ◌∙◌}
use Rattle.std.specs.Prelude.{unwrap_or}
use Rattle.std.specs.Ordering.{nat_cmp}
use Rattle.std.specs.BTreeSet.{contains}
use Rattle.log_model.specs.Logs.{act_says}
use Rattle.log_recovery.proofs.Walking.{said_more}
use Rattle.log_recovery.proofs.walks.is_shadowed.Goals as goal

pub loop-entry-preserved : goal.loop-entry-preserved
loop-entry-preserved c =
    let log = c.args.entries.now in
    let entry = c.entry-item.result in
    said_more (contains nat_cmp c.args.ended.now) log c.loop-entry.entry-index entry c.args.block c.loop-entry.shadowed c.unwrap_or-shadowed.result _ c.loop-entry-test.true c.entry-item.is
    (c.unwrap_or-shadowed.ensures ∙ ap (λ (o : Option Bool). unwrap_or o c.loop-entry.shadowed) (c.act_says-says.ensures ∙ ap (λ (t : Bool). act_says c.args.block t entry.now.act) c.contains.ensures)) c.loop-entry.invariant
