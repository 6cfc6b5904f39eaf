use Rattle.std.proofs.Common.{ap, sym, subst, ◌∙◌}
use Rattle.std.specs.Prelude.{IfErr}
use Rattle.std.specs.Ordering.{nat_cmp}
use Rattle.std.specs.BTreeSet.{contains}
use Rattle.log_model.specs.declared.entry.Entry.{Entry}
use Rattle.log_recovery.specs.Finding.{update_block, Refuses}
use Rattle.log_recovery.specs.Groups.{lent}
use Rattle.log_recovery.proofs.Ending.{again_known, added_known, refused_known}
use Rattle.log_recovery.proofs.Grouping.{group_lies, group_judged}
use Rattle.log_recovery.proofs.Placing.{met_again, met_first}
use Rattle.log_recovery.proofs.recovering.note.Goals as goal

pub returns-then-not-branch-clause-found : goal.returns-then-not-branch-clause-found
returns-then-not-branch-clause-found g c =
    again_known (g.V.View.content c.args.view.now) c.args.log.now.entries.now c.args.index c.index-log-index.result c.in-Some.block c.args.bodies.now.items c.requires.inside c.index-log-index.is
    (ap (λ (x : Entry). update_block x.act) c.index-log-index.is ∙ sym c.update_block.ensures ∙ c.in-Some.is) (met_again c.in_ok-meet.field-0 _ _ c.in_ok-meet.ensures.first (c.requires.met c.in-Some.block) c.if-not-branch.true)

pub judge-requires : goal.judge-requires
judge-requires g c = group_lies c.group_at-group.result.now c.args.log.now.entries.now _ c.requires.lies (c.group_at-group.ensures ∙ c.requires.groups _)

pub returns-clause-found : goal.returns-clause-found
returns-clause-found g c =
    let content = g.V.View.content c.args.view.now in
    let log = c.args.log.now in
    let block = c.in-Some.block in
    added_known content log.entries.now c.args.index c.index-log-index.result block c.in_ok-judged.judged (contains nat_cmp log.ended) c.args.bodies.now.items c.add.new.bodies.items c.add.result c.requires.ended c.requires.level c.requires.inside c.index-log-index.is
    (ap (λ (x : Entry). update_block x.act) c.index-log-index.is ∙ sym c.update_block.ensures ∙ c.in-Some.is) (met_first c.in_ok-meet.field-0 _ _ c.in_ok-meet.ensures.first (c.requires.met block) c.if-not-branch.false) (g.met.V.View.sized c.args.view.now)
    (group_judged content (contains nat_cmp log.ended) (lent c.group_at-group.result.now) log.entries.now block c.in_ok-judged.judged (c.group_at-group.ensures ∙ c.requires.groups _) c.in_ok-judged.ensures.judged) c.add.ensures.ok

pub returns-clause-foreign : goal.returns-clause-foreign
returns-clause-foreign g c =
    let content = g.V.View.content c.args.view.now in
    let log = c.args.log.now in
    let block = c.in-Some.block in
    refused_known content log.entries.now c.args.index c.index-log-index.result block c.in_ok-judged.judged (contains nat_cmp log.ended) c.args.bodies.now.items c.add.result c.requires.ended c.requires.level c.requires.inside c.index-log-index.is
    (ap (λ (x : Entry). update_block x.act) c.index-log-index.is ∙ sym c.update_block.ensures ∙ c.in-Some.is) (g.met.V.View.sized c.args.view.now)
    (group_judged content (contains nat_cmp log.ended) (lent c.group_at-group.result.now) log.entries.now block c.in_ok-judged.judged (c.group_at-group.ensures ∙ c.requires.groups _) c.in_ok-judged.ensures.judged) (subst (λ (x : Entry). IfErr c.add.result (Refuses c.in_ok-judged.judged x.lsn)) (sym c.index-log-index.is) c.add.ensures.err)
