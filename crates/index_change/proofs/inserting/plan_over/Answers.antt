use Rattle.std.proofs.Common.{◌≤◌, length}
use Rattle.record_model.specs.disk_model.Content.{Content}
use Rattle.index_tree.specs.index_model.Indexes.{node_of_block}
use Rattle.index_plan.specs.declared.plan.Rooted.{Rooted}
use Rattle.index_plan.specs.Laws.{InsertsInto, LevelFits, NeedsLevel, PlansAlong}
use Rattle.index_plan.specs.Reading.{NodeReads, nodes_of}
use Rattle.index_change.specs.Orders.{goes}
use Rattle.index_tree.specs.Places.{place_of}
use Rattle.index_change.proofs.Knowing.{swap, swap_if, err_mapped}
use Rattle.index_change.proofs.inserting.plan_over.Goals as goal

pub returns-clause-planned : goal.returns-clause-planned
returns-clause-planned g c =
    let before = goes c.args.before.now.up.now c.args.before.now.name.now in
    swap (g.V.View.content c.args.v.now) (λ (content : Content). node_of_block content (place_of c.args.dir.now)) c.plan_insert.result (λ (reads : NodeReads) (r : Rooted). InsertsInto (nodes_of reads) before c.args.key c.args.draft.fresh c.args.root c.args.room r) c.plan_insert.ensures.plan

pub returns-clause-level : goal.returns-clause-level
returns-clause-level g c =
    let before = goes c.args.before.now.up.now c.args.before.now.name.now in
    swap (g.V.View.content c.args.v.now) (λ (content : Content). node_of_block content (place_of c.args.dir.now)) c.plan_insert.result (λ (reads : NodeReads) (r : Rooted). LevelFits (nodes_of reads) before c.args.key c.args.draft.fresh c.args.root c.args.room c.args.height) c.plan_insert.ensures.level

pub returns-clause-deep : goal.returns-clause-deep
returns-clause-deep g c =
    let before = goes c.args.before.now.up.now c.args.before.now.name.now in
    err_mapped (g.V.View.content c.args.v.now) (λ (content : Content). node_of_block content (place_of c.args.dir.now)) c.plan_insert.result c.args.height (λ (reads : NodeReads). NeedsLevel (nodes_of reads) before c.args.key c.args.draft.fresh c.args.root c.args.room) c.plan_insert.ensures.deep

pub returns-clause-taken : goal.returns-clause-taken
returns-clause-taken g c =
    let before = goes c.args.before.now.up.now c.args.before.now.name.now in
    swap_if (g.V.View.content c.args.v.now) (λ (content : Content). node_of_block content (place_of c.args.dir.now)) c.plan_insert.result (length c.args.key.value ≤ 576) (λ (reads : NodeReads) (r : Rooted). PlansAlong reads before c.args.key c.args.draft c.args.root c.args.room r) c.plan_insert.ensures.taken
