use Rattle.record_model.specs.disk_model.Content.{Content}
use Rattle.index_tree.specs.index_model.Indexes.{node_of_block}
use Rattle.index_plan.specs.Laws.{NeedsLevelWithout, RemovesFrom, TakesFewOut}
use Rattle.index_plan.specs.Reading.{NodeReads, nodes_of}
use Rattle.index_change.specs.Orders.{stands}
use Rattle.index_tree.specs.Places.{place_of}
use Rattle.index_change.proofs.Knowing.{swap, err_mapped}
use Rattle.index_change.proofs.removing.removal_over.Goals as goal

pub returns-clause-planned : goal.returns-clause-planned
returns-clause-planned g c =
    let side = stands c.args.wanted.now.up.now c.args.wanted.now.link.now in
    swap (g.V.View.content c.args.v.now) (λ (content : Content). node_of_block content (place_of c.args.dir.now)) c.plan_remove.result (λ (reads : NodeReads) r. RemovesFrom (nodes_of reads) side c.args.draft.fresh c.args.root c.args.room c.args.height r.0 r.1) c.plan_remove.ensures.plan

pub returns-clause-deep : goal.returns-clause-deep
returns-clause-deep g c =
    let side = stands c.args.wanted.now.up.now c.args.wanted.now.link.now in
    err_mapped (g.V.View.content c.args.v.now) (λ (content : Content). node_of_block content (place_of c.args.dir.now)) c.plan_remove.result c.args.height (λ (reads : NodeReads). NeedsLevelWithout (nodes_of reads) side c.args.draft.fresh c.args.root c.args.room) c.plan_remove.ensures.deep

pub returns-clause-taken : goal.returns-clause-taken
returns-clause-taken g c =
    let side = stands c.args.wanted.now.up.now c.args.wanted.now.link.now in
    swap (g.V.View.content c.args.v.now) (λ (content : Content). node_of_block content (place_of c.args.dir.now)) c.plan_remove.result (λ (reads : NodeReads) r. TakesFewOut reads side c.args.draft c.args.root c.args.room r.0) c.plan_remove.ensures.taken
