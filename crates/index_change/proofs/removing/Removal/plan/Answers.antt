use Rattle.std.proofs.Common.{◌≡◌, ℕ, ◌≤◌, List, ap, ◌∙◌}
use Rattle.std.specs.Prelude.{IfSome, IfOk, IfErr}
use Rattle.record_model.specs.disk_model.Content.{Content}
use Rattle.record_model.specs.declared.entry.Entry.{Entry as Raw}
use Rattle.index_tree.specs.index_model.Indexes.{node_of_block}
use Rattle.index_plan.specs.declared.fault.PlanFault.{PlanFault}
use Rattle.index_plan.specs.Faults.{OnDeep}
use Rattle.index_plan.specs.Laws.{NeedsLevelWithout, TakesFewOut}
use Rattle.index_plan.specs.Plans.{Plan}
use Rattle.index_plan.specs.Reading.{nodes_of}
use Rattle.index_tree.specs.Places.{place_of}
use Rattle.index_change.specs.Orders.{stands}
use Rattle.index_change.specs.Plans.{root_room, seventeen}
use Rattle.index_change.proofs.Knowing.{along, draft_is}
use Rattle.index_change.proofs.removing.Removal.plan.Goals as goal

pub returns-clause-deep : goal.returns-clause-deep
returns-clause-deep g c =
    let o = c.args.self.now in
    along
    (λ (fresh : List ℕ) (root : List Raw) (room : ℕ). IfErr c.removal_over.result (λ (e : PlanFault). OnDeep e (λ (h : ℕ). (h ≡ c.args.height) × (16 ≤ c.args.height) × IfSome (g.V.View.content c.args.v.now) (λ (content : Content). NeedsLevelWithout (nodes_of (node_of_block content (place_of o.dir.now))) (stands o.up.now o.link.now) fresh root room))))
    _ _ _ _ _ _ c.in_ok-draft.ensures.fresh c.in_ok-root.ensures (c.root_room-room.ensures ∙ ap (root_room o.dir.now.used) c.as_slice.ensures) c.removal_over.ensures.deep

pub returns-clause-taken : goal.returns-clause-taken
returns-clause-taken g c =
    let o = c.args.self.now in
    along
    (λ (draft : Plan) (root : List Raw) (room : ℕ). IfSome (g.V.View.content c.args.v.now) (λ (content : Content). IfOk c.removal_over.result (λ r. TakesFewOut (node_of_block content (place_of o.dir.now)) (stands o.up.now o.link.now) draft root room r.0)))
    _ _ _ _ _ _ (draft_is c.in_ok-draft.draft (seventeen o.fresh.now) c.in_ok-draft.ensures.writes c.in_ok-draft.ensures.fresh) c.in_ok-root.ensures (c.root_room-room.ensures ∙ ap (root_room o.dir.now.used) c.as_slice.ensures) c.removal_over.ensures.taken
