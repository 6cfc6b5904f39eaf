use Rattle.std.proofs.Common.{ℕ, ◌≤◌, List, [], length, ap, ◌∙◌, subst}
use Rattle.std.specs.Prelude.{IfSome, IfOk}
use Rattle.record_model.specs.disk_model.Content.{Content}
use Rattle.record_model.specs.declared.entry.Entry.{Entry as Raw}
use Rattle.index_tree.specs.index_model.declared.key.Key.{Key}
use Rattle.index_tree.specs.index_model.Indexes.{node_of_block}
use Rattle.index_plan.specs.declared.plan.Rooted.{Rooted}
use Rattle.index_plan.specs.Laws.{PlansAlong}
use Rattle.index_plan.specs.Lists.{own_key}
use Rattle.index_plan.specs.Plans.{Plan}
use Rattle.index_tree.specs.Places.{place_of}
use Rattle.index_change.specs.Orders.{goes}
use Rattle.index_change.specs.Plans.{root_room, seventeen}
use Rattle.index_change.proofs.Knowing.{along, draft_is}
use Rattle.index_change.proofs.inserting.Insertion.plan.Goals as goal

pub returns-clause-taken : goal.returns-clause-taken
returns-clause-taken g c =
    let o = c.args.self.now in
    let few = λ (key : Key) (draft : Plan) (root : List Raw) (room : ℕ). IfSome (g.V.View.content c.args.v.now) (λ (content : Content). IfOk c.plan_over.result (λ (r : Rooted). length key.value ≤ 576 → PlansAlong (node_of_block content (place_of o.dir.now)) (goes o.up.now o.name.now) key draft root room r)) in
    let draft = draft_is c.in_ok-draft.draft (seventeen o.fresh.now) c.in_ok-draft.ensures.writes c.in_ok-draft.ensures.fresh in
    let room = c.root_room-room.ensures ∙ ap (root_room o.dir.now.used) c.as_slice.ensures in
    let base : Plan = record { writes = []; fresh = seventeen o.fresh.now } in
    subst (λ (n : ℕ). few (own_key o.key.now) base o.root.now n) room (along (λ (key : Key) (d : Plan) (root : List Raw). few key d root c.root_room-room.result) _ _ _ _ _ _ c.in_ok-key.ensures draft c.in_ok-root.ensures c.plan_over.ensures.taken)
