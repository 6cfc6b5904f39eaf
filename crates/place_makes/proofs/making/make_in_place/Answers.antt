use Rattle.std.proofs.Common.{sym, ◌∙◌}
use Rattle.place_makes.proofs.Joins.{on_ok, if_full, in_place, place_full}
use Rattle.place_makes.proofs.making.make_in_place.Goals as goal

pub returns-clause-put : goal.returns-clause-put
returns-clause-put g c =
    on_ok c.put_nodes.result _ _
    (in_place (g.V.View.content c.args.draft.now.view.now) (g.B.FreeBits.bits c.args.bits.now) c.args.streams.now c.args.numbers.now c.args.up.now c.args.made.now c.args.file.now c.in_ok-nodes.nodes c.args.draft.now.touched.items c.plan_place.new.draft.touched.items
    c.put_nodes.new.draft.touched.items (sym c.has_type.ensures.value ∙ c.if-not-has_type.false) (c.in_ok-is_quiet.ensures c.if-not-branch.false) c.in_ok-nodes.ensures.touched c.in_ok-nodes.ensures.plans)
    (rw c.in_ok-nodes.ensures.asks.same at c.put_nodes.ensures.put)

pub returns-clause-full : goal.returns-clause-full
returns-clause-full g c =
    if_full c.put_nodes.result _ _
    (λ used full. place_full (g.V.View.content c.args.draft.now.view.now) (g.B.FreeBits.bits c.args.bits.now) c.args.up.now c.args.made.now c.args.file.now c.in_ok-nodes.nodes c.args.draft.now.touched.items used (sym c.has_type.ensures.value ∙ c.if-not-has_type.false) (c.in_ok-is_quiet.ensures c.if-not-branch.false) full.0 full.1 c.in_ok-nodes.ensures.plans) c.put_nodes.ensures.full

pub returns-clause-stays : goal.returns-clause-stays
returns-clause-stays g c =
    if_full c.put_nodes.result _ _ (λ used same. same ∙ c.in_ok-nodes.ensures.touched) c.put_nodes.ensures.stays
