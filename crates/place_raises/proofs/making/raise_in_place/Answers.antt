use Rattle.std.proofs.Common.{sym, ◌∙◌}
use Rattle.place_raises.proofs.Puts.{on_ok, if_full, raised_put, raised_full}
use Rattle.place_raises.proofs.making.raise_in_place.Goals as goal

pub returns-clause-put : goal.returns-clause-put
returns-clause-put g c =
    on_ok c.put_level.result _ _
    (raised_put (g.V.View.content c.args.draft.now.view.now) (g.B.FreeBits.bits c.args.bits.now) c.args.streams.now c.args.numbers.now c.args.up.now c.args.made.now c.args.file.now c.in_ok-plan.plan.level.root c.in_ok-plan.plan.level.node c.in_ok-plan.plan.fresh.items c.in_ok-plan.plan.nodes
    c.args.draft.now.touched.items c.plan_level.new.draft.touched.items c.put_level.new.draft.touched.items (sym c.has_type.ensures.value ∙ c.if-not-has_type.false) (c.in_ok-is_quiet.ensures c.if-not-branch.false) c.in_ok-plan.ensures.touched c.in_ok-plan.ensures.plans)
    (rw c.in_ok-plan.ensures.asks.same at c.put_level.ensures.put)

pub returns-clause-full : goal.returns-clause-full
returns-clause-full g c =
    if_full c.put_level.result _ _
    (λ used full. raised_full (g.V.View.content c.args.draft.now.view.now) (g.B.FreeBits.bits c.args.bits.now) c.args.up.now c.args.made.now c.args.file.now c.in_ok-plan.plan.level.root c.in_ok-plan.plan.level.node c.in_ok-plan.plan.fresh.items c.in_ok-plan.plan.nodes c.args.draft.now.touched.items used full c.in_ok-plan.ensures.plans)
    c.put_level.ensures.full
