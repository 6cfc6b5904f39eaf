use Rattle.std.proofs.Common.{List, sym, ap, ◌∙◌}
use Rattle.index_plan.specs.Plans.{Spot}
use Rattle.index_plan.specs.Lists.{Rise, rise}
use Rattle.index_plan.proofs.Rising.{rise_last}
use Rattle.index_plan.proofs.draft.Draft.climb.Goals as goal

pub loop-frame-preserved : goal.loop-frame-preserved
loop-frame-preserved c =
    let before : Rise = record { pending = c.loop-frame.pending; plan = c.loop-frame.self } in
    ap (rise c.pop.new.self.items) (sym c.in_ok-pending.ensures) ∙ sym (rise_last c.pop.new.self.items c.in-Some.frame before) ∙ ap (λ (fs : List Spot). rise fs before) (sym c.in-Some.ensures.items) ∙ c.loop-frame.invariant
