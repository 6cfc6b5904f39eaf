use Rattle.std.proofs.Common.{List, sym, ap, ◌∙◌}
use Rattle.map_change.specs.declared.change.RecordChange.{RecordChange}
use Rattle.map_change.specs.Parts.{live_parts}
use Rattle.map_change.specs.Applying.{applied_all}
use Rattle.map_change.proofs.Applied.{applied_last}
use Rattle.map_change.proofs.applying.put_records.Goals as goal

pub loop-change-preserved : goal.loop-change-preserved
loop-change-preserved c =
    ap (applied_all c.pop.new.self.items) c.put_record.ensures
    ∙ sym (applied_last c.pop.new.self.items c.in-Some.change (live_parts c.loop-change.live))
    ∙ ap (λ (xs : List RecordChange). applied_all xs (live_parts c.loop-change.live)) (sym c.in-Some.ensures.items)
    ∙ c.loop-change.invariant
