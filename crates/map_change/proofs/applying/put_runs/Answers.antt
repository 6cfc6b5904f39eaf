use Rattle.std.proofs.Common.{List, sym, ap, ◌∙◌}
use Rattle.map_change.specs.declared.change.BitRun.{BitRun}
use Rattle.map_change.specs.Applying.{runs_put}
use Rattle.map_change.proofs.Marked.{last_put}
use Rattle.map_change.proofs.applying.put_runs.Goals as goal

pub loop-run-preserved : goal.loop-run-preserved
loop-run-preserved c =
    ap (runs_put c.pop.new.self.items) c.put_run.ensures
    ∙ sym (last_put c.pop.new.self.items c.in-Some.run' c.loop-run.bits)
    ∙ ap (λ (xs : List BitRun). runs_put xs c.loop-run.bits) (sym c.in-Some.ensures.items)
    ∙ c.loop-run.invariant
