use Rattle.std.proofs.Common.{◌≡◌, Option, None, sym, subst}
use Rattle.std.specs.Prelude.{◌↔◌, length}
use Rattle.flush_policy.specs.declared.facts.StoreStep.{StoreStep}
use Rattle.flush_policy.specs.Steps.{IsDone}
use Rattle.working_volume.specs.txn_core.Leading.{dirty_blocks}
use Rattle.txn_state.specs.States.{facts_of}
use Rattle.volume_core.proofs.volume.Volume.next.Goals as goal

pub returns-clause-next : goal.returns-clause-next
returns-clause-next g c =
    let s = c.self.inside.store.state in
    rw (← c.self.view_is)
    (λ next. record {
      told = c.facts.result;
      tells = c.facts.ensures.told next.lap;
      chosen = c.next_step.ensures;
      rests = subst (λ (step : Option StoreStep). (step ≡ None) ↔ IsDone (length (dirty_blocks s)) c.facts.result) (sym c.next_step.ensures)
          (c.steps_lead_on.ensures.rests (facts_of s) c.facts.result (dirty_blocks s) c.facts.ensures.kept c.self.invariant.holds.closed (c.facts.ensures.told next.lap) (c.steps_lead_on.ensures.dirty s));
    })
