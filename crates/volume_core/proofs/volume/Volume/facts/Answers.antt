use Rattle.volume_core.proofs.volume.Volume.facts.Goals as goal

pub returns-clause-next : goal.returns-clause-next
returns-clause-next g c =
    rw (← c.self.view_is)
    (λ next step is. c.steps_lead_on.ensures.may _ c.facts.result step c.facts.ensures.steps (c.facts.ensures.told next.lap) c.self.invariant.holds.closed next is)
