use Rattle.volume_core.proofs.volume.Volume.known.Goals as goal

pub returns-clause-holds : goal.returns-clause-holds
returns-clause-holds g c = rw (← c.self.view_is) c.self.invariant.holds

pub returns-clause-ring : goal.returns-clause-ring
returns-clause-ring g c = rw (← c.self.view_is) c.self.invariant.ring

pub returns-clause-ready : goal.returns-clause-ready
returns-clause-ready g c = rw (← c.self.view_is) c.self.invariant.ready
