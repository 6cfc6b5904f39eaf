use Rattle.store_model.proofs.Refinement.{sound_events_law}
use Rattle.store_model.proofs.laws.sound_events.Goals as goal

pub returns : goal.returns
returns c = sound_events_law
