use Rattle.std.proofs.Common.{refl}
use Rattle.same_names.specs.map_change.Parts.{live_parts}
use Rattle.state_store.proofs.Outcomes.{none_put, lacks_answer, lacks_broken, lacks_causes, room_answer}
use Rattle.state_store.proofs.putting.put_some.Goals as goal

pub returns-in-Ok-clause-answer : goal.returns-in-Ok-clause-answer
returns-in-Ok-clause-answer g c = room_answer c.put_with_room.result _ c.in-Ok.ensures.answer c.put_with_room.ensures.short

pub returns-in-Err-clause-put : goal.returns-in-Err-clause-put
returns-in-Err-clause-put g c = none_put c.in-Err.fault c.args.changes.now _ _ _ _ _ _ (live_parts c.args.live.now) (live_parts c.args.live.now) c.requires.closed refl refl refl refl

pub returns-in-Err-clause-answer : goal.returns-in-Err-clause-answer
returns-in-Err-clause-answer g c = lacks_answer c.in-Err.fault _ c.in-Err.ensures.answer

pub returns-in-Err-clause-broken : goal.returns-in-Err-clause-broken
returns-in-Err-clause-broken g c = lacks_broken c.in-Err.fault _ _ c.in-Err.ensures.answer

pub returns-in-Err-clause-causes : goal.returns-in-Err-clause-causes
returns-in-Err-clause-causes g c = lacks_causes g.D.Device.fault_count g.D.Device.moment_of c.in-Err.fault _ c.args.store.now c.in-Err.ensures.answer
