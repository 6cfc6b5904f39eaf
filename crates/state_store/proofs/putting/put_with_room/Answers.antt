use Rattle.same_names.specs.map_change.Parts.{live_parts}
use Rattle.state_store.proofs.Outcomes.{none_put, after_reading, broken_since, causes_since, causes_of}
use Rattle.state_store.proofs.putting.put_with_room.Goals as goal

pub returns-in-Ok-clause-put : goal.returns-in-Ok-clause-put
returns-in-Ok-clause-put g c =
    after_reading _ c.args.changes.now _ _ _ _ _ _ _ _ _ (live_parts c.args.live.now) (live_parts c.prepare_changes.new.live) (live_parts c.put_as.new.live) c.in-Ok.ensures.kept.state c.in-Ok.ensures.kept.same c.in-Ok.ensures.kept.unchanged c.in-Ok.ensures.stays c.put_as.ensures.put

pub returns-in-Ok-clause-broken : goal.returns-in-Ok-clause-broken
returns-in-Ok-clause-broken g c = broken_since c.put_as.result _ _ c.in-Ok.ensures.kept.same c.put_as.ensures.broken

pub returns-in-Ok-clause-causes : goal.returns-in-Ok-clause-causes
returns-in-Ok-clause-causes g c =
    causes_since g.D.Device.fault_count g.D.Device.moment_of c.put_as.result c.args.store.now c.prepare_changes.new.store c.put_as.new.store c.in-Ok.ensures.kept.later c.in-Ok.ensures.kept.onwards c.in-Ok.ensures.counted c.put_as.ensures.onwards c.put_as.ensures.cause

pub returns-in-Err-clause-put : goal.returns-in-Err-clause-put
returns-in-Err-clause-put g c =
    none_put c.in-Err.fault c.args.changes.now _ _ _ _ _ _ (live_parts c.args.live.now) (live_parts c.prepare_changes.new.live) c.requires.closed c.in-Err.ensures.kept.state c.in-Err.ensures.kept.same c.in-Err.ensures.kept.unchanged c.in-Err.ensures.stays

pub returns-in-Err-clause-causes : goal.returns-in-Err-clause-causes
returns-in-Err-clause-causes g c = causes_of g.D.Device.fault_count g.D.Device.moment_of c.in-Err.fault c.args.store.now c.prepare_changes.new.store c.in-Err.ensures.kept.later c.in-Err.ensures.kept.onwards c.in-Err.ensures.fault c.in-Err.ensures.counted
