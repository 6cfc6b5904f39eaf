use Rattle.same_names.specs.map_change.Parts.{live_parts}
use Rattle.state_store.proofs.Outcomes.{ok_as, err_as, change_short, change_broken, change_counts}
use Rattle.state_store.proofs.putting.put_as.Goals as goal

pub returns-in-Ok-clause-put : goal.returns-in-Ok-clause-put
returns-in-Ok-clause-put g c = ok_as c.args.changes.now _ _ _ _ _ _ (live_parts c.args.live.now) (live_parts c.put_prepared.new.live) c.in-Ok.ensures.put

pub returns-in-Err-clause-put : goal.returns-in-Err-clause-put
returns-in-Err-clause-put g c = err_as c.in-Err.fault c.change_fault.result c.args.changes.now _ _ _ _ _ _ (live_parts c.args.live.now) (live_parts c.put_prepared.new.live) c.in-Err.ensures.put

pub returns-in-Err-clause-short : goal.returns-in-Err-clause-short
returns-in-Err-clause-short g c = change_short c.in-Err.fault c.change_fault.result c.change_fault.ensures

pub returns-in-Err-clause-broken : goal.returns-in-Err-clause-broken
returns-in-Err-clause-broken g c = change_broken c.in-Err.fault c.change_fault.result _ c.change_fault.ensures c.in-Err.ensures.unspelled

pub returns-in-Err-clause-cause : goal.returns-in-Err-clause-cause
returns-in-Err-clause-cause g c = change_counts c.in-Err.fault c.change_fault.result _ _ _ c.change_fault.ensures c.in-Err.ensures.cause
