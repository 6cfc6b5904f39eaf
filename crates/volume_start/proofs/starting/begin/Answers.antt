use Rattle.mounted_states.specs.map_change.Parts.{live_parts}
use Rattle.volume_start.specs.Faults.{device_behind}
use Rattle.volume_start.proofs.Failing.{ok_more, err_more, starts_behind, anywhere_behind, counts_since, fails_since, sync_stops}
use Rattle.volume_start.proofs.Staying.{stays_since, unwritten_stays}
use Rattle.volume_start.proofs.starting.begin.Goals as goal

pub returns-in-Ok-clause-starts : goal.returns-in-Ok-clause-starts
returns-in-Ok-clause-starts g c =
    ok_more c.mount_store.result _ _ (λ s starts. starts_behind g.D.Device.gives g.D.Device.sector_count g.D.Device.changes_of g.D.Device.fault_count g.D.Device.moment_of c.args.device c.settle.new.device s.store.device s.store.state (live_parts s.live) s.upper s.streams c.in-Ok.ensures.unwritten.same starts) c.mount_store.ensures.starts

pub returns-in-Ok-clause-anywhere : goal.returns-in-Ok-clause-anywhere
returns-in-Ok-clause-anywhere g c =
    ok_more c.mount_store.result _ _ (λ s begins. anywhere_behind g.D.Device.gives g.D.Device.sector_count g.D.Device.changes_of g.D.Device.fault_count g.D.Device.moment_of c.args.device c.settle.new.device s.store.device s.store.state c.in-Ok.ensures.unwritten.same begins) c.mount_store.ensures.anywhere

pub returns-in-Ok-clause-stays : goal.returns-in-Ok-clause-stays
returns-in-Ok-clause-stays g c =
    stays_since g.D.Device.gives g.D.Device.sector_count g.D.Device.changes_of g.D.Device.fault_count g.D.Device.moment_of g.met.D.Device.seen c.args.device c.settle.new.device (device_behind c.mount_store.result (λ s. s.store.device)) c.in-Ok.ensures.unwritten
    (λ d was settled. c.in-Ok.ensures.settled) c.mount_store.ensures.stays

pub returns-in-Ok-clause-errors : goal.returns-in-Ok-clause-errors
returns-in-Ok-clause-errors g c =
    err_more c.mount_store.result _ _ (λ e fails. fails_since g.D.Device.gives g.D.Device.sector_count g.D.Device.changes_of g.D.Device.fault_count g.D.Device.moment_of c.args.device c.settle.new.device e c.in-Ok.ensures.unwritten fails) c.mount_store.ensures.errors

pub returns-in-Ok-clause-counted : goal.returns-in-Ok-clause-counted
returns-in-Ok-clause-counted g c = counts_since c.mount_store.result _ _ _ _ c.in-Ok.ensures.counted c.mount_store.ensures.counted

pub returns-in-Err-clause-stays : goal.returns-in-Err-clause-stays
returns-in-Err-clause-stays g c = unwritten_stays g.D.Device.gives g.D.Device.sector_count g.D.Device.changes_of g.D.Device.fault_count g.D.Device.moment_of c.args.device c.settle.new.device c.in-Err.ensures.unwritten

pub returns-in-Err-clause-errors : goal.returns-in-Err-clause-errors
returns-in-Err-clause-errors g c = sync_stops g.D.Device.gives g.D.Device.sector_count g.D.Device.changes_of g.D.Device.fault_count g.D.Device.moment_of c.args.device c.settle.new.device c.in-Err.ensures.fault
