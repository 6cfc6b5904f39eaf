use Rattle.mounted_states.specs.map_change.Parts.{live_parts}
use Rattle.volume_start.specs.Faults.{device_behind}
use Rattle.volume_start.proofs.Failing.{ok_more, err_more, starts_behind, anywhere_behind, counts_since, keeps_unwritten, fails_start, read_fails}
use Rattle.volume_start.proofs.Staying.{read_since, unwritten_stays}
use Rattle.volume_start.proofs.starting.start.Goals as goal

pub returns-in-Ok-clause-starts : goal.returns-in-Ok-clause-starts
returns-in-Ok-clause-starts g c =
    ok_more c.begin.result _ _ (λ s starts. starts_behind g.D.Device.gives g.D.Device.sector_count g.D.Device.changes_of g.D.Device.fault_count g.D.Device.moment_of c.args.device c.prepare.new.device s.store.device s.store.state (live_parts s.live) s.upper s.streams c.in-Ok.ensures.kept.same starts) c.begin.ensures.starts

pub returns-in-Ok-clause-anywhere : goal.returns-in-Ok-clause-anywhere
returns-in-Ok-clause-anywhere g c =
    ok_more c.begin.result _ _ (λ s begins. anywhere_behind g.D.Device.gives g.D.Device.sector_count g.D.Device.changes_of g.D.Device.fault_count g.D.Device.moment_of c.args.device c.prepare.new.device s.store.device s.store.state c.in-Ok.ensures.kept.same begins) c.begin.ensures.anywhere

pub returns-in-Ok-clause-stays : goal.returns-in-Ok-clause-stays
returns-in-Ok-clause-stays g c =
    read_since g.D.Device.gives g.D.Device.sector_count g.D.Device.changes_of g.D.Device.fault_count g.D.Device.moment_of g.met.D.Device.seen c.args.device c.prepare.new.device (device_behind c.begin.result (λ s. s.store.device)) c.in-Ok.ensures.kept c.begin.ensures.stays

pub returns-in-Ok-clause-errors : goal.returns-in-Ok-clause-errors
returns-in-Ok-clause-errors g c =
    err_more c.begin.result _ _ (λ e fails. fails_start g.D.Device.gives g.D.Device.sector_count g.D.Device.changes_of g.D.Device.fault_count g.D.Device.moment_of c.args.device c.prepare.new.device e c.in-Ok.ensures.kept fails) c.begin.ensures.errors

pub returns-in-Ok-clause-counted : goal.returns-in-Ok-clause-counted
returns-in-Ok-clause-counted g c = λ early. counts_since c.begin.result _ _ _ _ (c.in-Ok.ensures.counted early) c.begin.ensures.counted

pub returns-in-Err-clause-stays : goal.returns-in-Err-clause-stays
returns-in-Err-clause-stays g c =
    unwritten_stays g.D.Device.gives g.D.Device.sector_count g.D.Device.changes_of g.D.Device.fault_count g.D.Device.moment_of c.args.device c.prepare.new.device
    (keeps_unwritten g.D.Device.gives g.D.Device.sector_count g.D.Device.changes_of g.D.Device.fault_count g.D.Device.moment_of c.args.device c.prepare.new.device c.in-Err.ensures.kept)

pub returns-in-Err-clause-errors : goal.returns-in-Err-clause-errors
returns-in-Err-clause-errors g c =
    read_fails g.D.Device.gives g.D.Device.sector_count g.D.Device.changes_of g.D.Device.fault_count g.D.Device.moment_of c.args.device c.prepare.new.device c.in-Err.fault c.in-Err.ensures.kept c.in-Err.ensures.fault c.in-Err.ensures.refused c.in-Err.ensures.unknown c.in-Err.ensures.unfit
