use Rattle.std.proofs.Common.{true}
use Rattle.found_stays.specs.txn_state.States.{facts_of}
use Rattle.txn_close.proofs.Passing.{goes_joined}
use Rattle.txn_close.proofs.Turning.{goes_restarted, goes_synced}
use Rattle.txn_close.proofs.ending.end_last.Goals as goal

pub returns-in_err-write_restart-clause-goes : goal.returns-in_err-write_restart-clause-goes
returns-in_err-write_restart-clause-goes g c =
    goes_restarted g.D.Device.gives g.D.Device.sector_count g.D.Device.moment_of g.D.Device.changes_of c.args.closing.now c.write_restart.new.self true c.write_restart.result c.write_restart.ensures.facts c.write_restart.ensures.sent
    c.write_restart.ensures.sectors c.write_restart.ensures.step

pub returns-in_err-sync_device-clause-goes : goal.returns-in_err-sync_device-clause-goes
returns-in_err-sync_device-clause-goes g c =
    goes_joined g.D.Device.sector_count g.D.Device.moment_of g.D.Device.changes_of (facts_of c.args.closing.now.state) c.args.closing.now c.write_restart.new.self c.sync_device.new.self
    (goes_restarted g.D.Device.gives g.D.Device.sector_count g.D.Device.moment_of g.D.Device.changes_of c.args.closing.now c.write_restart.new.self true c.write_restart.result c.write_restart.ensures.facts c.write_restart.ensures.sent
    c.write_restart.ensures.sectors c.write_restart.ensures.step)
    (goes_synced g.D.Device.gives g.D.Device.sector_count g.D.Device.moment_of g.D.Device.changes_of c.write_restart.new.self c.sync_device.new.self c.sync_device.result c.sync_device.ensures.facts c.sync_device.ensures.changes c.sync_device.ensures.moment c.sync_device.ensures.sectors
    c.sync_device.ensures.step)

pub returns-clause-goes : goal.returns-clause-goes
returns-clause-goes g c =
    goes_joined g.D.Device.sector_count g.D.Device.moment_of g.D.Device.changes_of (facts_of c.args.closing.now.state) c.args.closing.now c.write_restart.new.self c.sync_device.new.self
    (goes_restarted g.D.Device.gives g.D.Device.sector_count g.D.Device.moment_of g.D.Device.changes_of c.args.closing.now c.write_restart.new.self true c.write_restart.result c.write_restart.ensures.facts c.write_restart.ensures.sent
    c.write_restart.ensures.sectors c.write_restart.ensures.step)
    (goes_synced g.D.Device.gives g.D.Device.sector_count g.D.Device.moment_of g.D.Device.changes_of c.write_restart.new.self c.sync_device.new.self c.sync_device.result c.sync_device.ensures.facts c.sync_device.ensures.changes c.sync_device.ensures.moment c.sync_device.ensures.sectors
    c.sync_device.ensures.step)
