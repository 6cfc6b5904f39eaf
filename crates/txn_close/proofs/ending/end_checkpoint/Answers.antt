use Rattle.std.proofs.Common.{false}
use Rattle.found_stays.specs.txn_state.States.{facts_of}
use Rattle.txn_close.proofs.Passing.{fewer_same, goes_none, goes_joined}
use Rattle.txn_close.proofs.Turning.{goes_restarted, goes_synced}
use Rattle.txn_close.proofs.ending.end_checkpoint.Goals as goal

pub returns-then-not-has_next-clause-goes : goal.returns-then-not-has_next-clause-goes
returns-then-not-has_next-clause-goes g c = goes_none g.D.Device.sector_count g.D.Device.moment_of g.D.Device.changes_of (facts_of c.args.store.now.state) c.args.store.now (fewer_same (facts_of c.args.store.now.state))

pub returns-in_err-write_restart-clause-goes : goal.returns-in_err-write_restart-clause-goes
returns-in_err-write_restart-clause-goes g c =
    goes_restarted g.D.Device.gives g.D.Device.sector_count g.D.Device.moment_of g.D.Device.changes_of c.args.store.now c.write_restart.new.self false c.write_restart.result c.write_restart.ensures.facts c.write_restart.ensures.sent
    c.write_restart.ensures.sectors c.write_restart.ensures.step

pub returns-in_err-sync_device-clause-goes : goal.returns-in_err-sync_device-clause-goes
returns-in_err-sync_device-clause-goes g c =
    goes_joined g.D.Device.sector_count g.D.Device.moment_of g.D.Device.changes_of (facts_of c.args.store.now.state) c.args.store.now c.write_restart.new.self c.sync_device.new.self
    (goes_restarted g.D.Device.gives g.D.Device.sector_count g.D.Device.moment_of g.D.Device.changes_of c.args.store.now c.write_restart.new.self false c.write_restart.result c.write_restart.ensures.facts c.write_restart.ensures.sent
    c.write_restart.ensures.sectors c.write_restart.ensures.step)
    (goes_synced g.D.Device.gives g.D.Device.sector_count g.D.Device.moment_of g.D.Device.changes_of c.write_restart.new.self c.sync_device.new.self c.sync_device.result c.sync_device.ensures.facts c.sync_device.ensures.changes c.sync_device.ensures.moment c.sync_device.ensures.sectors
    c.sync_device.ensures.step)

pub returns-clause-goes : goal.returns-clause-goes
returns-clause-goes g c =
    goes_joined g.D.Device.sector_count g.D.Device.moment_of g.D.Device.changes_of (facts_of c.args.store.now.state) c.args.store.now c.write_restart.new.self c.sync_device.new.self
    (goes_restarted g.D.Device.gives g.D.Device.sector_count g.D.Device.moment_of g.D.Device.changes_of c.args.store.now c.write_restart.new.self false c.write_restart.result c.write_restart.ensures.facts c.write_restart.ensures.sent
    c.write_restart.ensures.sectors c.write_restart.ensures.step)
    (goes_synced g.D.Device.gives g.D.Device.sector_count g.D.Device.moment_of g.D.Device.changes_of c.write_restart.new.self c.sync_device.new.self c.sync_device.result c.sync_device.ensures.facts c.sync_device.ensures.changes c.sync_device.ensures.moment c.sync_device.ensures.sectors
    c.sync_device.ensures.step)
