use Rattle.std.proofs.Common.{rules, ◌∙◌, arith}
use Rattle.log_recovery.proofs.device_view.Keeping.{device_failed, device_counts}
use Rattle.log_recovery.specs.log_reading.Views.{recovery_cause}
use Rattle.txn_mount.proofs.read.read_log.Goals as goal

pub returns-clause-fault : goal.returns-clause-fault
returns-clause-fault g c = λ fault.
    device_failed g.D.Device.gives g.D.Device.sector_count g.D.Device.changes_of g.D.Device.fault_count g.D.Device.moment_of c.args.device.now _ _ _ _ _ _ (c.recover_to_write.ensures.kept.stays ∙ c.new-view.ensures.kept) (omega (arith, c.new-view.ensures.faults)) (rw fault at c.recover_to_write.ensures.kept.counted) (search rules)

pub returns-clause-counted : goal.returns-clause-counted
returns-clause-counted g c = λ early.
    device_counts recovery_cause c.recover_to_write.result g.D.Device.gives g.D.Device.sector_count g.D.Device.changes_of g.D.Device.fault_count g.D.Device.moment_of c.args.device.now _ _ _ _ _ _ (c.recover_to_write.ensures.kept.stays ∙ c.new-view.ensures.kept) c.new-view.ensures.faults c.recover_to_write.new.view.later c.recover_to_write.ensures.kept.counted (search rules) early
