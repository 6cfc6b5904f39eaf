use Rattle.std.proofs.Common.{rules, ◌∙◌, arith}
use Rattle.log_recovery.proofs.device_view.Keeping.{device_failed, device_counts}
use Rattle.image_open.specs.Errors.{scan_cause}
use Rattle.image_open.proofs.volume.read_device.Goals as goal

pub returns-clause-fault : goal.returns-clause-fault
returns-clause-fault g c = λ fault.
    device_failed g.D.Device.gives g.D.Device.sector_count g.D.Device.changes_of g.D.Device.fault_count g.D.Device.moment_of c.args.device.now _ _ _ _ _ _ (c.read.ensures.kept.stays ∙ c.new-view.ensures.kept) (omega (arith, c.new-view.ensures.faults)) (c.read.ensures.fault fault) (search rules)

pub returns-clause-counted : goal.returns-clause-counted
returns-clause-counted g c = λ early.
    device_counts scan_cause c.read.result g.D.Device.gives g.D.Device.sector_count g.D.Device.changes_of g.D.Device.fault_count g.D.Device.moment_of c.args.device.now _ _ _ _ _ _ (c.read.ensures.kept.stays ∙ c.new-view.ensures.kept) c.new-view.ensures.faults c.read.new.view.later c.read.ensures.counted (search rules) early
