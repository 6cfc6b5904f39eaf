use Rattle.std.proofs.Common.{rules, ◌∙◌, arith}
use Rattle.image_read.proofs.device_view.Keeping.{device_failed, device_counts}
use Rattle.image_read.specs.image_open.Errors.{scan_cause}
use Rattle.volume_mount.proofs.mounting.mount_sectors.Goals as goal

pub returns-clause-fault : goal.returns-clause-fault
returns-clause-fault g c = λ fault.
    device_failed g.D.Device.gives g.D.Device.sector_count g.D.Device.changes_of g.D.Device.fault_count g.D.Device.moment_of c.args.device.now _ _ _ _ _ _ (c.mount_view.ensures.kept.stays ∙ c.new-view.ensures.kept) (omega (arith, c.new-view.ensures.faults)) (rw fault at c.mount_view.ensures.kept.counted) (search rules)

pub returns-clause-counted : goal.returns-clause-counted
returns-clause-counted g c = λ early.
    device_counts scan_cause c.mount_view.result g.D.Device.gives g.D.Device.sector_count g.D.Device.changes_of g.D.Device.fault_count g.D.Device.moment_of c.args.device.now _ _ _ _ _ _ (c.mount_view.ensures.kept.stays ∙ c.new-view.ensures.kept) c.new-view.ensures.faults c.mount_view.new.view.later c.mount_view.ensures.kept.counted (search rules) early
