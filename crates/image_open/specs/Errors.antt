-- The causes of a scan's errors, and what refuses an image.
use Rattle.std.specs.Prelude.{Result, Ok, Err}
use Rattle.host_base.specs.Answers.{Cause, refused, no_memory, failed}
use Rattle.block_view.specs.declared.fault.ViewFault.{ViewFault}
use Rattle.block_view.specs.declared.fault.ViewFault.TheVariants as views
use Rattle.boot_sector.specs.declared.boot.BootFault.{BootFault}
use Rattle.boot_sector.specs.declared.boot.BootFault.TheVariants as boots
use Rattle.state_model.specs.declared.geometry.MapRefusal.{MapRefusal}
use Rattle.state_model.specs.declared.geometry.MapRefusal.TheVariants as maps
use Rattle.log_recovery.specs.log_reading.declared.fault.LogRefusal.{LogRefusal}
use Rattle.log_recovery.specs.log_reading.declared.fault.LogRefusal.TheVariants as logs
use Rattle.log_recovery.specs.log_reading.declared.fault.RecoveryFault.{RecoveryFault}
use Rattle.log_recovery.specs.log_reading.declared.fault.RecoveryFault.TheVariants as recoveries
use Rattle.volume_map.specs.declared.fault.MapFault.{MapFault}
use Rattle.volume_map.specs.declared.fault.MapFault.TheVariants as faults
use Rattle.image_open.specs.declared.refusal.Refusal.{Refusal}
use Rattle.image_open.specs.declared.refusal.Refusal.TheVariants.{NotNtfs, Geometry, VolumeLarge, BadFixup, BadRecord, MftList, MftLarge, LogVersion, NoRestart, ForeignLog}
use Rattle.image_open.specs.declared.refusal.MountFault.{MountFault}
use Rattle.image_open.specs.declared.refusal.MountFault.TheVariants as errors

abbrev pub scan_cause : MountFault → Cause Refusal
scan_cause errors.Memory = no_memory
scan_cause errors.Device = failed
scan_cause (errors.Refused refusal) = refused refusal

-- what a fault of the boot sector is for the image
abbrev pub boot_refusal : BootFault → Refusal
boot_refusal (boots.NotNtfs rule) = NotNtfs rule
boot_refusal (boots.Geometry offset value) = Geometry offset value
boot_refusal (boots.VolumeLarge clusters) = VolumeLarge clusters

-- and a refusal of the file table
abbrev pub map_refusal : MapRefusal → Refusal
map_refusal (maps.BadFixup number) = BadFixup number
map_refusal (maps.BadRecord number rule) = BadRecord number rule
map_refusal maps.MftList = MftList
map_refusal (maps.MftLarge records) = MftLarge records

-- and a refusal of the log
abbrev pub log_refusal : LogRefusal → Refusal
log_refusal (logs.LogVersion major minor) = LogVersion major minor
log_refusal logs.NoRestart = NoRestart
log_refusal (logs.ForeignLog lsn) = ForeignLog lsn

-- the same answer, its refusal as one of the image
abbrev pub refused_as : {A F : Type 0} → (F → Refusal) → Result A F → Result A Refusal
refused_as kind (Ok x) = Ok x
refused_as kind (Err refusal) = Err (kind refusal)

abbrev pub error_of_view : ViewFault → MountFault
error_of_view views.Fault = errors.Device
error_of_view views.Memory = errors.Memory

abbrev pub error_of_map : MapFault → MountFault
error_of_map (faults.Refused refusal) = errors.Refused (map_refusal refusal)
error_of_map faults.View = errors.Device
error_of_map faults.Memory = errors.Memory

abbrev pub error_of_log : RecoveryFault → MountFault
error_of_log (recoveries.Refused refusal) = errors.Refused (log_refusal refusal)
error_of_log recoveries.Fault = errors.Device
error_of_log recoveries.Memory = errors.Memory
