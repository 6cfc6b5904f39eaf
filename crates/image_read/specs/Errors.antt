-- What a broken rule, and what keeps a journal from being read, is for an image.
use Rattle.image_open.specs.state_model.declared.broken.Broken.{Broken}
use Rattle.volume_check.specs.declared.fault.CheckFault.{CheckFault}
use Rattle.volume_check.specs.declared.fault.CheckFault.TheVariants as faults
use Rattle.volume_check.specs.usn_journal.declared.place.PlaceFault.{PlaceFault}
use Rattle.volume_check.specs.usn_journal.declared.place.PlaceFault.TheVariants as places
use Rattle.volume_check.specs.usn_journal.declared.pull_fault.PageFault.{PageFault}
use Rattle.volume_check.specs.usn_journal.declared.pull_fault.PageFault.TheVariants as pages
use Rattle.image_open.specs.declared.refusal.Refusal.{Refusal}
use Rattle.image_open.specs.declared.refusal.Refusal.TheVariants.{BadVolume, NoJournal}
use Rattle.image_open.specs.declared.refusal.MountFault.{MountFault}
use Rattle.image_open.specs.declared.refusal.MountFault.TheVariants as errors

-- the rule with its number
abbrev pub broken_refusal : Broken → Refusal
broken_refusal broken = BadVolume broken.rule broken.number

abbrev pub error_of_check : CheckFault → MountFault
error_of_check (faults.Broken broken) = errors.Refused (broken_refusal broken)
error_of_check faults.View = errors.Device
error_of_check faults.Memory = errors.Memory

-- why there is no journal
abbrev pub error_of_place : PlaceFault → MountFault
error_of_place (places.Absent why) = errors.Refused (NoJournal why)
error_of_place places.Memory = errors.Memory

-- a record at fault breaks the ninth rule
abbrev pub error_of_pages : PageFault → MountFault
error_of_pages (pages.Broken at) = errors.Refused (BadVolume 9 at)
error_of_pages pages.View = errors.Device
error_of_pages pages.Memory = errors.Memory
