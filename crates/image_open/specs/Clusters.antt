-- The sectors of a cluster, by which a mount refuses a volume before all else.
use Rattle.std.specs.Prelude.{ℕ, Bool, true, false, ◌||◌, ◌==◌, Result, Ok, Err}
use Rattle.host_base.specs.Answers.{needs}
use Rattle.disk_model.specs.Numbers.{field}
use Rattle.disk_model.specs.Content.{Content}
use Rattle.boot_sector.specs.declared.boot.Boot.{Boot}
use Rattle.boot_sector.specs.declared.boot.BootFault.{BootFault}
use Rattle.boot_sector.specs.declared.boot.BootFault.TheVariants as boots
use Rattle.boot_sector.specs.BootSectors.{boot_of}
use Rattle.image_open.specs.declared.refusal.Refusal.{Refusal}
use Rattle.image_open.specs.declared.refusal.Refusal.TheVariants.{Geometry}
use Rattle.image_open.specs.Volumes.{boot_place}

-- of what refuses a boot sector, that which comes before the sectors of a cluster: rules 1 and 2, and the bytes of a sector at 0x0B
abbrev pub is_earlier_fault : BootFault → Bool
is_earlier_fault (boots.NotNtfs rule) = true
is_earlier_fault (boots.Geometry offset value) = offset == 0x0B
is_earlier_fault (boots.VolumeLarge clusters) = false

abbrev pub is_refused_earlier : Result Boot BootFault → Bool
is_refused_earlier (Ok b) = false
is_refused_earlier (Err fault) = is_earlier_fault fault

-- a volume is mounted where its clusters have eight sectors; else the field at 0x0D refuses it, unless what comes before does
unfoldable pub eight_sectors : Result Boot BootFault → ℕ → Result (Unit {0}) Refusal
eight_sectors boot per = needs (per == 8 || is_refused_earlier boot) (Geometry 0x0D per)

-- the same of the first sector
unfoldable pub clusters_in : Content → Result (Unit {0}) Refusal
clusters_in c = eight_sectors (boot_of (c boot_place).bytes) (field 0x0D 1 (c boot_place).bytes)
