-- A session on the log of a new volume.
use Rattle.std.specs.Prelude.{◌≡◌, ℕ, ◌≤◌, List, length, Some}
use Rattle.disk_model.specs.Sectors.{sector_of}
use Rattle.sector_device.specs.Disks.{Disk, IsSettled, IsSized, seen}
use Rattle.log_page.specs.declared.places.LogPlace.{LogPlace}
use Rattle.log_reading.specs.Rings.{IsRingPlace}
use Rattle.format_laws.specs.image_open.Volumes.{log_place}
use Rattle.volume_format.specs.Layouts.{layout_of}
use Rattle.volume_format.specs.Files.{record_of}
use Rattle.volume_format.specs.Images.{formatted}
use Rattle.format_laws.specs.format_blocks.Regions.{CanFormat}
use Rattle.format_laws.specs.format_files.Volumes.{new_geometry}
use Rattle.txn_core.specs.Openings.{OpensOn}

-- where the log of a new volume lies on a device of so many sectors, by its file record
abbrev pub new_log : ℕ → ℕ → LogPlace
new_log device time = log_place new_geometry (layout_of device).clusters device (Some (record_of (layout_of device) time 2))

-- Its pages may be written where they lie; and on a disk that shows the new volume, on which nothing is unsynced, the first session may be opened.
abbrev pub NewLogsOpen : Type 0
NewLogsOpen = (old : List (List ℕ)) (seed time restart opens : ℕ) (disk : Disk) → CanFormat old seed time → ((s : ℕ) → seen disk s ≡ sector_of (formatted old seed time) s) → IsSized disk → IsSettled disk → restart ≤ 1
    → IsRingPlace (new_log (length old) time) × OpensOn (new_log (length old) time) 1 restart opens disk
