-- The pages of a log as bytes, in sectors that a crash may leave.
use Rattle.std.specs.Prelude.{◌≡◌, ℕ, ◌+◌, ◌*◌, ◌≤◌, ◌<◌, List, [], length, unwrap_or}
use Rattle.log_reading.specs.disk_model.Sectors.{raw_from}
use Rattle.store_model.specs.fixup_record.Protecting.{protected_bytes}
use Rattle.store_model.specs.log_model.declared.entry.Entry.{Entry}
use Rattle.log_reading.specs.log_page.declared.places.LogPlace.{LogPlace}
use Rattle.log_reading.specs.log_page.declared.restart.Restart.{Restart}
use Rattle.log_reading.specs.log_page.PageSpellings.{page_spelling}
use Rattle.log_reading.specs.log_page.Restarts.{restart_spelling}
use Rattle.log_reading.specs.LogPages.{log_sector}
use Rattle.store_model.specs.sector_device.Disks.{Disk, MayHold}
use Rattle.store_model.specs.Geometry.{SectorBytes}
use Rattle.ring_laws.specs.Numbers.{LogSession, place_of_page, lap_of_page}

-- the first sector on the device of the log's page with this number
unfoldable pub page_sector : LogPlace → ℕ → ℕ
page_sector place k = unwrap_or (log_sector place (8 * k)) 0

-- the page as it stands in these sectors
unfoldable pub raw_page : LogPlace → SectorBytes → ℕ → List ℕ
raw_page place at k = raw_from at (page_sector place k) 8

-- a crash may leave these sectors of the page
abbrev pub CanLeavePage : LogPlace → Disk → SectorBytes → ℕ → Type 0
CanLeavePage place disk image k = (i : ℕ) → i < 8 → MayHold disk (page_sector place k + i) (image (page_sector place k + i))

-- nothing of the page is unsynced
abbrev pub IsStill : LogPlace → Disk → ℕ → Type 0
IsStill place disk k = (i : ℕ) → i < 8 → disk.written (page_sector place k + i) ≡ []

-- each value of its sectors has 512 bytes
abbrev pub IsSizedPage : LogPlace → Disk → ℕ → Type 0
IsSizedPage place disk k = (i : ℕ) (value : List ℕ) → i < 8 → MayHold disk (page_sector place k + i) value → length value ≡ 512

-- in the sectors of these pages two disks are alike, by the durable values and the written ones
pub record AreAlike (place : LogPlace) (from to : ℕ) (before now : Disk) : Type 0 where
  pub durable : (k i : ℕ) → from ≤ k → k < to → i < 8 → now.durable (page_sector place k + i) ≡ before.durable (page_sector place k + i)
  pub written : (k i : ℕ) → from ≤ k → k < to → i < 8 → now.written (page_sector place k + i) ≡ before.written (page_sector place k + i)

-- the session's page with this number, with these entries, by this check word
unfoldable pub spelled_page : LogSession → ℕ → List Entry → ℕ → List ℕ
spelled_page s n entries check = protected_bytes (page_spelling s.place.pages (lap_of_page s n) (place_of_page s n) entries) check

-- a restart page with these fields, by this check word
unfoldable pub spelled_restart : Restart → ℕ → List ℕ
spelled_restart fields check = protected_bytes (restart_spelling fields) check
