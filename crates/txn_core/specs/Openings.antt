-- How a store begins on a device.
use Rattle.std.specs.Prelude.{◌≡◌, ℕ, ◌-◌, ◌^◌, ◌<◌, ◌≤◌, true, false, List, [], Option, Some, None, Ok}
use Rattle.device_blocks.specs.disk_model.declared.block.Block.{Block}
use Rattle.txn_laws.specs.sector_device.Disks.{Disk, IsSettled, IsSized, seen}
use Rattle.txn_laws.specs.sector_device.Moments.{Changes}
use Rattle.txn_laws.specs.log_page.declared.places.LogPlace.{LogPlace}
use Rattle.txn_laws.specs.log_page.declared.restart.Restart.{Restart}
use Rattle.txn_laws.specs.log_page.Places.{lap_of, sequence_bits}
use Rattle.txn_laws.specs.log_page.LiveLogs.{said_lsn}
use Rattle.txn_laws.specs.log_page.Restarts.{is_blank}
use Rattle.txn_laws.specs.log_reading.Rings.{IsRingPlace}
use Rattle.device_blocks.specs.log_area.Areas.{LogAreaOf, new_area}
use Rattle.txn_laws.specs.store_model.Rings.{Ring, Restarts}
use Rattle.txn_laws.specs.store_model.Geometry.{SectorBytes}
use Rattle.txn_laws.specs.ring_laws.Numbers.{IsInRing}
use Rattle.txn_laws.specs.ring_laws.PageBytes.{raw_page}
use Rattle.txn_laws.specs.ring_laws.RestartPages.{RestartFields, IsBelow, said_restart}
use Rattle.txn_laws.specs.area_laws.Standing.{Stands}
use Rattle.txn_laws.specs.area_laws.Laws.{SendsRestart}
use Rattle.txn_laws.specs.Laws.{SyncsNow, StartsOn}

-- On the disk a session may begin with this lap: its new ring, which has no entry, stands there.
pub record OpensOn (place : LogPlace) (lap restart opens : ℕ) (disk : Disk) : Type 0 where
  pub ring : Ring
  pub restarts : Restarts
  pub fields : RestartFields
  pub stands : Stands (record { place = place; lap = lap }) (new_area place lap restart opens) ring restarts [] fields disk

-- What is read of a log before a session of this lap, whose next restart page goes to this place, 0 or 1: no page of the ring says this lap or a later one; and of
-- the restart pages the other one is the newer, and earlier than this lap, or it is all FF, as in a log that was emptied.
pub record IsBefore (place : LogPlace) (lap restart : ℕ) (at : SectorBytes) : Type 0 where
  pub laps : (k lsn : ℕ) → IsInRing place k → said_lsn (raw_page place at k) ≡ Some lsn → lap_of place.pages lsn < lap
  pub newer : IsBelow (said_restart (raw_page place at restart)) (said_restart (raw_page place at (1 - restart)))
  pub blank : said_restart (raw_page place at (1 - restart)) ≡ None → is_blank (raw_page place at (1 - restart)) ≡ true
  pub early : (c : Restart) → said_restart (raw_page place at (1 - restart)) ≡ Some c → lap_of place.pages c.current < lap

-- On a disk on which nothing is unsynced, and where this is read of the log, the session may be opened.
abbrev pub LogsOpen : Type 0
LogsOpen = (place : LogPlace) (lap restart opens : ℕ) (disk : Disk) → IsRingPlace place → 1 ≤ lap → lap < 2 ^ sequence_bits place.pages → restart ≤ 1 → IsSized disk → IsSettled disk → IsBefore place lap restart (seen disk)
    → OpensOn place lap restart opens disk

-- A restart page was sent that names this place, and then the device was synced.
pub record NamesAndSyncs {D : Type 0} (gives : D → Option (List (List ℕ))) (changes : D → Changes) (moment : D → ℕ) (a : LogAreaOf) (oldest : ℕ) (old new : D) : Type 0 where
  pub mid : D
  pub word : ℕ
  pub sends : SendsRestart gives changes moment a oldest false word (Ok tt) old mid
  pub syncs : SyncsNow changes moment (Ok tt) mid new

-- where the disk is known, a store may begin on it, with a window whose present content is what is seen of the disk
abbrev pub StartsThen : {D : Type 0} → (D → Changes) → LogPlace → LogAreaOf → D → Type 0
StartsThen changes place log device = (found : List Block) (disk : Disk) → (changes device).disk ≡ Some disk → StartsOn changes place log found device
