-- A device's disk as a store sees it: without the sectors that the log keeps for itself.
use Rattle.std.specs.Prelude.{◌≡◌, ℕ, Bool, true, if◌then◌else◌, List, [], length}
use Rattle.log_reading.specs.disk_model.declared.block.Block.{Block}
use Rattle.log_reading.specs.disk_model.Sectors.{zero_sector, sectors}
use Rattle.log_reading.specs.disk_model.Content.{Content, content_of}
use Rattle.store_model.specs.log_model.declared.entry.Entry.{Entry}
use Rattle.store_model.specs.sector_device.Disks.{Disk, seen, is_within, put, settled, IsBetween}
use Rattle.store_model.specs.Geometry.{SectorBytes, CanLeave, Geometry, Puts, PutsAll}
use Rattle.store_model.specs.Events.{StandsAs}
use Rattle.store_model.specs.Volumes.{is_known, sectors_from, IsVolume, BearsContent, AreWhole, IsRecovered}

-- these sectors without the own ones, which are zeros
abbrev pub sectors_without : (ℕ → Bool) → SectorBytes → SectorBytes
sectors_without own at n = if own n then zero_sector else at n

-- a disk without the own sectors, which are zeros, and nothing is written there
abbrev pub disk_without : (ℕ → Bool) → Disk → Disk
disk_without own disk = record { durable = λ n. if own n then zero_sector else disk.durable n; written = λ n. if own n then [] else disk.written n }

-- What the calls of a device are to the disk that a store sees of it.
pub record StoresSeeDisks : Type 0 where
  -- an image of the device is one of this disk; its known blocks are the same,
  pub leaves : (own : ℕ → Bool) (disk : Disk) (image : SectorBytes) → CanLeave disk image → CanLeave (disk_without own disk) (sectors_without own image)
  pub content : (own : ℕ → Bool) (at : SectorBytes) (b : Block) → is_known own b ≡ true → content_of (sectors_without own at) b ≡ content_of at b
  -- and are recovered to the same
  pub recovered : (own : ℕ → Bool) (at : SectorBytes) (list : List Entry) (content : Content) (b : Block) → is_known own b ≡ true → IsRecovered list (sectors_without own at) content b → IsRecovered list at content b
  pub seen : (own : ℕ → Bool) (disk : Disk) → seen (disk_without own disk) ≡ sectors_without own (seen disk)
  pub whole : (own : ℕ → Bool) (at : SectorBytes) → AreWhole at → AreWhole (sectors_without own at)
  -- a settled disk bears what is read of it, and so does this one
  pub bears : (own : ℕ → Bool) (disk : Disk) (content : Content) → BearsContent own disk content → BearsContent own (disk_without own disk) content
  -- a write of own sectors is none to the store
  pub own_put : (own : ℕ → Bool) (first : ℕ) (new : List (List ℕ)) (disk now : Disk) → ((n : ℕ) → is_within first (length new) n ≡ true → own n ≡ true) → IsBetween disk (put first new disk) now
      → disk_without own now ≡ disk_without own disk
  -- a write of a known block that answered Ok, and one that failed
  pub written : (own : ℕ → Bool) (geometry : Geometry) → IsVolume own geometry → (b : Block) (new : List (List ℕ)) (disk : Disk) → is_known own b ≡ true → length new ≡ sectors b.kind
      → PutsAll geometry b (sectors_from b.first new) (disk_without own disk) (disk_without own (put b.first new disk))
  pub failed : (own : ℕ → Bool) (geometry : Geometry) → IsVolume own geometry → (b : Block) (new : List (List ℕ)) (disk now : Disk) → is_known own b ≡ true → length new ≡ sectors b.kind → IsBetween disk (put b.first new disk) now
      → Puts geometry b (sectors_from b.first new) (disk_without own disk) (disk_without own now)
  -- sectors that are written as they stand
  pub again : (own : ℕ → Bool) (disk now : Disk) → StandsAs disk now → StandsAs (disk_without own disk) (disk_without own now)
  -- a sync
  pub synced : (own : ℕ → Bool) (disk : Disk) → disk_without own (settled disk) ≡ settled (disk_without own disk)
