-- The pages of the ring on a disk: what a crash may leave of them is what the ring says, by numbers.
use Rattle.std.specs.Prelude.{◌≡◌, ◌⊎◌, ℕ, suc, ◌+◌, ◌-◌, ◌≤◌, ◌<◌, max, true, false, List, [], length, get_or, Option, Some, None}
use Rattle.store_model.specs.log_model.declared.entry.Entry.{Entry}
use Rattle.log_reading.specs.log_page.Places.{entries_at, lap_of}
use Rattle.log_reading.specs.log_page.RecordPages.{is_whole_page, page_reading}
use Rattle.log_reading.specs.log_page.CheckWords.{IsCheckWord}
use Rattle.log_reading.specs.log_page.PageSpellings.{MakePage}
use Rattle.log_reading.specs.log_page.LiveLogs.{said_lsn}
use Rattle.log_reading.specs.Rings.{IsRingPlace}
use Rattle.store_model.specs.sector_device.Sectors.{sector_in}
use Rattle.store_model.specs.sector_device.Disks.{Disk, MayHold, seen}
use Rattle.store_model.specs.Geometry.{SectorBytes}
use Rattle.store_model.specs.Rings.{PagePlaces, newest_page, PlaceMayHold, Ring, is_page, new_ring, IsRing}
use Rattle.ring_laws.specs.Numbers.{LogSession, ring_size, place_of_page, lap_of_page, lsn_of_page, IsInRing}
use Rattle.ring_laws.specs.PageBytes.{page_sector, raw_page, CanLeavePage, IsStill, IsSizedPage, spelled_page}

-- These bytes at a place of the ring hold what a number says: of the pages that belong there, from the oldest on, the one with this number is whole and no
-- other is; none is whole where there is no number, or an older one.
abbrev pub ShowsPage : LogSession → ℕ → ℕ → List ℕ → Option ℕ → Type 0
ShowsPage s oldest k raw x = (n : ℕ) → oldest ≤ n → place_of_page s n ≡ k → is_whole_page s.place.pages raw (lsn_of_page s n) ≡ is_page x n

-- the entries of a page that are kept by its number
abbrev pub entries_of_page : Ring → List (List Entry) → ℕ → List Entry
entries_of_page r pages n = get_or pages (n - r.oldest) []

-- The page that is written next was begun by this check word: what a sector of its place may hold is the new page's, or that of the page that stood there
-- before, of which no sector ends with the check word, and which isn't whole at the LSN of any page from the oldest on.
pub record IsBegun (s : LogSession) (r : Ring) (entries : List Entry) (disk : Disk) (check : ℕ) : Type 0 where
  pub old : List ℕ
  pub old_size : length old ≡ 4096
  pub picked : IsCheckWord old check
  pub stale : (n : ℕ) → r.oldest ≤ n → place_of_page s n ≡ place_of_page s r.done → is_whole_page s.place.pages old (lsn_of_page s n) ≡ false
  pub made : MakePage s.place.pages (lap_of_page s r.done) (place_of_page s r.done) entries
  pub room : r.done < r.oldest + r.size
  pub held : (i : ℕ) (value : List ℕ) → i < 8 → MayHold disk (page_sector s.place (place_of_page s r.done) + i) value
      → (value ≡ sector_in (spelled_page s r.done entries check) i) ⊎ (value ≡ sector_in old i)

-- The disk holds the ring, whose pages from the oldest one on have these entries. The page that is written next was begun by this check word, or by none yet.
pub record HoldsRing (s : LogSession) (r : Ring) (check : Option ℕ) (pages : List (List Entry)) (disk : Disk) : Type 0 where
  pub lies : IsRingPlace s.place
  pub size : r.size ≡ ring_size s
  pub ring : IsRing (place_of_page s) r
  pub next : r.sent ≤ suc r.done
  pub sized : (k : ℕ) → IsInRing s.place k → IsSizedPage s.place disk k
  -- whatever a crash leaves of a place, and what a read gives of it, is what the ring says
  pub leaves : (k : ℕ) (image : SectorBytes) → IsInRing s.place k → CanLeavePage s.place disk image k
      → (x : Option ℕ) × PlaceMayHold r.places k x × ShowsPage s r.oldest k (raw_page s.place image k) x
  pub reads : (k : ℕ) → IsInRing s.place k → ShowsPage s r.oldest k (raw_page s.place (seen disk) k) (newest_page (r.places.written k) (r.places.durable k))
  -- a page that is whole has its entries, and none of another shape
  pub gives : (n : ℕ) (image : SectorBytes) → r.oldest ≤ n → CanLeavePage s.place disk image (place_of_page s n)
      → is_whole_page s.place.pages (raw_page s.place image (place_of_page s n)) (lsn_of_page s n) ≡ true
      → page_reading (raw_page s.place image (place_of_page s n)) (lsn_of_page s n) entries_at ≡ record { entries = entries_of_page r pages n; foreign = None }
  -- the places of durable pages, and of those that weren't written yet, have nothing unsynced
  pub still : (n : ℕ) → r.oldest ≤ n → n < r.oldest + r.size → (n < r.synced) ⊎ (r.sent ≤ n) → IsStill s.place disk (place_of_page s n)
  -- no page says a lap above that of the page after those that were written
  pub said : (k : ℕ) (value : List ℕ) (lsn : ℕ) → IsInRing s.place k → MayHold disk (page_sector s.place k) value → said_lsn value ≡ Some lsn
      → lap_of s.place.pages lsn ≤ lap_of_page s r.sent
  pub begun : (word : ℕ) → check ≡ Some word → IsBegun s r (entries_of_page r pages r.done) disk word
  pub unbegun : check ≡ None → r.sent ≤ r.done

-- a session begins: no page of it was written
abbrev pub first_ring : LogSession → Ring
first_ring s = new_ring (ring_size s) 0 (record { durable = λ k. None; written = λ k. [] })

-- the next page was written, and the write answered Ok
abbrev pub page_written : Ring → PagePlaces → Ring
page_written r places = record r { done = suc r.done; sent = max r.sent (suc r.done); places = places }

-- the write failed, so the page was sent, perhaps in part
abbrev pub page_sent : Ring → PagePlaces → Ring
page_sent r places = record r { sent = max r.sent (suc r.done); places = places }

-- the entries of the pages before this one are those that stand on the disk, or are to be written there
abbrev pub fixed_to : Ring → Option ℕ → ℕ
fixed_to r (Some check) = suc r.done
fixed_to r None = r.sent
