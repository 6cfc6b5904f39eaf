-- The laws of the ring as bytes.
use Rattle.std.specs.Prelude.{◌≡◌, ◌≢◌, ◌⊎◌, ℕ, suc, ◌+◌, ◌-◌, ◌*◌, ◌^◌, ◌≤◌, ◌<◌, true, false, List, [], length, get_or, take, drop, Option, Some, None}
use Rattle.log_reading.specs.disk_model.Content.{content_of}
use Rattle.store_model.specs.log_model.declared.entry.Entry.{Entry}
use Rattle.log_reading.specs.log_page.declared.places.LogPlace.{LogPlace}
use Rattle.log_reading.specs.log_page.declared.restart.Restart.{Restart}
use Rattle.log_reading.specs.log_page.Places.{page_bytes, first_page, entries_at, lap_of, page_of, is_in_ring, page_after, lap_after}
use Rattle.log_reading.specs.log_page.CheckWords.{IsCheckWord}
use Rattle.log_reading.specs.log_page.PageSpellings.{MakePage}
use Rattle.log_reading.specs.log_page.LiveLogs.{start_in_page, live_log, said_lsn, next_lap}
use Rattle.log_reading.specs.log_page.Restarts.{is_blank, FitsRestart}
use Rattle.log_reading.specs.log_page.RestartLaws.{HasRanges}
use Rattle.log_reading.specs.LogPages.{log_sector, page_in}
use Rattle.log_reading.specs.Rings.{IsRingPlace}
use Rattle.store_model.specs.sector_device.Sectors.{sectors_of}
use Rattle.store_model.specs.sector_device.Disks.{Disk, seen, is_within, put, settled, IsBetween, IsSized}
use Rattle.store_model.specs.Geometry.{SectorBytes, CanLeave}
use Rattle.store_model.specs.Rings.{PagePlaces, MayLeavePages, Ring, HasPlaces, synced_places, entries_on, read_from, Restarts, restart_place}
use Rattle.ring_laws.specs.Numbers.{LogSession, ring_size, place_of_page, lap_of_page, lsn_of_page, IsInRing}
use Rattle.ring_laws.specs.PageBytes.{page_sector, raw_page, IsStill, AreAlike, spelled_page, spelled_restart}
use Rattle.ring_laws.specs.RingPages.{entries_of_page, HoldsRing, first_ring, page_written, page_sent, fixed_to}
use Rattle.ring_laws.specs.RestartPages.{RestartFields, IsBelow, said_restart, HoldsRestarts, found_restarts, with_next, restart_written, restart_sent, restart_synced, ChoosesRestart}

-- ---- numbers

-- The pages of a session stand in the ring one behind the other, in places of their own, and their LSNs rise and say it.
pub record PagesAreNumbered : Type 0 where
  -- pages that are less than a round apart have places of their own
  pub places : (s : LogSession) → HasPlaces (ring_size s) (place_of_page s)
  pub inside : (s : LogSession) (n : ℕ) → first_page < s.place.pages → IsInRing s.place (place_of_page s n)
  -- the first page is the ring's, and each page stands behind the one before it
  pub first : (s : LogSession) → (place_of_page s 0 ≡ first_page) × (lap_of_page s 0 ≡ s.lap)
  pub next : (s : LogSession) (n : ℕ) → first_page < s.place.pages
      → (place_of_page s (suc n) ≡ page_after s.place.pages (place_of_page s n)) × (lap_of_page s (suc n) ≡ lap_after s.place.pages (lap_of_page s n) (place_of_page s n))
  -- the LSN of a page says its lap and its place, where entries begin
  pub says : (s : LogSession) (n : ℕ) → first_page < s.place.pages → page_bytes * s.place.pages < 2 ^ 64
      → (lap_of s.place.pages (lsn_of_page s n) ≡ lap_of_page s n) × (page_of s.place.pages (lsn_of_page s n) ≡ place_of_page s n)
      × (is_in_ring s.place.pages (lsn_of_page s n) ≡ true) × (start_in_page s.place.pages (lsn_of_page s n) ≡ entries_at)
  -- LSNs rise, by a page's eights of bytes at least
  pub rises : (s : LogSession) (m n : ℕ) → first_page < s.place.pages → page_bytes * s.place.pages < 2 ^ 64 → m < n → lsn_of_page s m + 512 ≤ lsn_of_page s n

-- ---- bytes

-- A page of the log is the bytes of eight sectors in a row, which are those of no other page.
pub record PagesAreBytes : Type 0 where
  -- the page is the one that is read of the log
  pub read : (place : LogPlace) (at : SectorBytes) (k : ℕ) → IsRingPlace place → k < place.pages → page_in (content_of at) place k ≡ raw_page place at k
  -- its sectors lie in a row, and apart from those of all other pages
  pub row : (place : LogPlace) (k i : ℕ) → IsRingPlace place → k < place.pages → i < 8 → log_sector place (8 * k + i) ≡ Some (page_sector place k + i)
  pub apart : (place : LogPlace) (j k : ℕ) → IsRingPlace place → j < place.pages → k < place.pages → j ≢ k
      → (page_sector place j + 8 ≤ page_sector place k) ⊎ (page_sector place k + 8 ≤ page_sector place j)
  -- what is written elsewhere leaves pages alike, and so does a page that isn't among them
  pub elsewhere : (place : LogPlace) (from to first : ℕ) (new : List (List ℕ)) (disk now : Disk)
      → ((k i : ℕ) → from ≤ k → k < to → i < 8 → is_within first (length new) (page_sector place k + i) ≡ false) → IsBetween disk (put first new disk) now → AreAlike place from to disk now
  pub other_page : (place : LogPlace) (from to k : ℕ) (new : List (List ℕ)) (disk now : Disk) → IsRingPlace place → to ≤ place.pages → k < place.pages → length new ≡ 8
      → (k < from) ⊎ (to ≤ k) → IsBetween disk (put (page_sector place k) new disk) now → AreAlike place from to disk now

-- ---- the ring

-- The places of a ring after a call, which the disk holds.
abbrev pub HoldsAfter : LogSession → (PagePlaces → Ring) → Option ℕ → List (List Entry) → Disk → Type 0
HoldsAfter s after check pages disk = (places : PagePlaces) × HoldsRing s (after places) check pages disk

-- The write of the page that comes next.
abbrev pub page_put : LogSession → Ring → List (List Entry) → ℕ → Disk → Disk
page_put s r pages check disk = put (page_sector s.place (place_of_page s r.done)) (sectors_of (spelled_page s r.done (entries_of_page r pages r.done) check)) disk

-- A ring begins, and whatever is done with it leaves a ring that the disk holds.
pub record RingStands : Type 0 where
  -- a session begins on a log whose ring says no lap from the session's first one on
  pub start : (s : LogSession) (disk : Disk) → IsRingPlace s.place → IsSized disk → ((k : ℕ) → IsInRing s.place k → IsStill s.place disk k)
      → ((k lsn : ℕ) → IsInRing s.place k → said_lsn (raw_page s.place (seen disk) k) ≡ Some lsn → lap_of s.place.pages lsn < s.lap) → HoldsRing s (first_ring s) None [] disk
  -- entries are appended, and pages sealed, behind those that were written or begun
  pub appended : (s : LogSession) (r : Ring) (check : Option ℕ) (pages more : List (List Entry)) (disk : Disk) → HoldsRing s r check pages disk
      → ((k : ℕ) → k < fixed_to r check - r.oldest → get_or more k [] ≡ get_or pages k []) → HoldsRing s r check more disk
  -- a check word is picked by a read
  pub begun : (s : LogSession) (r : Ring) (pages : List (List Entry)) (disk : Disk) (word : ℕ) → HoldsRing s r None pages disk → r.done < r.oldest + r.size
      → MakePage s.place.pages (lap_of_page s r.done) (place_of_page s r.done) (entries_of_page r pages r.done)
      → IsCheckWord (raw_page s.place (seen disk) (place_of_page s r.done)) word → HoldsRing s r (Some word) pages disk
  -- the page is written, and the write answers Ok, or fails
  pub written : (s : LogSession) (r : Ring) (pages : List (List Entry)) (disk : Disk) (word : ℕ) → HoldsRing s r (Some word) pages disk
      → HoldsAfter s (page_written r) None pages (page_put s r pages word disk)
  pub failed : (s : LogSession) (r : Ring) (pages : List (List Entry)) (disk now : Disk) (word : ℕ) → HoldsRing s r (Some word) pages disk → IsBetween disk (page_put s r pages word disk) now
      → HoldsAfter s (page_sent r) (Some word) pages now
  -- a sync
  pub synced : (s : LogSession) (r : Ring) (check : Option ℕ) (pages : List (List Entry)) (disk : Disk) → HoldsRing s r check pages disk
      → HoldsRing s (record r { synced = r.done; places = synced_places r.places }) check pages (settled disk)
  -- durable pages in front are freed
  pub freed : (s : LogSession) (r : Ring) (check : Option ℕ) (pages : List (List Entry)) (disk : Disk) (oldest : ℕ) → HoldsRing s r check pages disk → r.oldest ≤ oldest → oldest ≤ r.synced
      → HoldsRing s (record r { oldest = oldest }) check (drop (oldest - r.oldest) pages) disk
  -- what is done elsewhere leaves the ring
  pub elsewhere : (s : LogSession) (r : Ring) (check : Option ℕ) (pages : List (List Entry)) (disk now : Disk) → HoldsRing s r check pages disk → AreAlike s.place first_page s.place.pages disk now
      → HoldsRing s r check pages now

-- What recovery reads of a ring that a crash left: the entries of a front of its pages, from the oldest one on, which has all durable ones and none that wasn't
-- written; and no entry of another shape.
pub record ReadsFront (s : LogSession) (r : Ring) (pages : List (List Entry)) (image : SectorBytes) : Type 0 where
  pub count : ℕ
  pub durable : r.synced - r.oldest ≤ count
  pub written : count ≤ r.sent - r.oldest
  pub reads : live_log s.place.pages (raw_page s.place image) (lsn_of_page s r.oldest) ≡ record { entries = entries_on (take count pages); foreign = None }

-- the pages by their numbers, and what recovery reads from each page on
pub record ReadsNumbers (s : LogSession) (r : Ring) (pages : List (List Entry)) (image : SectorBytes) : Type 0 where
  pub numbers : ℕ → Option ℕ
  pub may : MayLeavePages r.places numbers
  pub reads : (start : ℕ) → r.oldest ≤ start
      → live_log s.place.pages (raw_page s.place image) (lsn_of_page s start) ≡ record { entries = read_from (place_of_page s) r pages numbers start; foreign = None }

-- Whatever a crash leaves of a ring is read as a front of its pages, and says no lap above theirs.
pub record RingIsRead : Type 0 where
  pub front : (s : LogSession) (r : Ring) (check : Option ℕ) (pages : List (List Entry)) (disk : Disk) → HoldsRing s r check pages disk → (image : SectorBytes) → CanLeave disk image → ReadsFront s r pages image
  pub numbers : (s : LogSession) (r : Ring) (check : Option ℕ) (pages : List (List Entry)) (disk : Disk) → HoldsRing s r check pages disk → (image : SectorBytes) → CanLeave disk image → ReadsNumbers s r pages image
  -- no lap that an image says is above the ring's, and the next mount's lap is one more at most
  pub laps : (s : LogSession) (r : Ring) (check : Option ℕ) (pages : List (List Entry)) (disk : Disk) → HoldsRing s r check pages disk → (image : SectorBytes) → CanLeave disk image
      → (k lsn : ℕ) → IsInRing s.place k → said_lsn (raw_page s.place image k) ≡ Some lsn → lap_of s.place.pages lsn ≤ lap_of_page s r.sent
  pub next_lap : (s : LogSession) (r : Ring) (check : Option ℕ) (pages : List (List Entry)) (disk : Disk) → HoldsRing s r check pages disk → (image : SectorBytes) → CanLeave disk image
      → (chosen : Option Restart) (n : ℕ) → r.sent ≤ n → ((c : Restart) → chosen ≡ Some c → lap_of s.place.pages c.current ≤ lap_of_page s n)
      → next_lap s.place.pages (raw_page s.place image) chosen ≤ suc (lap_of_page s n)

-- ---- restart pages

-- The places of restart pages after a call, which the disk holds.
abbrev pub HoldsRestartsAfter : LogPlace → (PagePlaces → Restarts) → Option ℕ → RestartFields → Disk → Type 0
HoldsRestartsAfter place after check fields disk = (places : PagePlaces) × HoldsRestarts place (after places) check fields disk

-- the write of the next restart page
abbrev pub restart_put : LogPlace → Restarts → Restart → ℕ → Disk → Disk
restart_put place q next check disk = put (page_sector place (restart_place (suc q.sure))) (sectors_of (spelled_restart next check)) disk

-- Restart pages are found, whatever is done with them leaves such that the disk holds, and of those that a crash leaves the right one is chosen.
pub record RestartsStand : Type 0 where
  -- a session begins: the next restart page goes to this place, and the other one's is chosen, or the log was emptied
  pub start : (place : LogPlace) (disk : Disk) (next : ℕ) (fields : RestartFields) → IsRingPlace place → IsSized disk → next < 2 → ((k : ℕ) → k < 2 → IsStill place disk k)
      → said_restart (raw_page place (seen disk) (1 - next)) ≡ fields (1 - next) → IsBelow (said_restart (raw_page place (seen disk) next)) (fields (1 - next))
      → (fields (1 - next) ≡ None → is_blank (raw_page place (seen disk) (1 - next)) ≡ true) → HoldsRestarts place (found_restarts next) None fields disk
  -- a check word is picked by a read
  pub begun : (place : LogPlace) (q : Restarts) (fields : RestartFields) (disk : Disk) (next : Restart) (word : ℕ) → HoldsRestarts place q None fields disk → q.done ≡ false
      → FitsRestart next → HasRanges next → IsBelow (fields q.sure) (Some next) → IsCheckWord (raw_page place (seen disk) (restart_place (suc q.sure))) word
      → HoldsRestarts place q (Some word) (with_next q next fields) disk
  -- the page is written, and the write answers Ok, or fails
  pub written : (place : LogPlace) (q : Restarts) (fields : RestartFields) (disk : Disk) (next : Restart) (word : ℕ) → HoldsRestarts place q (Some word) fields disk → fields (suc q.sure) ≡ Some next
      → HoldsRestartsAfter place (restart_written q) None fields (restart_put place q next word disk)
  pub failed : (place : LogPlace) (q : Restarts) (fields : RestartFields) (disk now : Disk) (next : Restart) (word : ℕ) → HoldsRestarts place q (Some word) fields disk → fields (suc q.sure) ≡ Some next
      → IsBetween disk (restart_put place q next word disk) now → HoldsRestartsAfter place (restart_sent q) (Some word) fields now
  pub synced : (place : LogPlace) (q : Restarts) (check : Option ℕ) (fields : RestartFields) (disk : Disk) → HoldsRestarts place q check fields disk
      → HoldsRestarts place (restart_synced q) check fields (settled disk)
  pub elsewhere : (place : LogPlace) (q : Restarts) (check : Option ℕ) (fields : RestartFields) (disk now : Disk) → HoldsRestarts place q check fields disk → AreAlike place 0 2 disk now
      → HoldsRestarts place q check fields now
  pub chosen : (place : LogPlace) (q : Restarts) (check : Option ℕ) (fields : RestartFields) (disk : Disk) → HoldsRestarts place q check fields disk → (image : SectorBytes) → CanLeave disk image
      → ChoosesRestart place q fields image
