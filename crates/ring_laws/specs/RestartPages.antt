-- The two restart pages on a disk: what a crash may leave of them is what their numbers say.
use Rattle.std.specs.Prelude.{◌≡◌, ◌≢◌, ◌⊎◌, ⊤, ℕ, suc, ◌+◌, ◌-◌, ◌==◌, ◌<◌, ◌≤◌, true, false, if◌then◌else◌, List, [], length, Option, Some, None}
use Rattle.log_reading.specs.log_page.declared.restart.Restart.{Restart}
use Rattle.log_reading.specs.log_page.declared.places.LogPlace.{LogPlace}
use Rattle.log_reading.specs.log_page.Restarts.{restart_of, is_newer, whole_one, is_blank, is_emptied, FitsRestart}
use Rattle.log_reading.specs.log_page.RestartLaws.{HasRanges}
use Rattle.log_reading.specs.log_page.CheckWords.{IsCheckWord}
use Rattle.log_reading.specs.Rings.{IsRingPlace}
use Rattle.log_reading.specs.Fronts.{chosen_in}
use Rattle.store_model.specs.sector_device.Sectors.{sector_in}
use Rattle.store_model.specs.sector_device.Disks.{Disk, MayHold, seen}
use Rattle.store_model.specs.Geometry.{SectorBytes}
use Rattle.store_model.specs.Rings.{PagePlaces, newest_page, PlaceMayHold, Restarts, restart_place, AreRestarts, synced_places, chosen_page}
use Rattle.ring_laws.specs.PageBytes.{page_sector, raw_page, CanLeavePage, IsStill, IsSizedPage, spelled_restart}

-- what a restart page says by its number; nothing is said where the log was emptied
abbrev pub RestartFields : Type 0
RestartFields = ℕ → Option Restart

-- the one isn't whole, or the other one is chosen of both
abbrev pub IsBelow : Option Restart → Option Restart → Type 0
IsBelow None other = ⊤
IsBelow (Some a) None = ⊥
IsBelow (Some a) (Some b) = is_newer a b ≡ true

-- what these bytes say as a restart page
abbrev pub said_restart : List ℕ → Option Restart
said_restart raw = whole_one (restart_of raw)

-- These bytes hold the restart page with this number, or an older one, or none that is whole.
pub record ShowsRestart (fields : RestartFields) (sure : ℕ) (raw : List ℕ) (x : Option ℕ) : Type 0 where
  pub is : (n : ℕ) → x ≡ Some n → sure ≤ n → said_restart raw ≡ fields n
  pub below : ((n : ℕ) → x ≡ Some n → n < sure) → IsBelow (said_restart raw) (fields sure)

-- The next restart page was begun by this check word: what a sector of its place may hold is the new page's, or that of the older page that stood there
-- before, of which no sector ends with the check word.
pub record IsRestartBegun (place : LogPlace) (q : Restarts) (fields : RestartFields) (disk : Disk) (check : ℕ) : Type 0 where
  pub next : Restart
  pub said : fields (suc q.sure) ≡ Some next
  pub fits : FitsRestart next
  pub ranges : HasRanges next
  pub rises : IsBelow (fields q.sure) (Some next)
  pub old : List ℕ
  pub old_size : length old ≡ 4096
  pub picked : IsCheckWord old check
  pub older : IsBelow (said_restart old) (fields q.sure)
  pub held : (i : ℕ) (value : List ℕ) → i < 8 → MayHold disk (page_sector place (restart_place (suc q.sure)) + i) value
      → (value ≡ sector_in (spelled_restart next check) i) ⊎ (value ≡ sector_in old i)

-- The disk holds these restart pages. The next one was begun by this check word, or by none yet.
pub record HoldsRestarts (place : LogPlace) (q : Restarts) (check : Option ℕ) (fields : RestartFields) (disk : Disk) : Type 0 where
  pub lies : IsRingPlace place
  pub restarts : AreRestarts q
  pub sized : (k : ℕ) → k < 2 → IsSizedPage place disk k
  -- the last durable page stands at its own place alone
  pub lone : (x : Option ℕ) → PlaceMayHold q.places (restart_place (suc q.sure)) x → x ≢ Some q.sure
  -- whatever a crash leaves of a place, and what a read gives of it, is what the numbers say
  pub leaves : (k : ℕ) (image : SectorBytes) → k < 2 → CanLeavePage place disk image k
      → (x : Option ℕ) × PlaceMayHold q.places k x × ShowsRestart fields q.sure (raw_page place image k) x
  pub reads : (k : ℕ) → k < 2 → ShowsRestart fields q.sure (raw_page place (seen disk) k) (newest_page (q.places.written k) (q.places.durable k))
  -- the last durable page's place has nothing unsynced, and neither has the other one before it is written
  pub still : IsStill place disk (restart_place q.sure)
  pub still_next : q.begun ≡ false → IsStill place disk (restart_place (suc q.sure))
  -- the next page is newer
  pub rises : q.begun ≡ true → IsBelow (fields q.sure) (fields (suc q.sure))
  pub says : q.begun ≡ true → (r : Restart) × (fields (suc q.sure) ≡ Some r)
  -- where no page is durable, the log was emptied
  pub emptied : fields q.sure ≡ None → is_blank (raw_page place (seen disk) (restart_place q.sure)) ≡ true
  pub begun : (word : ℕ) → check ≡ Some word → (q.done ≡ false) × IsRestartBegun place q fields disk word
  pub unbegun : check ≡ None → q.done ≡ false → q.begun ≡ false

-- of the two places this page's holds it, and the other one none
abbrev pub found_places : ℕ → PagePlaces
found_places sure = record { durable = λ k. if k == restart_place sure then Some sure else None; written = λ k. [] }

-- the restart pages as a session finds them, where the next one goes to this place
abbrev pub found_restarts : (next : ℕ) → Restarts
found_restarts next = let sure = 1 - next in record { sure = sure; begun = false; done = false; places = found_places sure }

-- what the next restart page is to say
abbrev pub with_next : Restarts → Restart → RestartFields → RestartFields
with_next q next fields = λ n. if n == suc q.sure then Some next else fields n

-- the next page was written, and the write answered Ok
abbrev pub restart_written : Restarts → PagePlaces → Restarts
restart_written q places = record q { begun = true; done = true; places = places }

-- the write failed, so the page was sent, perhaps in part
abbrev pub restart_sent : Restarts → PagePlaces → Restarts
restart_sent q places = record q { begun = true; places = places }

-- a sync: after such a write that answered Ok the next page is the last durable one
abbrev pub restart_synced : Restarts → Restarts
restart_synced q = if q.done then record q { sure = suc q.sure; begun = false; done = false; places = synced_places q.places } else record q { places = synced_places q.places }

-- Of two restart pages that a crash left, the chosen one is the last durable one, or the next one, once that was begun; where none is, the log was emptied.
pub record ChoosesRestart (place : LogPlace) (q : Restarts) (fields : RestartFields) (image : SectorBytes) : Type 0 where
  pub restarts : ℕ → Option ℕ
  pub may : (k : ℕ) → PlaceMayHold q.places k (restarts k)
  pub is : ((chosen_page restarts ≡ Some q.sure) × (chosen_in (raw_page place image 0) (raw_page place image 1) ≡ fields q.sure))
      ⊎ ((q.begun ≡ true) × (chosen_page restarts ≡ Some (suc q.sure)) × (chosen_in (raw_page place image 0) (raw_page place image 1) ≡ fields (suc q.sure)))
  pub emptied : chosen_in (raw_page place image 0) (raw_page place image 1) ≡ None → is_emptied (raw_page place image 0) (raw_page place image 1) ≡ true
