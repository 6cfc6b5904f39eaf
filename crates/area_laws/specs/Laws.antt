-- The laws of a ring's calls.
use Rattle.std.specs.Prelude.{◌≡◌, ◌≢◌, ◌⊎◌, ℕ, suc, ◌-◌, ◌^◌, ◌<◌, ◌≤◌, Bool, true, false, List, [], Option, Some, None, Result, Ok, Err, IfSome, drop}
use Rattle.host_base.specs.declared.outside.Failed.{Failed}
use Rattle.ring_laws.specs.fixup_record.Protecting.{protected_bytes}
use Rattle.log_area.specs.disk_model.Sectors.{sector_of}
use Rattle.log_area.specs.sector_device.Disks.{Disk, MayLeave, SeesDisk, IsSized, settled, seen}
use Rattle.log_area.specs.sector_device.Moments.{Changes}
use Rattle.ring_laws.specs.log_model.declared.entry.Entry.{Entry}
use Rattle.ring_laws.specs.log_model.Entries.{entry_size, FitsEntry}
use Rattle.ring_laws.specs.log_page.declared.restart.Restart.{Restart}
use Rattle.ring_laws.specs.log_page.Places.{sequence_bits, lap_of}
use Rattle.ring_laws.specs.log_page.LiveLogs.{said_lsn}
use Rattle.ring_laws.specs.log_page.Restarts.{restart_spelling, is_blank}
use Rattle.ring_laws.specs.log_reading.Rings.{IsRingPlace}
use Rattle.ring_laws.specs.store_model.Rings.{PagePlaces, Ring, Restarts, synced_places}
use Rattle.ring_laws.specs.Numbers.{LogSession, lsn_of_page, IsInRing}
use Rattle.ring_laws.specs.PageBytes.{raw_page, IsStill, AreAlike}
use Rattle.ring_laws.specs.Laws.{ReadsFront}
use Rattle.ring_laws.specs.RingPages.{first_ring, page_written, page_sent}
use Rattle.ring_laws.specs.RestartPages.{RestartFields, ChoosesRestart, IsBelow, said_restart, found_restarts, restart_written, restart_sent, restart_synced}
use Rattle.log_area.specs.Areas.{LogAreaOf, new_area, lap_at, number_lsn, number_of, next_number, next_lsn, needs_page, free_pages, appended, sealed_area, written_area, synced_area, named_area, page_sector, held_page, made_page, IsOldest, restart_sector, sent_word, page_to_send}
use Rattle.log_area.specs.Calls.{IsSent}
use Rattle.area_laws.specs.Standing.{Stands, pages_with, freed_to}

-- A device whose disk is known: what it gives is what is seen of the disk.
pub record IsKnown {D : Type 0} (gives : D → Option (List (List ℕ))) (changes : D → Changes) (device : D) (disk : Disk) : Type 0 where
  pub known : (changes device).disk ≡ Some disk
  pub sees : SeesDisk (gives device) (changes device).disk

-- The device's disk after a call, and places of the ring's pages, with which the ring stands.
pub record StandsAfter {D : Type 0} (changes : D → Changes) (s : LogSession) (a : LogAreaOf) (after : PagePlaces → Ring) (q : Restarts) (pages : List (List Entry)) (fields : RestartFields) (device : D) : Type 0 where
  pub disk : Disk
  pub known : (changes device).disk ≡ Some disk
  pub places : PagePlaces
  pub stands : Stands s a (after places) q pages fields disk

-- The same of restart pages, of which the one with this number says this, and the others what they said.
pub record RestartsStandAfter {D : Type 0} (changes : D → Changes) (s : LogSession) (a : LogAreaOf) (r : Ring) (after : PagePlaces → Restarts) (pages : List (List Entry)) (fields : RestartFields) (n : ℕ) (page : Restart) (device : D) : Type 0 where
  pub disk : Disk
  pub known : (changes device).disk ≡ Some disk
  pub places : PagePlaces
  pub told : RestartFields
  pub said : told n ≡ Some page
  pub others : (m : ℕ) → m ≢ n → told m ≡ fields m
  pub stands : Stands s a r (after places) pages told disk

-- The next page was sent to its place of a device; so was a restart page.
abbrev pub SendsNext : {D : Type 0} → (D → Option (List (List ℕ))) → (D → Changes) → (D → ℕ) → LogAreaOf → ℕ → Result (Unit {0}) Failed → D → D → Type 0
SendsNext gives changes moment a word result old new = IsSent gives changes moment a.check (page_sector a a.done) (protected_bytes (made_page (held_page a a.done))) word result old new

abbrev pub SendsRestart : {D : Type 0} → (D → Option (List (List ℕ))) → (D → Changes) → (D → ℕ) → LogAreaOf → ℕ → Bool → ℕ → Result (Unit {0}) Failed → D → D → Type 0
SendsRestart gives changes moment a oldest clean word result old new =
    IsSent gives changes moment (sent_word a.sent) (restart_sector a) (protected_bytes (restart_spelling (page_to_send a oldest clean))) word result old new

-- A restart page may be sent that names this place: where the open count stays at its type's end, an entry was appended since the last one.
pub record MayName (a : LogAreaOf) (q : Restarts) (fields : RestartFields) (oldest : ℕ) (clean : Bool) : Type 0 where
  pub synced : a.named ≡ None
  pub place : IsOldest a oldest
  pub lap : lap_at a (next_number a 0x58) < 2 ^ sequence_bits a.pages
  pub again : IfSome a.sent (λ x. x.page.oldest ≡ oldest)
  pub small : oldest < 2 ^ 64
  pub few : a.opens < 2 ^ 32
  pub newer : (x : Restart) → fields q.sure ≡ Some x → (a.opens < 2 ^ 32 - 1) ⊎ (x.current < next_lsn a 0x58)

-- A page that is sent, or a restart page, in a write that answers Ok or fails, leaves a ring that follows.
pub record CallsAreFollowed {D : Type 0} (gives : D → Option (List (List ℕ))) (changes : D → Changes) (moment : D → ℕ) : Type 0 where
  pub written : (s : LogSession) (a : LogAreaOf) (r : Ring) (q : Restarts) (pages : List (List Entry)) (fields : RestartFields) (disk : Disk) (word : ℕ) (old new : D)
      → IsKnown gives changes old disk → Stands s a r q pages fields disk → a.done < a.sealed
      → SendsNext gives changes moment a word (Ok tt) old new → StandsAfter changes s (written_area a) (page_written r) q pages fields new
  pub failed : (s : LogSession) (a : LogAreaOf) (r : Ring) (q : Restarts) (pages : List (List Entry)) (fields : RestartFields) (disk : Disk) (word : ℕ) (old new : D)
      → IsKnown gives changes old disk → Stands s a r q pages fields disk → a.done < a.sealed
      → (fault : Failed) → SendsNext gives changes moment a word (Err fault) old new → StandsAfter changes s (record a { check = Some word }) (page_sent r) q pages fields new
  pub named : (s : LogSession) (a : LogAreaOf) (r : Ring) (q : Restarts) (pages : List (List Entry)) (fields : RestartFields) (disk : Disk) (oldest : ℕ) (clean : Bool) (word : ℕ) (old new : D)
      → IsKnown gives changes old disk → Stands s a r q pages fields disk → MayName a q fields oldest clean
      → SendsRestart gives changes moment a oldest clean word (Ok tt) old new
      → RestartsStandAfter changes s (named_area oldest a) r (restart_written q) pages fields (suc q.sure) (page_to_send a oldest clean) new
  pub not_named : (s : LogSession) (a : LogAreaOf) (r : Ring) (q : Restarts) (pages : List (List Entry)) (fields : RestartFields) (disk : Disk) (oldest : ℕ) (clean : Bool) (word : ℕ) (old new : D)
      → IsKnown gives changes old disk → Stands s a r q pages fields disk → MayName a q fields oldest clean
      → (fault : Failed) → SendsRestart gives changes moment a oldest clean word (Err fault) old new
      → RestartsStandAfter changes s (record a { sent = Some (record { page = page_to_send a oldest clean; check = word }) }) r (restart_sent q) pages fields (suc q.sure) (page_to_send a oldest clean) new

pub record RingIsFollowed : Type 0 where
  -- a session begins on a log whose ring says no lap from the session's first one on, and whose next restart page goes to the other place than the chosen one's
  pub start : (s : LogSession) (restart opens : ℕ) (fields : RestartFields) (disk : Disk) → IsRingPlace s.place → 1 ≤ s.lap → s.lap < 2 ^ sequence_bits s.place.pages → restart < 2 → IsSized disk
      → ((k : ℕ) → k < s.place.pages → IsStill s.place disk k) → ((k lsn : ℕ) → IsInRing s.place k → said_lsn (raw_page s.place (seen disk) k) ≡ Some lsn → lap_of s.place.pages lsn < s.lap)
      → said_restart (raw_page s.place (seen disk) (1 - restart)) ≡ fields (1 - restart) → IsBelow (said_restart (raw_page s.place (seen disk) restart)) (fields (1 - restart))
      → (fields (1 - restart) ≡ None → is_blank (raw_page s.place (seen disk) (1 - restart)) ≡ true) → ((c : Restart) → fields (1 - restart) ≡ Some c → lap_of s.place.pages c.current < s.lap)
      → Stands s (new_area s.place s.lap restart opens) (first_ring s) (found_restarts restart) [] fields disk
  -- an entry is appended where there is room
  pub append : (s : LogSession) (a : LogAreaOf) (r : Ring) (q : Restarts) (pages : List (List Entry)) (fields : RestartFields) (disk : Disk) (e : Entry) → Stands s a r q pages fields disk → FitsEntry e
      → e.lsn ≡ next_lsn a (entry_size e) → lap_at a (next_number a (entry_size e)) < 2 ^ sequence_bits a.pages → (needs_page a (entry_size e) ≡ false) ⊎ (0 < free_pages a)
      → Stands s (appended e a) r q (pages_with e a pages) fields disk
  -- a page is sealed
  pub seal : (s : LogSession) (a : LogAreaOf) (r : Ring) (q : Restarts) (pages : List (List Entry)) (fields : RestartFields) (disk : Disk) → Stands s a r q pages fields disk → Stands s (sealed_area a) r q pages fields disk
  -- a sync went well: written pages are durable, and those before the oldest place that a restart page names are free
  pub synced : (s : LogSession) (a : LogAreaOf) (r : Ring) (q : Restarts) (pages : List (List Entry)) (fields : RestartFields) (disk : Disk) → Stands s a r q pages fields disk
      → Stands s (synced_area a) (record r { oldest = freed_to a; synced = r.done; places = synced_places r.places }) (restart_synced q) (drop (freed_to a - a.oldest) pages) fields (settled disk)
  -- what is done elsewhere leaves all
  pub elsewhere : (s : LogSession) (a : LogAreaOf) (r : Ring) (q : Restarts) (pages : List (List Entry)) (fields : RestartFields) (disk now : Disk) → Stands s a r q pages fields disk
      → AreAlike s.place 0 s.place.pages disk now → Stands s a r q pages fields now
  -- the LSN of the front of a page is that of the session's page with this number, and says the number
  pub numbers : (s : LogSession) (a : LogAreaOf) (r : Ring) (q : Restarts) (pages : List (List Entry)) (fields : RestartFields) (disk : Disk) → Stands s a r q pages fields disk → (n : ℕ)
      → (number_lsn a n 0x40 ≡ lsn_of_page s n) × (number_of a (number_lsn a n 0x40) ≡ n)
  -- the LSN of the front of a page may be named the oldest place, from the oldest one up to the end of the durable ones
  pub front : (s : LogSession) (a : LogAreaOf) (r : Ring) (q : Restarts) (pages : List (List Entry)) (fields : RestartFields) (disk : Disk) → Stands s a r q pages fields disk → (n : ℕ) → a.oldest ≤ n → n ≤ a.synced
      → IsOldest a (number_lsn a n 0x40)
  -- of whatever a crash leaves recovery reads a front of the pages, with all that are durable and none that wasn't sent, and chooses the last durable restart page, or
  -- the next one, once that was sent
  pub crash : (s : LogSession) (a : LogAreaOf) (r : Ring) (q : Restarts) (pages : List (List Entry)) (fields : RestartFields) (disk : Disk) → Stands s a r q pages fields disk → (count : ℕ) (image : List (List ℕ)) → MayLeave count disk image
      → ReadsFront s r pages (sector_of image) × ChoosesRestart s.place q fields (sector_of image)
