-- The log of a store on a disk: what a crash leaves of it is an image that the store may leave, and what each event makes of it.
use Rattle.std.specs.Prelude.{◌≡◌, ◌⊎◌, ℕ, suc, ◌+◌, ◌-◌, ◌<◌, ◌≤◌, max, Bool, true, false, List, [], length, get_or, take, drop, Option, Some, None}
use Rattle.store_model.specs.log_model.declared.entry.Entry.{Entry}
use Rattle.log_reading.specs.log_page.declared.restart.Restart.{Restart}
use Rattle.log_reading.specs.log_page.CheckWords.{IsCheckWord}
use Rattle.log_reading.specs.log_page.LiveLogs.{live_log}
use Rattle.log_reading.specs.log_page.PageSpellings.{MakePage}
use Rattle.log_reading.specs.log_page.Restarts.{FitsRestart}
use Rattle.log_reading.specs.log_page.RestartLaws.{HasRanges}
use Rattle.log_reading.specs.Fronts.{chosen_in}
use Rattle.store_model.specs.sector_device.Disks.{Disk, seen, settled, IsBetween}
use Rattle.store_model.specs.Geometry.{SectorBytes, CanLeave}
use Rattle.store_model.specs.Stores.{Store, Image, MayLeave, list_of}
use Rattle.store_model.specs.Rings.{PagePlaces, Ring, Restarts, IsKept, entries_on, synced_places, restart_place}
use Rattle.ring_laws.specs.Numbers.{LogSession, place_of_page, lap_of_page, lsn_of_page}
use Rattle.ring_laws.specs.PageBytes.{raw_page, AreAlike}
use Rattle.ring_laws.specs.RingPages.{HoldsRing, entries_of_page, page_written, page_sent, fixed_to}
use Rattle.ring_laws.specs.RestartPages.{RestartFields, IsBelow, HoldsRestarts, with_next, restart_written, restart_sent, restart_synced}
use Rattle.ring_laws.specs.Laws.{page_put, restart_put}

-- The last durable restart page names the ring's oldest page, and the next one, once that was begun, the noted one.
pub record NamesPages (s : LogSession) (r : Ring) (q : Restarts) (noted : ℕ) (fields : RestartFields) : Type 0 where
  pub sure : Restart
  pub sure_is : fields q.sure ≡ Some sure
  pub oldest : sure.oldest ≡ lsn_of_page s r.oldest
  pub next : (f : Restart) → q.begun ≡ true → fields (suc q.sure) ≡ Some f → f.oldest ≡ lsn_of_page s noted

-- so many entries stand on the pages before this one
abbrev pub entries_to : Ring → List (List Entry) → ℕ → ℕ
entries_to r pages n = length (entries_on (take (n - r.oldest) pages))

-- the log of a session: its ring and its restart pages, by numbers, with what stands on them
pub record LogNumbers : Type 0 where
  pub ring : Ring
  pub check : Option ℕ  -- the word of the page that is written next, once it was begun
  pub pages : List (List Entry)
  pub restarts : Restarts
  pub word : Option ℕ  -- the word of the next restart page, once that was begun
  pub fields : RestartFields
  pub noted : ℕ  -- the page that a checkpoint noted

-- The disk holds the log of a store.
pub record HoldsLog (s : LogSession) (l : LogNumbers) (store : Store) (disk : Disk) : Type 0 where
  pub kept : IsKept (place_of_page s) l.ring l.restarts l.noted l.pages store
  pub ring : HoldsRing s l.ring l.check l.pages disk
  pub restarts : HoldsRestarts s.place l.restarts l.word l.fields disk
  pub names : NamesPages s l.ring l.restarts l.noted l.fields
  pub done : store.done ≡ entries_to l.ring l.pages l.ring.done
  pub replaced : store.replaced ≡ l.restarts.done
  -- a checkpoint noted the place before a page
  pub low : store.begun ≡ true → l.ring.oldest ≤ l.noted
  pub place : store.begun ≡ true → store.place ≡ entries_to l.ring l.pages l.noted
  pub renamed : store.renamed ≡ true → store.begun ≡ true

-- The restart page that recovery chooses is the last durable one, or the next one, once that was begun; by that one the list is empty where no page stands
-- from the noted one on.
abbrev pub IsOfLog : LogNumbers → Restart → List Entry → Type 0
IsOfLog l restart list =
    (l.fields l.restarts.sure ≡ Some restart)
    ⊎ ((l.restarts.begun ≡ true) × (l.fields (suc l.restarts.sure) ≡ Some restart) × (l.ring.oldest + length l.pages ≤ l.noted → list ≡ []))

-- A crash left this of the log. With sectors that the store's disk may leave it is an image of the store: recovery chooses a restart page, and from its oldest
-- place on it reads the image's list, and no entry of another shape.
pub record LogIsLeft (s : LogSession) (l : LogNumbers) (store : Store) (image sectors : SectorBytes) : Type 0 where
  pub left : Image
  pub sectors_are : left.sectors ≡ sectors
  pub may : MayLeave store left
  pub restart : Restart
  pub chosen : chosen_in (raw_page s.place image 0) (raw_page s.place image 1) ≡ Some restart
  pub of_log : IsOfLog l restart (list_of store left)
  pub reads : live_log s.place.pages (raw_page s.place image) restart.oldest ≡ record { entries = list_of store left; foreign = None }

-- what a crash leaves of a log that the disk holds is an image of its store
abbrev pub LogsAreLeft : Type 0
LogsAreLeft = (s : LogSession) (l : LogNumbers) (store : Store) (disk : Disk) → HoldsLog s l store disk → (image : SectorBytes) → CanLeave disk image → (sectors : SectorBytes) → CanLeave store.disk sectors
    → LogIsLeft s l store image sectors

-- ---- events

-- what a store has of its log after an event
pub record LogBecomes (after : Store) (log : List Entry) (synced done sent place : ℕ) (begun renamed replaced : Bool) : Type 0 where
  pub log_is : after.log ≡ log
  pub synced_is : after.synced ≡ synced
  pub done_is : after.done ≡ done
  pub sent_is : after.sent ≡ sent
  pub place_is : after.place ≡ place
  pub begun_is : after.begun ≡ begun
  pub renamed_is : after.renamed ≡ renamed
  pub replaced_is : after.replaced ≡ replaced

-- it has the same log
abbrev pub KeepsLog : Store → Store → Type 0
KeepsLog store after = LogBecomes after store.log store.synced store.done store.sent store.place store.begun store.renamed store.replaced

-- the pages before this one stay as they are: those that were written or begun, and those before the noted one
abbrev pub stays_to : LogNumbers → Bool → ℕ
stays_to l true = max (fixed_to l.ring l.check) l.noted
stays_to l false = fixed_to l.ring l.check

-- Each event of the log leaves a log of the store that the disk holds.
pub record LogsFollow : Type 0 where
  -- a store begins with no entries, where the last durable restart page names the ring's oldest page and no other one was begun
  pub start : (s : LogSession) (r : Ring) (check : Option ℕ) (q : Restarts) (word : Option ℕ) (fields : RestartFields) (noted place : ℕ) (store : Store) (disk : Disk) (own : Restart)
      → HoldsRing s r check [] disk → HoldsRestarts s.place q word fields disk → q.begun ≡ false → fields q.sure ≡ Some own → own.oldest ≡ lsn_of_page s r.oldest → LogBecomes store [] 0 0 0 place false false false
      → HoldsLog s (record { ring = r; check = check; pages = []; restarts = q; word = word; fields = fields; noted = noted }) store disk
  -- what is done elsewhere
  pub elsewhere : (s : LogSession) (l : LogNumbers) (store after : Store) (disk now : Disk) → HoldsLog s l store disk → KeepsLog store after → AreAlike s.place 0 s.place.pages disk now → HoldsLog s l after now
  -- entries are appended
  pub appended : (s : LogSession) (l : LogNumbers) (store after : Store) (disk : Disk) (more : List (List Entry)) → HoldsLog s l store disk
      → LogBecomes after (entries_on more) store.synced store.done store.sent store.place store.begun store.renamed store.replaced
      → ((k : ℕ) → k < stays_to l store.begun - l.ring.oldest → get_or more k [] ≡ get_or l.pages k []) → HoldsLog s (record l { pages = more }) after disk
  -- a page is begun; its write answers Ok, or fails
  pub page_begun : (s : LogSession) (l : LogNumbers) (store : Store) (disk : Disk) (word : ℕ) → HoldsLog s l store disk → l.check ≡ None → l.ring.done < l.ring.oldest + l.ring.size
      → MakePage s.place.pages (lap_of_page s l.ring.done) (place_of_page s l.ring.done) (entries_of_page l.ring l.pages l.ring.done)
      → IsCheckWord (raw_page s.place (seen disk) (place_of_page s l.ring.done)) word → HoldsLog s (record l { check = Some word }) store disk
  pub page_is_written : (s : LogSession) (l : LogNumbers) (store after : Store) (disk : Disk) (word : ℕ) → HoldsLog s l store disk → l.check ≡ Some word
      → (let m = entries_to l.ring l.pages (suc l.ring.done) in LogBecomes after store.log store.synced m (max store.sent m) store.place store.begun store.renamed store.replaced)
      → (places : PagePlaces) × HoldsLog s (record l { ring = page_written l.ring places; check = None }) after (page_put s l.ring l.pages word disk)
  pub page_fails : (s : LogSession) (l : LogNumbers) (store after : Store) (disk now : Disk) (word : ℕ) → HoldsLog s l store disk → l.check ≡ Some word → IsBetween disk (page_put s l.ring l.pages word disk) now
      → LogBecomes after store.log store.synced store.done (max store.sent (entries_to l.ring l.pages (suc l.ring.done))) store.place store.begun store.renamed store.replaced
      → (places : PagePlaces) × HoldsLog s (record l { ring = page_sent l.ring places }) after now
  -- those entries are some of the log's
  pub page_within : (s : LogSession) (l : LogNumbers) (store : Store) (disk : Disk) → HoldsLog s l store disk
      → (let m = entries_to l.ring l.pages (suc l.ring.done) in (store.done ≤ m) × (m ≤ length store.log))
  -- a sync, and one after the restart page was written, which frees the ring
  pub synced : (s : LogSession) (l : LogNumbers) (store after : Store) (disk : Disk) → HoldsLog s l store disk → store.replaced ≡ false
      → LogBecomes after store.log store.done store.done store.sent store.place store.begun store.renamed store.replaced
      → HoldsLog s (record l { ring = record l.ring { synced = l.ring.done; places = synced_places l.ring.places }; restarts = restart_synced l.restarts }) after (settled disk)
  pub freed : (s : LogSession) (l : LogNumbers) (store after : Store) (disk : Disk) → HoldsLog s l store disk → store.replaced ≡ true
      → LogBecomes after (drop store.place store.log) (store.done - store.place) (store.done - store.place) (store.sent - store.place) store.place false false false
      → HoldsLog s
      (record l {
        ring = record l.ring { oldest = l.noted; synced = l.ring.done; places = synced_places l.ring.places };
        pages = drop (l.noted - l.ring.oldest) l.pages;
        restarts = restart_synced l.restarts;
      }) after (settled disk)
  -- a checkpoint begins, where each page of the log is sealed
  pub checkpoint : (s : LogSession) (l : LogNumbers) (store after : Store) (disk : Disk) → HoldsLog s l store disk → store.begun ≡ false
      → LogBecomes after store.log store.synced store.done store.sent (length store.log) true false store.replaced
      → HoldsLog s (record l { noted = l.ring.oldest + length l.pages }) after disk
  -- the next restart page is begun; its write answers Ok, or fails
  pub restart_begun : (s : LogSession) (l : LogNumbers) (store : Store) (disk : Disk) (next : Restart) (word : ℕ) → HoldsLog s l store disk → l.word ≡ None → store.replaced ≡ false → FitsRestart next → HasRanges next
      → IsBelow (l.fields l.restarts.sure) (Some next) → next.oldest ≡ lsn_of_page s l.noted → IsCheckWord (raw_page s.place (seen disk) (restart_place (suc l.restarts.sure))) word
      → HoldsLog s (record l { word = Some word; fields = with_next l.restarts next l.fields }) store disk
  pub restart_is_written : (s : LogSession) (l : LogNumbers) (store after : Store) (disk : Disk) (next : Restart) (word : ℕ) → HoldsLog s l store disk → l.word ≡ Some word → l.fields (suc l.restarts.sure) ≡ Some next
      → next.oldest ≡ lsn_of_page s l.noted → store.begun ≡ true → l.noted ≤ l.ring.synced → LogBecomes after store.log store.synced store.done store.sent store.place store.begun true true
      → (places : PagePlaces) × HoldsLog s (record l { restarts = restart_written l.restarts places; word = None }) after (restart_put s.place l.restarts next word disk)
  pub restart_fails : (s : LogSession) (l : LogNumbers) (store after : Store) (disk now : Disk) (next : Restart) (word : ℕ) → HoldsLog s l store disk → l.word ≡ Some word → l.fields (suc l.restarts.sure) ≡ Some next
      → next.oldest ≡ lsn_of_page s l.noted → store.begun ≡ true → l.noted ≤ l.ring.synced → IsBetween disk (restart_put s.place l.restarts next word disk) now
      → LogBecomes after store.log store.synced store.done store.sent store.place store.begun true store.replaced
      → (places : PagePlaces) × HoldsLog s (record l { restarts = restart_sent l.restarts places }) after now
