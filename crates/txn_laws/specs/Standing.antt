-- What stands behind what a store keeps: the machine, the log on the disk, and what the one says of the other.
use Rattle.std.specs.Prelude.{◌≡◌, ◌≢◌, ◌⊎◌, ℕ, suc, ◌+◌, ◌-◌, ◌*◌, ◌%◌, ◌<◌, ◌≤◌, ◌&&◌, ◌||◌, Bool, true, false, List, [], length, take, drop, get_or, slice_index, Option, Some, is_some, IfSome}
use Rattle.std.specs.List.{AllByRecursion}
use Rattle.area_laws.specs.disk_model.declared.block.Block.{Block}
use Rattle.area_laws.specs.disk_model.declared.block.Body.{Body}
use Rattle.area_laws.specs.disk_model.Sectors.{sectors, are_rivals}
use Rattle.area_laws.specs.sector_device.Disks.{Disk, IsSized}
use Rattle.area_laws.specs.log_model.declared.entry.Entry.{Entry}
use Rattle.area_laws.specs.log_model.Logs.{last_said, is_misplaced}
use Rattle.area_laws.specs.log_page.declared.restart.Restart.{Restart}
use Rattle.area_laws.specs.log_page.Restarts.{is_clean, FitsRestart}
use Rattle.area_laws.specs.log_area.declared.restart.SentRestart.{SentRestart}
use Rattle.area_laws.specs.log_area.Areas.{sent_word}
use Rattle.store_claims.specs.store_model.Logs.{BodyBytes, commits, undone, has_update, ended_with, IsOusted}
use Rattle.store_claims.specs.store_model.Geometry.{Geometry}
use Rattle.store_claims.specs.store_model.Stores.{Window, Store, IsSound}
use Rattle.store_claims.specs.store_model.Rings.{Ring, Restarts, entries_on}
use Rattle.store_claims.specs.store_model.Volumes.{is_known, first_bytes, IsVolume}
use Rattle.area_laws.specs.ring_laws.Numbers.{LogSession, ring_size}
use Rattle.area_laws.specs.ring_laws.RestartPages.{RestartFields}
use Rattle.area_laws.specs.ring_laws.StoreDisks.{disk_without}
use Rattle.area_laws.specs.ring_laws.StoreLogs.{LogNumbers, HoldsLog}
use Rattle.area_laws.specs.Standing.{Stands}
use Rattle.txn_model.specs.declared.mark.Mark.{Mark}
use Rattle.txn_model.specs.Values.{StoreFacts, own_of}

-- the body that a store keeps has these bytes, and is torn at most where that is
pub record HasBytes (b : Block) (those : BodyBytes) (is_torn : Bool) (x : Body) : Type 0 where
  pub bytes : x.bytes ≡ first_bytes (512 * sectors b.kind) those
  pub torn : x.torn ≡ true → is_torn ≡ true

-- What a store keeps of its window: the bodies that aren't the disk's, and those from before the open transaction.
pub record KeepsWindow (f : StoreFacts) (w : Window) : Type 0 where
  pub is_open : w.is_open ≡ f.is_open
  pub tx : w.tx ≡ f.tx
  pub waiting : f.durable + length w.waiting ≡ f.commits
  pub body : (b : Block) → IfSome (f.body b) (HasBytes b (w.body b) (w.is_torn b))
  pub changed : (b : Block) → has_update w.draft b ≡ is_some (f.before b)
  pub before : (b : Block) → IfSome (f.before b) (HasBytes b (undone w.draft w.body b) (w.was_torn 0 b))

-- a mark of the block, or of a rival
abbrev pub IsMarked : (Mark → Bool) → StoreFacts → Block → Type 0
IsMarked test f b = (test (f.mark b) ≡ true) ⊎ ((c : Block) × (are_rivals c b ≡ true) × (test (f.mark c) ≡ true))

-- The marks of a store. A body without a spelling is brought back by a give-up alone, over sectors that have it: so the machine's block is clean.
pub record KeepsMarks (f : StoreFacts) (geometry : Geometry) (m : Store) : Type 0 where
  pub dirty : (b : Block) → m.dirty b ≡ ((f.mark b).dirty && geometry.has_spelling b (m.window.body b))
  pub dead : (b : Block) → m.dead b ≡ ((f.mark b).dead && geometry.has_spelling b (m.window.body b))
  pub kept : (b : Block) → is_some (f.body b) ≡ ((f.mark b).dirty || (f.mark b).dead)
  pub apart : (b : Block) → (f.mark b).dead ≡ true → (f.mark b).dirty ≡ false
  pub lone : (b c : Block) → are_rivals b c ≡ true → (f.mark b).dirty ≡ true → (f.mark c).dirty ≡ false
  pub known : (b : Block) → is_some (f.body b) ≡ true → is_known (own_of f) b ≡ true
  pub changed : (b : Block) → is_some (f.before b) ≡ true → (f.mark b).dirty ≡ true
  pub wet : (b : Block) → m.wet b ≡ true → IsMarked (λ (x : Mark). x.wet) f b
  pub owed : m.begun ≡ true → (b : Block) → m.owed b ≡ true → (f.mark b).owed ≡ true
  pub due : m.begun ≡ true → (b : Block) → m.due b ≡ true → IsMarked (λ (x : Mark). x.due) f b

-- The block stands whole in this list, and no rival's update behind its own last one that wasn't given up.
pub record IsImaged (w : Window) (l : List Entry) (b : Block) : Type 0 where
  pub has : has_update l b ≡ true
  pub last : last_said (ended_with w.tx l) l b ≡ Some false

-- each update of the block stands on these pages before this one, and one of a rival behind it there
pub record IsKilled (pages : List (List Entry)) (oldest killed : ℕ) (b : Block) : Type 0 where
  pub ousted : IsOusted (entries_on (take (killed - oldest) pages)) b
  pub quiet : has_update (entries_on (drop (killed - oldest) pages)) b ≡ false
  pub within : killed ≤ oldest + length pages

-- Of each page that isn't durable its place tells so many commits, and there are all of these with those behind the page.
abbrev pub TellsEnds : LogSession → Ring → List (List Entry) → List ℕ → ℕ → Type 0
TellsEnds s r pages ends total =
    (n : ℕ) → n < length pages → r.synced ≤ r.oldest + n → slice_index ends ((r.oldest + n) % ring_size s) + commits (entries_on (drop (suc n) pages)) ≡ total

-- What a store keeps of its log by pages, of which these are those from the oldest one on.
pub record KeepsPages (s : LogSession) (f : StoreFacts) (r : Ring) (pages : List (List Entry)) (m : Store) : Type 0 where
  pub some : (n : ℕ) → n < length pages → get_or pages n [] ≢ []
  pub imaged : (b : Block) → (f.mark b).imaged ≡ true → IsImaged m.window m.log b × (m.begun ≡ true → IsImaged m.window (drop m.place m.log) b)
  pub until : (b : Block) (n : ℕ) → n < length pages → has_update (get_or pages n []) b ≡ true → r.oldest + suc n ≤ (f.mark b).until
  pub commit : (b : Block) (k : ℕ) → k < length m.window.waiting → has_update (get_or m.window.waiting k []) b ≡ true → f.commits ≤ k + (f.mark b).commit
  pub killed : (b : Block) → m.dead b ≡ true → IsKilled pages r.oldest (f.mark b).killed b
  pub counted : length f.ends ≡ ring_size s
  pub ends : TellsEnds s r pages f.ends f.commits
  pub begun : m.begun ≡ is_some f.noted

-- the session of a store's log, whose first page has this lap
abbrev pub session_of : StoreFacts → ℕ → LogSession
session_of f lap = record { place = f.place; lap = lap }

abbrev pub numbers_of : StoreFacts → Ring → List (List Entry) → Restarts → RestartFields → ℕ → LogNumbers
numbers_of f r pages q fields noted = record { ring = r; check = f.log.check; pages = pages; restarts = q; word = sent_word f.log.sent; fields = fields; noted = noted }

-- the last durable restart page is one of this host, and so is the next one, once that was begun
pub record AreOwnPages (q : Restarts) (fields : RestartFields) : Type 0 where
  pub sure : IfSome (fields q.sure) FitsRestart
  pub next : q.begun ≡ true → IfSome (fields (suc q.sure)) FitsRestart

-- A restart page says that the log is closed only in a store that ends, and where none of the log's pages stands behind the place that it names, of so many there.
abbrev pub ClosesNone : (ends : Bool) → (behind : ℕ) → Restart → Type 0
ClosesNone ends behind page = is_clean page ≡ true → (ends ≡ true) × (behind ≡ 0)

-- So it is of the last durable restart page, behind which all pages stand; and of the next one, once that was begun, and of one that was sent, behind which those from the noted one on do.
pub record CloseNone (ends : Bool) (o : Option SentRestart) (q : Restarts) (fields : RestartFields) (all rest : ℕ) : Type 0 where
  pub sure : IfSome (fields q.sure) (ClosesNone ends all)
  pub next : q.begun ≡ true → IfSome (fields (suc q.sure)) (ClosesNone ends rest)
  pub sent : IfSome o (λ x. ClosesNone ends rest x.page)

-- each update is of bytes of a block that begins in the volume, of so many clusters
abbrev pub ArePlaced : ℕ → List Entry → Type 0
ArePlaced clusters log = AllByRecursion (λ (e : Entry). is_misplaced clusters e.act ≡ false) log

-- A sound machine stands behind a store, on this disk: behind one that ends, or that goes on.
pub record StandsBehindAs (ends : Bool) (f : StoreFacts) (disk : Disk) (m : Store) : Type 0 where
  pub geometry : Geometry
  pub volume : IsVolume (own_of f) geometry
  pub lap : ℕ
  pub ring : Ring
  pub pages : List (List Entry)
  pub restarts : Restarts
  pub fields : RestartFields
  pub noted : ℕ
  pub stands : Stands (session_of f lap) f.log ring restarts pages fields disk
  pub holds : HoldsLog (session_of f lap) (numbers_of f ring pages restarts fields noted) m disk
  pub below : m.begun ≡ true → noted ≤ f.log.sealed
  pub note : IfSome f.noted (λ n. n ≡ noted)
  pub same : m.disk ≡ disk_without (own_of f) disk
  pub sized : IsSized disk
  pub own_pages : AreOwnPages restarts fields
  pub closes : CloseNone ends f.log.sent restarts fields (length pages) (ring.oldest + length pages - noted)
  pub placed : ArePlaced f.place.clusters m.log
  pub sound : IsSound geometry m
  pub window : KeepsWindow f m.window
  pub marks : KeepsMarks f geometry m
  pub by_pages : KeepsPages (session_of f lap) f ring pages m

-- behind a store that goes on: no restart page that a crash may leave says that its log is closed
abbrev pub StandsBehind : StoreFacts → Disk → Store → Type 0
StandsBehind f disk m = StandsBehindAs false f disk m
