-- The laws of a store's calls.
use Rattle.std.specs.Prelude.{Bool, ◌≡◌, ℕ, ◌+◌, ◌-◌, ◌*◌, ◌/◌, ◌^◌, ◌<◌, ◌≤◌, true, false, List, [], length, Option, Some, None, Result, Ok, Err, IfSome, is_some, unwrap_or}
use Rattle.host_base.specs.declared.outside.Failed.{Failed}
use Rattle.area_laws.specs.disk_model.declared.block.Block.{Block}
use Rattle.area_laws.specs.disk_model.declared.block.Body.{Body}
use Rattle.area_laws.specs.disk_model.Bytes.{written}
use Rattle.area_laws.specs.disk_model.Sectors.{sector_of, sectors, are_rivals}
use Rattle.area_laws.specs.disk_model.Content.{content_of}
use Rattle.area_laws.specs.fixup_record.Spellings.{has_spelling, spelled}
use Rattle.area_laws.specs.sector_device.Disks.{Disk, IsSettled, IsSized, SeesDisk, is_within, seen}
use Rattle.area_laws.specs.sector_device.Sectors.{sectors_of}
use Rattle.area_laws.specs.sector_device.Moments.{Changes, Syncs, MayLeaveNow}
use Rattle.area_laws.specs.log_model.declared.entry.Act.TheVariants.{Commit}
use Rattle.area_laws.specs.log_area.Calls.{IsAsked, Sends}
use Rattle.store_claims.specs.store_model.Volumes.{is_known, sectors_from}
use Rattle.store_claims.specs.Windows.{StoreWindow}
use Rattle.area_laws.specs.log_page.declared.places.LogPlace.{LogPlace}
use Rattle.area_laws.specs.log_page.declared.restart.Restart.{Restart}
use Rattle.area_laws.specs.log_area.Areas.{LogAreaOf, lap_at, next_number, number_lsn, new_area, named_area, synced_area, IsOldest}
use Rattle.store_claims.specs.store_model.Stores.{Store}
use Rattle.store_claims.specs.store_model.Events.{MayRename}
use Rattle.store_claims.specs.store_model.Rings.{Ring, Restarts}
use Rattle.area_laws.specs.ring_laws.Numbers.{lsn_of_page, IsInRing}
use Rattle.area_laws.specs.ring_laws.PageBytes.{raw_page}
use Rattle.area_laws.specs.log_page.Places.{lap_of, sequence_bits}
use Rattle.area_laws.specs.log_page.LiveLogs.{said_lsn}
use Rattle.area_laws.specs.log_page.Restarts.{is_clean, FitsRestart}
use Rattle.area_laws.specs.ring_laws.RestartPages.{RestartFields}
use Rattle.area_laws.specs.Standing.{Stands}
use Rattle.txn_model.specs.flush_policy.declared.facts.Facts.{Facts}
use Rattle.txn_model.specs.flush_policy.declared.facts.StoreStep.{StoreStep}
use Rattle.txn_model.specs.flush_policy.Choice.{next_step}
use Rattle.txn_model.specs.flush_policy.Steps.{CanBe}
use Rattle.txn_model.specs.Calls.{front_lsn, MayNameNoted, named_facts, naming_facts}
use Rattle.txn_model.specs.Told.{pages_end, FactsTold, AreDirty, KeepsMarked, KeepsSteps, MayTakeStep}
use Rattle.txn_laws.specs.Standing.{StandsBehindAs}
use Rattle.area_laws.specs.Laws.{SendsNext, SendsRestart, MayName}
use Rattle.txn_model.specs.Values.{StoreFacts, own_of}
use Rattle.txn_model.specs.Pieces.{next_entry}
use Rattle.txn_model.specs.Calls.{first_facts, begun_facts, committed_facts, given_up_facts, change_acts, changed_facts, sealed_facts, noted_facts, written_facts, sent_facts, is_buried, synced_facts, is_ready, written_out_facts, sent_out_facts, again_facts}
use Rattle.txn_model.specs.Appending.{MayAppend, MayAppendAll}
use Rattle.txn_laws.specs.Windows.{HasMachineAs, HasWindowAs, HasMachine, HasWindow, HasEndingMachine, HasEndingWindow, HasStart, IsShown, RecoversWithin, lap_behind, next_lap_in, SimulatesAs, Simulates, AfterBegin, AfterChange, AfterCommit, AfterGiveUp, AfterWrite, MovesTo}

-- What a window says, of a store that ends or that goes on.
pub record WindowsTellAs (ends : Bool) : Type 0 where
  -- at a return: whatever a crash may leave recovers to a content of the window
  pub at_return : (count : ℕ) (changes : Changes) (f : StoreFacts) (w : StoreWindow) (image : List (List ℕ)) → HasWindowAs ends changes f w → MayLeaveNow count changes image → RecoversWithin f.place (own_of f) w (sector_of image)
  -- and says no lap above that of the page that is filled
  pub laps : (count : ℕ) (changes : Changes) (f : StoreFacts) (w : StoreWindow) (image : List (List ℕ)) → HasWindowAs ends changes f w → MayLeaveNow count changes image
      → (k lsn : ℕ) → IsInRing f.place k → said_lsn (raw_page f.place (sector_of image) k) ≡ Some lsn → lap_of f.place.pages lsn ≤ lap_at f.log f.log.sealed
  -- and a mount of it begins at most one lap above that of the place where the least entry would go next
  pub next_lap : (count : ℕ) (changes : Changes) (f : StoreFacts) (w : StoreWindow) (image : List (List ℕ)) → HasWindowAs ends changes f w → MayLeaveNow count changes image
      → next_lap_in f.place (sector_of image) ≤ lap_behind f
  -- the present body of a known block is the one that is kept, or what a read gives
  pub present : (changes : Changes) (f : StoreFacts) (w : StoreWindow) (gives : Option (List (List ℕ))) → HasWindowAs ends changes f w → SeesDisk gives changes.disk → (b : Block) → is_known (own_of f) b ≡ true
      → IfSome gives (λ disk. IsShown w b (unwrap_or (f.body b) (content_of (sector_of disk) b)))
  -- as many commits wait as aren't known durable
  pub waiting : (changes : Changes) (f : StoreFacts) (w : StoreWindow) → HasWindowAs ends changes f w → f.durable + w.waiting ≡ f.commits
  pub is_open : (changes : Changes) (f : StoreFacts) (w : StoreWindow) → HasWindowAs ends changes f w → w.is_open ≡ f.is_open
  -- and a machine stands behind the store
  pub machine : (changes : Changes) (f : StoreFacts) (w : StoreWindow) → HasWindowAs ends changes f w → HasMachineAs ends changes f

-- what the window of a store says that goes on
abbrev pub WindowsTell : Type 0
WindowsTell = WindowsTellAs false

-- A window of a store that goes on is one of a store that ends, and so is its machine; and each window of that says as much.
pub record EndingsTell : Type 0 where
  pub window : (changes : Changes) (f : StoreFacts) (w : StoreWindow) → HasWindow changes f w → HasEndingWindow changes f w
  pub machine : (changes : Changes) (f : StoreFacts) → HasMachine changes f → HasEndingMachine changes f
  pub tell : WindowsTellAs true

-- A store begins on a settled device whose log stands without entries, where the last durable restart page is of this host, names the ring's oldest page and doesn't say that the log is closed, and no other one was begun or sent.
pub record StoresStart : Type 0 where
  pub start : (changes : Changes) (place : LogPlace) (log : LogAreaOf) (found : List Block) (lap : ℕ) (r : Ring) (q : Restarts) (fields : RestartFields) (disk : Disk) (own : Restart) → changes.disk ≡ Some disk
      → Stands (record { place = place; lap = lap }) log r q [] fields disk → q.begun ≡ false → fields q.sure ≡ Some own → own.oldest ≡ lsn_of_page (record { place = place; lap = lap }) r.oldest → FitsRestart own → is_clean own ≡ false → log.sent ≡ None
      → IsSettled disk → IsSized disk → HasStart changes (first_facts place log found) (content_of (seen disk))

-- The open transaction may change the block in this way, where this is its present body: the block begins in the volume, the bytes fit, the body after them has a spelling, no rival of the
-- block was changed by the transaction, and the log has room.
pub record MayChangeBlock (f : StoreFacts) (c : Block) (at : ℕ) (new : List ℕ) (present : Body) : Type 0 where
  pub opened : f.is_open ≡ true
  pub known : is_known (own_of f) c ≡ true
  pub volume : c.first / 8 < f.place.clusters
  pub some : 0 < length new
  pub fits : at + length new ≤ 512 * sectors c.kind
  pub spelled : has_spelling c.kind (written at new present.bytes) ≡ true
  pub alone : (x : Block) → are_rivals c x ≡ true → f.before x ≡ None
  pub room : MayAppendAll f.log f.tx f.last (change_acts f c at new present)

-- Calls in memory.
pub record MemoryCalls : Type 0 where
  pub begin : (count moment : ℕ) (changes : Changes) (f : StoreFacts) → f.is_open ≡ false → Simulates count moment changes changes f (begun_facts f) AfterBegin
  -- the present body is the one that is kept, or what a read gives
  pub change : (count moment : ℕ) (changes : Changes) (f : StoreFacts) (c : Block) (at : ℕ) (new : List ℕ) (present : Body) (gives : Option (List (List ℕ))) → MayChangeBlock f c at new present
      → SeesDisk gives changes.disk → IfSome gives (λ disk. unwrap_or (f.body c) (content_of (sector_of disk) c) ≡ present)
      → Simulates count moment changes changes f (changed_facts c at new present f) (AfterChange c at new)
  pub commit : (count moment : ℕ) (changes : Changes) (f : StoreFacts) → f.is_open ≡ true → MayAppend f.log (next_entry f.log f.tx f.last Commit)
      → Simulates count moment changes changes f (committed_facts f) AfterCommit
  pub give_up : (count moment : ℕ) (changes : Changes) (f : StoreFacts) → f.is_open ≡ true → Simulates count moment changes changes f (given_up_facts f) AfterGiveUp
  pub seal : (count moment : ℕ) (changes : Changes) (f : StoreFacts) → Simulates count moment changes changes f (sealed_facts f) AfterWrite
  -- a checkpoint begins
  pub note : (count moment : ℕ) (changes : Changes) (f : StoreFacts) → f.is_open ≡ false → f.noted ≡ None → Simulates count moment changes changes f (noted_facts f) AfterWrite
  -- a device was read, in however many calls, and then a call was made in memory or of the device
  pub read_before : (count early late : ℕ) (old mid now : Changes) (f g : StoreFacts) (c : Block) (at : ℕ) (new : List ℕ) → early ≤ late → Simulates count early old mid f f AfterWrite
      → Simulates count late mid now f g (AfterChange c at new) → Simulates count early old now f g (AfterChange c at new)

-- the first LSN of a session, whose log is new
abbrev pub first_lsn : LogPlace → ℕ → ℕ → ℕ → ℕ
first_lsn place lap restart opens = number_lsn (new_area place lap restart opens) 0 0x40

-- its ring once its first restart page was written, which names this place, and synced
abbrev pub opened_area : LogPlace → ℕ → ℕ → ℕ → LogAreaOf
opened_area place lap restart opens = synced_area (named_area (first_lsn place lap restart opens) (new_area place lap restart opens))

-- The disk of the device is known, and the store that begins on it has a window, whose present content is what is seen of the disk.
pub record StartsOn {D : Type 0} (changes : D → Changes) (place : LogPlace) (log : LogAreaOf) (found : List Block) (device : D) : Type 0 where
  pub disk : Disk
  pub known : (changes device).disk ≡ Some disk
  pub start : HasStart (changes device) (first_facts place log found) (content_of (seen disk))

-- a sync of a device
abbrev pub SyncsNow : {D : Type 0} → (D → Changes) → (D → ℕ) → Result (Unit {0}) Failed → D → D → Type 0
SyncsNow changes moment result old new = Syncs (moment old) result (changes old) (changes new)

-- a body is sent to its block, in a call that begins at this moment
abbrev pub SendsBody : {D : Type 0} → (D → Option (List (List ℕ))) → (D → Changes) → (D → ℕ) → ℕ → Block → List ℕ → ℕ → Result (Unit {0}) Failed → D → D → Type 0
SendsBody gives changes moment begun b bytes check result old new = Sends gives changes moment begun b.first (spelled b.kind check bytes) result old new

-- the bytes of the block's sectors are sent to them
abbrev pub SendsAgain : {D : Type 0} → (D → Option (List (List ℕ))) → (D → Changes) → (D → ℕ) → ℕ → Block → List ℕ → Result (Unit {0}) Failed → D → D → Type 0
SendsAgain gives changes moment begun b bytes result old new = Sends gives changes moment begun b.first bytes result old new

-- A body without a spelling that a give-up brought back, over sectors that have these bytes.
pub record StandsThere (gives : Option (List (List ℕ))) (f : StoreFacts) (b : Block) (x : Body) (bytes : List ℕ) : Type 0 where
  pub kept : f.body b ≡ Some x
  pub dirty : (f.mark b).dirty ≡ true
  pub free : is_some (f.before b) ≡ false
  pub bare : has_spelling b.kind x.bytes ≡ false
  pub size : length bytes ≡ 512 * sectors b.kind
  pub same : (n : ℕ) → is_within b.first (sectors b.kind) n ≡ true → IfSome gives (λ d. sectors_from b.first (sectors_of bytes) n ≡ sector_of d n)

-- Calls of a device, of which these are the words of its contract.
pub record DeviceSteps {D : Type 0} (gives : D → Option (List (List ℕ))) (changes : D → Changes) (moment : D → ℕ) : Type 0 where
  -- a session is opened on a log of which its ring stands: a restart page that names its first page was written, which doesn't say that the log is closed, and synced
  pub open_log : (place : LogPlace) (found : List Block) (lap restart opens : ℕ) (r : Ring) (q : Restarts) (fields : RestartFields) (disk : Disk) (word : ℕ) (old mid new : D) → (changes old).disk ≡ Some disk
      → SeesDisk (gives old) (changes old).disk → IfSome (changes new).disk IsSized → Stands (record { place = place; lap = lap }) (new_area place lap restart opens) r q [] fields disk
      → MayName (new_area place lap restart opens) q fields (first_lsn place lap restart opens) false → SendsRestart gives changes moment (new_area place lap restart opens) (first_lsn place lap restart opens) false word (Ok tt) old mid
      → SyncsNow changes moment (Ok tt) mid new → StartsOn changes place (opened_area place lap restart opens) found new
  -- what reads alone leaves the window, also of a store that ends
  pub read : (ends : Bool) (count : ℕ) (f : StoreFacts) (old new : D) → IsAsked gives changes moment old new → SimulatesAs ends count (moment old) (changes old) (changes new) f f AfterWrite
  -- a page of the log was written; it was sent in a write that failed
  pub page : (count : ℕ) (f : StoreFacts) (word : ℕ) (old new : D) → SeesDisk (gives old) (changes old).disk → IfSome (changes new).disk IsSized → f.log.done < f.log.sealed
      → SendsNext gives changes moment f.log word (Ok tt) old new → Simulates count (moment old) (changes old) (changes new) f (written_facts f) AfterWrite
  pub page_fails : (count : ℕ) (f : StoreFacts) (word : ℕ) (old new : D) → SeesDisk (gives old) (changes old).disk → IfSome (changes new).disk IsSized → f.log.done < f.log.sealed
      → (fault : Failed) → SendsNext gives changes moment f.log word (Err fault) old new → Simulates count (moment old) (changes old) (changes new) f (sent_facts word f) AfterWrite
  -- a sync where no restart page was written: dead bodies leave whose killers it made durable; and a sync that failed; also of a store that ends
  pub sync : (ends : Bool) (count : ℕ) (f : StoreFacts) (old new : D) → IfSome (changes new).disk IsSized → f.log.named ≡ None → SyncsNow changes moment (Ok tt) old new
      → SimulatesAs ends count (moment old) (changes old) (changes new) f (synced_facts f) (MovesTo (λ b. is_buried f.log.done (f.mark b)))
  pub sync_fails : (ends : Bool) (count : ℕ) (f : StoreFacts) (old new : D) (fault : Failed) → SyncsNow changes moment (Err fault) old new → SimulatesAs ends count (moment old) (changes old) (changes new) f f AfterWrite
  -- a block was written out
  pub write_out : (count begun check : ℕ) (f : StoreFacts) (b : Block) (x : Body) (old new : D) → f.body b ≡ Some x → is_ready f b ≡ true → has_spelling b.kind x.bytes ≡ true → check < 2 ^ 16
      → IfSome (changes new).disk IsSized → moment old ≤ begun → SendsBody gives changes moment begun b x.bytes check (Ok tt) old new
      → Simulates count (moment old) (changes old) (changes new) f (written_out_facts b f) (MovesTo (are_rivals b))
  -- its write failed: it may have reached any of its sectors, and stays dirty
  pub write_out_fails : (count begun check : ℕ) (f : StoreFacts) (b : Block) (x : Body) (old new : D) → f.body b ≡ Some x → is_ready f b ≡ true → has_spelling b.kind x.bytes ≡ true
      → IfSome (changes new).disk IsSized → moment old ≤ begun → (fault : Failed) → SendsBody gives changes moment begun b x.bytes check (Err fault) old new
      → Simulates count (moment old) (changes old) (changes new) f (sent_out_facts b f) (MovesTo (are_rivals b))
  -- a body without a spelling: its sectors were written as they stand, in a write that answered Ok, or failed
  pub again : (count begun : ℕ) (f : StoreFacts) (b : Block) (x : Body) (bytes : List ℕ) (old new : D) → StandsThere (gives old) f b x bytes → SeesDisk (gives old) (changes old).disk → IfSome (changes new).disk IsSized
      → moment old ≤ begun → SendsAgain gives changes moment begun b bytes (Ok tt) old new → Simulates count (moment old) (changes old) (changes new) f (again_facts b f) AfterWrite
  pub again_fails : (count begun : ℕ) (f : StoreFacts) (b : Block) (x : Body) (bytes : List ℕ) (old new : D) → StandsThere (gives old) f b x bytes → SeesDisk (gives old) (changes old).disk → IfSome (changes new).disk IsSized
      → moment old ≤ begun → (fault : Failed) → SendsAgain gives changes moment begun b bytes (Err fault) old new → Simulates count (moment old) (changes old) (changes new) f f AfterWrite

-- The checkpoint that noted this page may end by a restart page, which can be made: one that was sent already names the same page, there is a lap for the
-- least entry, and the open count isn't at its type's end.
pub record MayEndCheckpoint (f : StoreFacts) (page : ℕ) : Type 0 where
  pub may : MayNameNoted f page
  pub again : IfSome f.log.sent (λ x. x.page.oldest ≡ front_lsn f.log page)
  pub lap : lap_at f.log (next_number f.log 0x58) < 2 ^ sequence_bits f.log.pages
  pub opens : f.log.opens < 2 ^ 32 - 1

-- The restart page says that the log is closed only where the store ends, and no page of entries stands from the named one on: behind such a page recovery reads none.
abbrev pub MayClose : (ends : Bool) → StoreFacts → (page : ℕ) → (clean : Bool) → Type 0
MayClose ends f page clean = clean ≡ true → (ends ≡ true) × (pages_end f ≤ page)

-- the restart page that names this page of the log is sent to its place
abbrev pub SendsNaming : {D : Type 0} → (D → Option (List (List ℕ))) → (D → Changes) → (D → ℕ) → LogAreaOf → ℕ → Bool → ℕ → Result (Unit {0}) Failed → D → D → Type 0
SendsNaming gives changes moment log page clean word result old new = SendsRestart gives changes moment log (front_lsn log page) clean word result old new

-- The end of a checkpoint, by calls of a device of which these are the words of its contract; also of the last one of a store that ends.
pub record CheckpointSteps {D : Type 0} (gives : D → Option (List (List ℕ))) (changes : D → Changes) (moment : D → ℕ) : Type 0 where
  -- the machine may write its restart page, and the log may name the noted page
  pub renames : (ends : Bool) (f : StoreFacts) (page : ℕ) (disk : Disk) (m : Store) → StandsBehindAs ends f disk m → MayNameNoted f page → MayRename m
  pub front : (ends : Bool) (f : StoreFacts) (page : ℕ) (disk : Disk) (m : Store) → StandsBehindAs ends f disk m → MayNameNoted f page → IsOldest f.log (front_lsn f.log page)
  -- a restart page was written that names it; it was sent in a write that failed
  pub name : (ends : Bool) (count page word : ℕ) (clean : Bool) (f : StoreFacts) (old new : D) → SeesDisk (gives old) (changes old).disk → IfSome (changes new).disk IsSized → MayEndCheckpoint f page → MayClose ends f page clean
      → SendsNaming gives changes moment f.log page clean word (Ok tt) old new → SimulatesAs ends count (moment old) (changes old) (changes new) f (named_facts page f) AfterWrite
  pub name_fails : (ends : Bool) (count page word : ℕ) (clean : Bool) (f : StoreFacts) (old new : D) → SeesDisk (gives old) (changes old).disk → IfSome (changes new).disk IsSized → MayEndCheckpoint f page → MayClose ends f page clean
      → (fault : Failed) → SendsNaming gives changes moment f.log page clean word (Err fault) old new → SimulatesAs ends count (moment old) (changes old) (changes new) f (naming_facts page clean word f) AfterWrite
  -- a sync: where a restart page was written it frees the ring up to the page that this names, and the checkpoint has ended; dead bodies leave as at each sync
  pub sync : (ends : Bool) (count : ℕ) (f : StoreFacts) (old new : D) → IfSome (changes new).disk IsSized → SyncsNow changes moment (Ok tt) old new
      → SimulatesAs ends count (moment old) (changes old) (changes new) f (synced_facts f) (MovesTo (λ b. is_buried f.log.done (f.mark b)))

-- The next step by what a store tells may be taken, where no transaction is open.
abbrev pub NextStepsMayBeTaken : Type 0
NextStepsMayBeTaken = (f : StoreFacts) (told : Facts) (step : StoreStep) → KeepsSteps f → FactsTold f told → f.is_open ≡ false → next_step told ≡ Some step → MayTakeStep f step

-- What a store tells can be, with as many dirty blocks as it has, where no transaction is open. So where there is no next step, nothing is left to do.
abbrev pub ToldCanBe : Type 0
ToldCanBe = (f : StoreFacts) (told : Facts) (dirty : List Block) → KeepsMarked f → FactsTold f told → AreDirty f dirty → f.is_open ≡ false → CanBe (length dirty) told
