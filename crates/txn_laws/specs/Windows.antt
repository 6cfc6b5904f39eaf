-- The window of a store, and what a call does to it.
use Rattle.std.specs.Prelude.{◌≡◌, ◌⊎◌, ℕ, suc, ◌≤◌, max, Bool, true, false, List, [], Some, None}
use Rattle.area_laws.specs.disk_model.declared.block.Block.{Block}
use Rattle.area_laws.specs.disk_model.declared.block.Body.{Body}
use Rattle.area_laws.specs.disk_model.Bytes.{written}
use Rattle.area_laws.specs.disk_model.Sectors.{sector_of, same_block}
use Rattle.area_laws.specs.disk_model.Content.{Content, content_of}
use Rattle.area_laws.specs.fixup_record.Spellings.{has_spelling}
use Rattle.area_laws.specs.sector_device.Disks.{Disk}
use Rattle.area_laws.specs.sector_device.Moments.{Changes, LeftSince}
use Rattle.area_laws.specs.log_model.declared.entry.Entry.{Entry}
use Rattle.area_laws.specs.log_model.Logs.{is_shadowed, is_other, is_written_out, first_misplaced, first_partial}
use Rattle.area_laws.specs.log_page.declared.places.LogPlace.{LogPlace}
use Rattle.area_laws.specs.log_page.declared.restart.Restart.{Restart}
use Rattle.area_laws.specs.log_page.LiveLogs.{live_log, next_lap}
use Rattle.area_laws.specs.log_page.Restarts.{is_clean, FitsRestart}
use Rattle.area_laws.specs.log_area.Areas.{lap_at, next_number}
use Rattle.area_laws.specs.log_reading.Fronts.{chosen_in}
use Rattle.store_claims.specs.store_model.Logs.{has_update}
use Rattle.store_claims.specs.store_model.Geometry.{SectorBytes}
use Rattle.store_claims.specs.store_model.Stores.{Store}
use Rattle.store_claims.specs.store_model.Volumes.{is_known, RecoversToContent}
use Rattle.store_claims.specs.Claims.{ClaimWindow}
use Rattle.store_claims.specs.Windows.{StoreWindow, store_window}
use Rattle.store_claims.specs.Moves.{Keeps, ClaimsStay, ClaimsAfterChange, ClaimsAfterCommit, ClaimsAfterGiveUp}
use Rattle.area_laws.specs.ring_laws.PageBytes.{raw_page}
use Rattle.txn_model.specs.Values.{StoreFacts, own_of}
use Rattle.txn_laws.specs.Standing.{StandsBehindAs}

-- where the disk is known, a machine stands behind the store, as behind one that ends, or that goes on
abbrev pub HasMachineAs : Bool → Changes → StoreFacts → Type 0
HasMachineAs ends changes f = (disk : Disk) → changes.disk ≡ Some disk → (m : Store) × StandsBehindAs ends f disk m

-- the disk is known, and this is the window of a machine that stands so behind the store
abbrev pub HasWindowAs : Bool → Changes → StoreFacts → StoreWindow → Type 0
HasWindowAs ends changes f w = (disk : Disk) × (changes.disk ≡ Some disk) × (m : Store) × StandsBehindAs ends f disk m × (store_window m ≡ w)

-- where the disk is known, a machine stands behind a store that goes on
abbrev pub HasMachine : Changes → StoreFacts → Type 0
HasMachine changes f = HasMachineAs false changes f

-- the disk is known, and this is the window of a machine that stands behind a store that goes on
abbrev pub HasWindow : Changes → StoreFacts → StoreWindow → Type 0
HasWindow changes f w = HasWindowAs false changes f w

-- where the disk is known, a machine stands behind a store that ends
abbrev pub HasEndingMachine : Changes → StoreFacts → Type 0
HasEndingMachine changes f = HasMachineAs true changes f

-- the disk is known, and this is the window of a machine that stands behind a store that ends
abbrev pub HasEndingWindow : Changes → StoreFacts → StoreWindow → Type 0
HasEndingWindow changes f w = HasWindowAs true changes f w

-- This is the block's present body, torn at most where the content is.
pub record IsShown (w : StoreWindow) (b : Block) (body : Body) : Type 0 where
  pub bytes : body.bytes ≡ (w.present b).bytes
  pub torn : body.torn ≡ true → (w.present b).torn ≡ true

-- each block is claimed
pub record ClaimsAll (c : ClaimWindow) : Type 0 where
  pub claims : (k : ℕ) (b : Block) → c.claims k b ≡ true
  pub will : (b : Block) → c.will b ≡ true

-- The store has a window whose present content is this one, with no transaction open and no commit that isn't durable, which claims each block.
pub record HasStart (changes : Changes) (f : StoreFacts) (content : Content) : Type 0 where
  pub window : StoreWindow
  pub has : HasWindow changes f window
  pub closed : window.is_open ≡ false
  pub none : window.waiting ≡ 0
  pub present : (b : Block) → window.present b ≡ content b
  pub claimed : ClaimsAll window.claimed

-- Recovery of the image chooses a restart page of this host, reads a list of entries from its oldest place on, and no entry of another shape, and none where that page says that the log is closed; each entry updates bytes of a known block of the volume; it refuses
-- the list for no block that is covered in part, and for no body that has no spelling; and it leaves the known blocks that the list doesn't shadow as they are so many commits back,
-- and so all that are claimed there.
pub record RecoversWithin (place : LogPlace) (own : ℕ → Bool) (w : StoreWindow) (image : SectorBytes) : Type 0 where
  pub restart : Restart
  pub chosen : chosen_in (raw_page place image 0) (raw_page place image 1) ≡ Some restart
  pub own_page : FitsRestart restart
  pub list : List Entry
  pub reads : live_log place.pages (raw_page place image) restart.oldest ≡ record { entries = list; foreign = None }
  pub closed : is_clean restart ≡ true → list ≡ []
  pub back : ℕ
  pub within : back ≤ w.waiting
  pub recovers : RecoversToContent own list image (w.before back)
  pub clear : (b : Block) → w.claimed.claims back b ≡ true → is_shadowed list b ≡ false
  pub updates : (b : Block) → has_update list b ≡ true → is_known own b ≡ true
  pub placed : first_misplaced list place.clusters ≡ None
  pub no_partial : first_partial (content_of image) list ≡ None
  pub known : (b : Block) → is_written_out (content_of image) list b ≡ true → is_known own b ≡ true
  pub spelled : (b : Block) → is_written_out (content_of image) list b ≡ true → is_other (content_of image) list b ≡ true → has_spelling b.kind (w.before back b).bytes ≡ true

-- the lap behind that of the least entry which the store would append next
abbrev pub lap_behind : StoreFacts → ℕ
lap_behind f = suc (lap_at f.log (next_number f.log 0x58))

-- the lap that a mount of these sectors begins
abbrev pub next_lap_in : LogPlace → SectorBytes → ℕ
next_lap_in place at = next_lap place.pages (raw_page place at) (chosen_in (raw_page place at 0) (raw_page place at 1))

-- during a call: an image that counts as left since t counted so before, or recovers to a content of the window before or after
abbrev pub During : (count moment : ℕ) → Changes → Changes → StoreFacts → StoreWindow → StoreWindow → Type 0
During count moment old now f w v = (t : ℕ) (image : List (List ℕ)) → t ≤ moment → LeftSince count now t image
    → LeftSince count old t image ⊎ (RecoversWithin f.place (own_of f) w (sector_of image) ⊎ RecoversWithin f.place (own_of f) v (sector_of image))

-- and so, or a mount of it begins no lap behind those of the store before and after
abbrev pub LapsDuring : (count moment : ℕ) → Changes → Changes → StoreFacts → StoreFacts → Type 0
LapsDuring count moment old now f g = (t : ℕ) (image : List (List ℕ)) → t ≤ moment → LeftSince count now t image
    → LeftSince count old t image ⊎ (next_lap_in f.place (sector_of image) ≤ max (lap_behind f) (lap_behind g))

-- Whatever window the store had, as one that ends or that goes on, it has one that follows; its device wasn't known only now; and its log lies where it did.
pub record SimulatesAs (ends : Bool) (count moment : ℕ) (old now : Changes) (f g : StoreFacts) (After : StoreWindow → StoreWindow → Type 0) : Type 0 where
  pub known : (e : Disk) → now.disk ≡ Some e → (d : Disk) × (old.disk ≡ Some d)
  pub place : g.place ≡ f.place
  pub found : g.found ≡ f.found
  pub steps : (w : StoreWindow) → HasWindowAs ends old f w → (v : StoreWindow) × HasWindowAs ends now g v × After w v × During count moment old now f w v
  pub laps : (w : StoreWindow) → HasWindowAs ends old f w → LapsDuring count moment old now f g

-- whatever window a store had that goes on, it has one that follows, and goes on
abbrev pub Simulates : (count moment : ℕ) → Changes → Changes → StoreFacts → StoreFacts → (StoreWindow → StoreWindow → Type 0) → Type 0
Simulates count moment old now f g After = SimulatesAs false count moment old now f g After

-- whatever window a store had that ends, it has one that follows
abbrev pub SimulatesEnd : (count moment : ℕ) → Changes → Changes → StoreFacts → StoreFacts → (StoreWindow → StoreWindow → Type 0) → Type 0
SimulatesEnd count moment old now f g After = SimulatesAs true count moment old now f g After

-- ---- the windows after each call

-- nothing changes
pub record AfterWrite (old new : StoreWindow) : Type 0 where
  pub same : new ≡ old

-- what is claimed of the newest content will be of the present one
pub record AfterBegin (old new : StoreWindow) : Type 0 where
  pub same : new ≡ record old { is_open = true }
  pub will : Keeps (old.claimed.claims 0) new.claimed.will

-- the contents of before stay, each one more commit back, and the newest one is the present one
pub record AfterCommit (old new : StoreWindow) : Type 0 where
  pub present : new.present ≡ old.present
  pub is_open : new.is_open ≡ false
  pub waiting : new.waiting ≡ suc old.waiting
  pub newest : (b : Block) → new.before 0 b ≡ old.present b
  pub others : (k : ℕ) (b : Block) → new.before (suc k) b ≡ old.before k b
  pub claimed : ClaimsAfterCommit old.claimed new.claimed

-- the present content is the newest one again
pub record AfterGiveUp (old new : StoreWindow) : Type 0 where
  pub present : (b : Block) → new.present b ≡ old.before 0 b
  pub is_open : new.is_open ≡ false
  pub waiting : new.waiting ≡ old.waiting
  pub others : (k : ℕ) (b : Block) → new.before k b ≡ old.before k b
  pub claimed : ClaimsAfterGiveUp old.claimed new.claimed

-- the present content has these bytes over the block's, which isn't torn, and the contents that a crash may bring back stay
pub record AfterChange (c : Block) (at : ℕ) (put : List ℕ) (old new : StoreWindow) : Type 0 where
  pub bytes : (new.present c).bytes ≡ written at put (old.present c).bytes
  pub torn : (new.present c).torn ≡ false
  pub elsewhere : (b : Block) → same_block b c ≡ false → new.present b ≡ old.present b
  pub is_open : new.is_open ≡ true
  pub waiting : new.waiting ≡ old.waiting
  pub others : (k : ℕ) → k ≤ new.waiting → (b : Block) → new.before k b ≡ old.before k b
  pub claimed : ClaimsAfterChange c old.claimed new.claimed

-- The contents that are left stay, but for the blocks whose bodies were dropped, none of which was claimed there.
pub record MovesTo (lost : Block → Bool) (old new : StoreWindow) : Type 0 where
  pub is_open : new.is_open ≡ old.is_open
  pub waiting : new.waiting ≤ old.waiting
  pub present : (b : Block) → lost b ≡ false → new.present b ≡ old.present b
  pub others : (k : ℕ) → k ≤ new.waiting → (b : Block) → lost b ≡ false → new.before k b ≡ old.before k b
  pub claimed : ClaimsStay old.claimed new.claimed
  pub shown : (b : Block) → old.claimed.will b ≡ true → new.present b ≡ old.present b
  pub kept : (k : ℕ) → k ≤ new.waiting → (b : Block) → old.claimed.claims k b ≡ true → new.before k b ≡ old.before k b
