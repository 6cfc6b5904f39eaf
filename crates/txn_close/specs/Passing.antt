-- What several calls of a store, one behind the other, do to its window, where none of them changes a block.
use Rattle.std.specs.Prelude.{◌≡◌, ◌⊎◌, ℕ, ◌≤◌, Bool, true, false, List, Some}
use Rattle.disk_model.specs.declared.block.Block.{Block}
use Rattle.disk_model.specs.Sectors.{sector_of, are_rivals}
use Rattle.sector_device.specs.Disks.{Disk}
use Rattle.sector_device.specs.Moments.{Changes, LeftSince}
use Rattle.store_model.specs.Geometry.{SectorBytes}
use Rattle.store_claims.specs.Moves.{Keeps}
use Rattle.store_claims.specs.Windows.{StoreWindow}
use Rattle.found_stays.specs.txn_model.Values.{StoreFacts, own_of}
use Rattle.found_stays.specs.txn_model.Told.{pages_end}
use Rattle.found_stays.specs.txn_state.States.{facts_of}
use Rattle.found_stays.specs.txn_laws.Windows.{HasWindowAs, RecoversWithin, lap_behind, LapsDuring}
use Rattle.found_stays.specs.txn_core.Seen.{Seen}
use Rattle.found_stays.specs.Found.{AreOffLog, StaysOver}

-- The block isn't dead, and no rival of it is dirty: so neither a sync nor the write-out of a rival drops its body.
pub record IsSpared (f : StoreFacts) (b : Block) : Type 0 where
  pub alive : (f.mark b).dead ≡ false
  pub alone : (c : Block) → are_rivals c b ≡ true → (f.mark c).dirty ≡ false

-- The contents that a crash may bring back are some of those of before, on the blocks that are spared and on all that is claimed there; and what was claimed of them is.
pub record Spares (f : StoreFacts) (old new : StoreWindow) : Type 0 where
  pub waiting : new.waiting ≤ old.waiting
  pub others : (k : ℕ) → k ≤ new.waiting → (b : Block) → IsSpared f b → new.before k b ≡ old.before k b
  pub claims : (k : ℕ) → Keeps (old.claimed.claims k) (new.claimed.claims k)
  pub kept : (k : ℕ) → k ≤ new.waiting → (b : Block) → old.claimed.claims k b ≡ true → new.before k b ≡ old.before k b

-- whatever counts as left since a moment no later than the first call counted so before, or recovers to a content of a window that follows
abbrev pub LeavesWithin : StoreFacts → (count moment : ℕ) → Changes → Changes → StoreFacts → StoreWindow → Type 0
LeavesWithin base count moment old now f w = (t : ℕ) (image : List (List ℕ)) → t ≤ moment → LeftSince count now t image
    → LeftSince count old t image ⊎ ((v : StoreWindow) × Spares base w v × RecoversWithin f.place (own_of f) v (sector_of image))

-- the sectors of the blocks by which the log is found stay as they were at first, where they are off the log
abbrev pub LeavesFound : Bool → ℕ → Changes → Changes → StoreFacts → Type 0
LeavesFound ends count old now f = (w : StoreWindow) (first : SectorBytes) → HasWindowAs ends old f w → AreOffLog f.place f.found → StaysOver count f.found first old now

-- the ring of the log is as long, its first page is of the same lap, and as many pages were begun
pub record BeginsNoPage (f g : StoreFacts) : Type 0 where
  pub pages : g.log.pages ≡ f.log.pages
  pub lap : g.log.lap ≡ f.log.lap
  pub begun : pages_end g ≡ pages_end f

-- Whatever window the store had, it has one that follows, as what a crash inside the calls leaves has; its device wasn't known only now; its log lies where it did, and no page of it is begun; the lap behind its next entry doesn't fall, and a mount of what a crash inside the calls leaves begins none behind that one; and the blocks by which the log is found stay. The store ends, or goes on, before them and behind them.
pub record PassesAs (ends last : Bool) (base : StoreFacts) (count moment : ℕ) (old now : Changes) (f g : StoreFacts) : Type 0 where
  pub known : (e : Disk) → now.disk ≡ Some e → (d : Disk) × (old.disk ≡ Some d)
  pub place : g.place ≡ f.place
  pub found : g.found ≡ f.found
  pub steps : (w : StoreWindow) → HasWindowAs ends old f w → (v : StoreWindow) × HasWindowAs last now g v × Spares base w v × LeavesWithin base count moment old now f w
  pub rises : lap_behind f ≤ lap_behind g
  pub begins_none : BeginsNoPage f g
  pub laps : (w : StoreWindow) → HasWindowAs ends old f w → LapsDuring count moment old now f g
  pub stays : LeavesFound ends count old now f

-- no block is dirty or dead that wasn't
pub record Fewer (f g : StoreFacts) : Type 0 where
  pub dirty : (b : Block) → (g.mark b).dirty ≡ true → (f.mark b).dirty ≡ true
  pub dead : (b : Block) → (g.mark b).dead ≡ true → (f.mark b).dead ≡ true

-- Calls of a store lead from this one to that one, where no block is changed: those are spared that were so by these facts. The store ends, or goes on, before them and behind them.
pub record GoesAs {D : Type 0} (ends last : Bool) (count moment : D → ℕ) (changes : D → Changes) (base : StoreFacts) (old new : Seen D) : Type 0 where
  pub later : moment old.device ≤ moment new.device
  pub sectors : count new.device ≡ count old.device
  pub fewer : Fewer base (facts_of new.state)
  pub passes : PassesAs ends last base (count old.device) (moment old.device) (changes old.device) (changes new.device) (facts_of old.state) (facts_of new.state)

-- calls of a store that goes on behind them
abbrev pub Goes : {D : Type 0} → (D → ℕ) → (D → ℕ) → (D → Changes) → StoreFacts → Seen D → Seen D → Type 0
Goes count moment changes base old new = GoesAs false false count moment changes base old new

-- calls of a store by which it ends
abbrev pub GoesToEnd : {D : Type 0} → (D → ℕ) → (D → ℕ) → (D → Changes) → StoreFacts → Seen D → Seen D → Type 0
GoesToEnd count moment changes base old new = GoesAs false true count moment changes base old new

-- calls of a store that ends
abbrev pub EndsFurther : {D : Type 0} → (D → ℕ) → (D → ℕ) → (D → Changes) → StoreFacts → Seen D → Seen D → Type 0
EndsFurther count moment changes base old new = GoesAs true true count moment changes base old new
