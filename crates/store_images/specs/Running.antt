-- What is so of a store whose calls rows make, and of a change that may be made.
use Rattle.std.specs.Prelude.{◌≡◌, ◌⊎◌, ℕ, ◌+◌, ◌*◌, ◌/◌, ◌^◌, ◌<◌, ◌≤◌, true, false, List, [], ◌∷◌, length, None}
use Rattle.disk_model.specs.declared.block.Block.{Block}
use Rattle.disk_model.specs.declared.block.Change.{Change}
use Rattle.disk_model.specs.Sectors.{sectors, are_rivals}
use Rattle.log_page.specs.declared.places.Extent.{Extent}
use Rattle.store_model.specs.Volumes.{is_known}
use Rattle.txn_core.specs.txn_model.Values.{StoreFacts, own_of}
use Rattle.txn_core.specs.txn_log.Counts.{pages_needed}
use Rattle.txn_core.specs.txn_log.Laws.{HasRoom}
use Rattle.txn_core.specs.Changes.{MayChangeNow}
use Rattle.txn_core.specs.Turns.{HasNext}

-- The LSN of the last entry of the open transaction has 64 bits, and behind so many steps the open count of its restart pages is no more than so many above the first.
pub record IsRunning (turns : ℕ) (f : StoreFacts) : Type 0 where
  pub small : f.last < 2 ^ 64
  pub opens : f.log.opens ≤ 2 + turns

-- The runs of a log are one, and the block lies beside it.
pub record IsBeside (runs : List Extent) (b : Block) : Type 0 where
  pub run : Extent
  pub one : runs ≡ run ∷ []
  pub above : 8 ≤ b.first
  pub away : (b.first + sectors b.kind ≤ run.first) ⊎ (run.first + run.sectors + 8 ≤ b.first)

-- these bytes come into the block from this one on
abbrev pub change_of : Block → ℕ → List ℕ → Change
change_of c at new = record { block = c; offset = at; old = []; new = new }

-- so many pages may be begun
abbrev pub MayBegin : StoreFacts → ℕ → Type 0
MayBegin f pages = HasRoom f.log f.tx f.last pages

-- the pages that these changes take
abbrev pub pages_of_changes : StoreFacts → List Change → ℕ
pages_of_changes f changes = pages_needed f.log.free (λ b. (f.mark b).imaged) changes

-- These bytes may come into the block in the open transaction, where there is room.
pub record CanLie (f : StoreFacts) (c : Block) (at : ℕ) (new : List ℕ) : Type 0 where
  pub opened : f.is_open ≡ true
  pub known : is_known (own_of f) c ≡ true
  pub volume : c.first / 8 < f.place.clusters
  pub inside : c.first + sectors c.kind ≤ f.place.device
  pub some : 0 < length new
  pub fits : at + length new ≤ 512 * sectors c.kind
  pub near : c.first < 2 ^ 64
  pub alone : (x : Block) → are_rivals c x ≡ true → f.before x ≡ None

-- The change may be made, on a device that isn't known.
pub record MayMake (f : StoreFacts) (c : Block) (at : ℕ) (new : List ℕ) : Type 0 where
  pub may : MayChangeNow None f c at new
  pub near : c.first < 2 ^ 64
  pub room : MayBegin f (pages_of_changes f (change_of c at new ∷ []))

-- No transaction is open, and a restart page can be made.
pub record MayGoOn (f : StoreFacts) : Type 0 where
  pub closed : f.is_open ≡ false
  pub has_next : HasNext f.log
