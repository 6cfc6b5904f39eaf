-- The window of a store after a list of changes.
use Rattle.std.specs.Prelude.{◌≡◌, ℕ, suc, ◌≤◌, false, if◌then◌else◌, List, [], ◌∷◌, Result, Ok, Err}
use Rattle.disk_model.specs.declared.block.Block.{Block}
use Rattle.disk_model.specs.declared.block.Change.{Change}
use Rattle.disk_model.specs.Bytes.{written}
use Rattle.disk_model.specs.Content.{Content}
use Rattle.disk_model.specs.Sectors.{same_block}
use Rattle.sector_device.specs.Moments.{Changes}
use Rattle.turn_laws.specs.store_claims.Windows.{StoreWindow}
use Rattle.turn_laws.specs.txn_model.Values.{StoreFacts}
use Rattle.turn_laws.specs.txn_laws.Windows.{HasWindow}
use Rattle.state_store.specs.Claims.{ClaimsAfterLogged, ClaimsAfterStop, ClaimsAfterLeft, ClaimsAfterPut}

-- the content with a change made to it: a store writes the body whole, so that it isn't torn
abbrev pub changed_content : Change → Content → Content
changed_content x c b = if same_block b x.block then record { bytes = written x.offset x.new (c b).bytes; torn = false } else c b

-- and with several, in order
abbrev pub changed_by : List Change → Content → Content
changed_by [] c = c
changed_by (x ∷ xs) c = changed_by xs (changed_content x c)

-- whatever window the store had, it has one that follows, where its device wasn't written
abbrev pub LeadsTo : Changes → StoreFacts → StoreFacts → (StoreWindow → StoreWindow → Type 0) → Type 0
LeadsTo changes f g After = (w : StoreWindow) → HasWindow changes f w → (v : StoreWindow) × HasWindow changes g v × After w v

-- ---- in an open transaction

-- the changes were made: the contents that a crash may bring back stay
pub record AfterLogged (changes : List Change) (old new : StoreWindow) : Type 0 where
  pub present : (b : Block) → new.present b ≡ changed_by changes old.present b
  pub waiting : new.waiting ≡ old.waiting
  pub others : (k : ℕ) → k ≤ old.waiting → (b : Block) → new.before k b ≡ old.before k b
  pub claimed : ClaimsAfterLogged changes old.claimed new.claimed

-- some of them were, and it was given up: the present content is the newest one of before
pub record AfterStop (changes : List Change) (old new : StoreWindow) : Type 0 where
  pub present : (b : Block) → new.present b ≡ old.before 0 b
  pub waiting : new.waiting ≡ old.waiting
  pub is_open : new.is_open ≡ false
  pub others : (k : ℕ) → k ≤ old.waiting → (b : Block) → new.before k b ≡ old.before k b
  pub claimed : ClaimsAfterStop changes old.claimed new.claimed

abbrev pub AfterLogging : {E : Type 0} → Result (Unit {0}) E → List Change → StoreWindow → StoreWindow → Type 0
AfterLogging (Ok u) changes = AfterLogged changes
AfterLogging (Err e) changes = AfterStop changes

-- ---- of a whole transaction

-- The present content is changed, and is the newest of those that a crash may bring back; those of before stay, each one more commit back.
pub record AfterPut (changes : List Change) (old new : StoreWindow) : Type 0 where
  pub present : (b : Block) → new.present b ≡ changed_by changes old.present b
  pub newest : (b : Block) → new.before 0 b ≡ new.present b
  pub others : (k : ℕ) → k ≤ old.waiting → (b : Block) → new.before (suc k) b ≡ old.before k b
  pub waiting : new.waiting ≡ suc old.waiting
  pub is_open : new.is_open ≡ false
  pub claimed : ClaimsAfterPut changes old.claimed new.claimed

-- The present content stays, and so do those that a crash may bring back; some of the changes may have been made and given up.
pub record StaysWindow (changes : List Change) (old new : StoreWindow) : Type 0 where
  pub present : (b : Block) → new.present b ≡ old.present b
  pub others : (k : ℕ) → k ≤ old.waiting → (b : Block) → new.before k b ≡ old.before k b
  pub waiting : new.waiting ≡ old.waiting
  pub is_open : new.is_open ≡ false
  pub claimed : ClaimsAfterLeft changes old.claimed new.claimed

-- a transaction with the changes was committed, or given up
abbrev pub AfterCommitted : {E : Type 0} → Result (Unit {0}) E → List Change → StoreWindow → StoreWindow → Type 0
AfterCommitted (Ok u) changes = AfterPut changes
AfterCommitted (Err e) changes = StaysWindow changes

-- no changes begin no transaction
abbrev pub AfterChanges : List Change → StoreWindow → StoreWindow → Type 0
AfterChanges [] = StaysWindow []
AfterChanges (x ∷ xs) = AfterPut (x ∷ xs)

-- the window after changes were put, or weren't
abbrev pub AfterPutting : {E : Type 0} → Result (Unit {0}) E → List Change → StoreWindow → StoreWindow → Type 0
AfterPutting (Ok u) changes = AfterChanges changes
AfterPutting (Err e) changes = StaysWindow changes
