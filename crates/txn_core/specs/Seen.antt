-- What contracts see of a store on a device, and what is always so of it.
use Rattle.std.specs.Prelude.{◌≡◌, ◌≤◌, ℕ, Bool, true, false, List, is_some, IfSome, unwrap_or}
use Rattle.device_blocks.specs.disk_model.declared.block.Block.{Block}
use Rattle.txn_laws.specs.sector_device.Moments.{Changes}
use Rattle.txn_laws.specs.store_claims.Windows.{StoreWindow}
use Rattle.txn_laws.specs.block_pool.Pools.{held}
use Rattle.txn_state.specs.States.{StateOf, facts_of}
use Rattle.txn_core.specs.Kept.{IsKept}
use Rattle.txn_laws.specs.Windows.{HasMachineAs, SimulatesAs}
use Rattle.device_blocks.specs.declared.word.CheckWord.{CheckWord}
use Rattle.device_blocks.specs.declared.word.CheckWord.TheVariants.{Unread}
use Rattle.device_blocks.specs.Words.{IsFitWord}

-- A store: its device, what it holds in memory, and what is known of the check words of blocks.
pub record Seen (D : Type 0) : Type 0 where
  pub device : D
  pub state : StateOf
  pub words : List (Block × CheckWord)

-- what is known of the check word of a block
abbrev pub word_of : List (Block × CheckWord) → Block → CheckWord
word_of words b = unwrap_or (held words b) Unread

-- What is always so of a store: its log lies inside the device, a block whose body is kept has a word, and where the disk is known, a sound machine stands behind it, as behind one that ends or that goes on.
pub record StandsOnAs (ends : Bool) (count : ℕ) (changes : Changes) (state : StateOf) (words : List (Block × CheckWord)) : Type 0 where
  pub place : (facts_of state).place.device ≤ count
  pub kept : IsKept (facts_of state)
  pub worded : (b : Block) → is_some ((facts_of state).body b) ≡ true → is_some (held words b) ≡ true
  pub fit : (b : Block) → IfSome (held words b) IsFitWord
  pub machine : HasMachineAs ends changes (facts_of state)

-- what is always so of a store that goes on
abbrev pub StandsOn : ℕ → Changes → StateOf → List (Block × CheckWord) → Type 0
StandsOn count changes state words = StandsOnAs false count changes state words

-- what is always so of a store that ends
abbrev pub EndsOn : ℕ → Changes → StateOf → List (Block × CheckWord) → Type 0
EndsOn count changes state words = StandsOnAs true count changes state words

-- whatever window the store had, as one that ends or that goes on, it has one that follows
abbrev pub TakesStepAs : {D : Type 0} → Bool → (D → ℕ) → (D → ℕ) → (D → Changes) → (StoreWindow → StoreWindow → Type 0) → Seen D → Seen D → Type 0
TakesStepAs ends count moment changes After old new = SimulatesAs ends (count old.device) (moment old.device) (changes old.device) (changes new.device) (facts_of old.state) (facts_of new.state) After

-- whatever window a store had that goes on, it has one that follows, and goes on
abbrev pub TakesStep : {D : Type 0} → (D → ℕ) → (D → ℕ) → (D → Changes) → (StoreWindow → StoreWindow → Type 0) → Seen D → Seen D → Type 0
TakesStep count moment changes After old new = TakesStepAs false count moment changes After old new

-- whatever window a store had that ends, it has one that follows
abbrev pub TakesEndStep : {D : Type 0} → (D → ℕ) → (D → ℕ) → (D → Changes) → (StoreWindow → StoreWindow → Type 0) → Seen D → Seen D → Type 0
TakesEndStep count moment changes After old new = TakesStepAs true count moment changes After old new
