-- What a view of a store gives, and what stays of the store.
use Rattle.std.specs.Prelude.{◌≡◌, ℕ, List, Option, Some, unwrap_or}
use Rattle.std.specs.Option.{option_map}
use Rattle.std.specs.Borrow.{MutBor}
use Rattle.device_blocks.specs.disk_model.declared.block.Block.{Block}
use Rattle.device_blocks.specs.disk_model.declared.block.Body.{Body}
use Rattle.device_blocks.specs.disk_model.Sectors.{sector_of}
use Rattle.device_blocks.specs.disk_model.Content.{Content, content_of}
use Rattle.txn_laws.specs.sector_device.Moments.{Changes}
use Rattle.txn_laws.specs.txn_model.Values.{StoreFacts}
use Rattle.txn_state.specs.States.{StateOf, facts_of, HasSize}
use Rattle.device_blocks.specs.declared.word.CheckWord.{CheckWord}
use Rattle.txn_core.specs.Seen.{Seen}

-- the present content: the bodies that are kept, and else what is read of these sectors
abbrev pub present_on : List (List ℕ) → StoreFacts → Content
present_on disk f b = unwrap_or (f.body b) (content_of (sector_of disk) b)

-- where the sectors are known
abbrev pub present_content : Option (List (List ℕ)) → StateOf → Option Content
present_content gives state = option_map (λ disk. present_on disk (facts_of state)) gives

-- each body that is kept has as many bytes as its block
abbrev pub KeepsSizes : StateOf → Type 0
KeepsSizes state = (b : Block) (x : Body) → (facts_of state).body b ≡ Some x → HasSize b x

-- What stays of a store that is borrowed: the reference to it, what it holds in memory, what it knows of check words, what its device's reads give, how many sectors there
-- are, what a crash may leave, and the count of faults and the moment before.
pub record BorrowedStore : Type 0 where
  pub reference : ℕ
  pub state : StateOf
  pub words : List (Block × CheckWord)
  pub gives : Option (List (List ℕ))
  pub sectors : ℕ
  pub changes : Changes
  pub faults_before : ℕ
  pub moment_before : ℕ

abbrev pub borrowed_store : {D : Type 0} → (D → Option (List (List ℕ))) → (D → ℕ) → (D → Changes) → ℕ → Seen D → ℕ → ℕ → BorrowedStore
borrowed_store gives count changes reference s before began =
    record { reference = reference; state = s.state; words = s.words; gives = gives s.device; sectors = count s.device; changes = changes s.device; faults_before = before; moment_before = began }

-- The reference is the same one, and of the store behind it all stays but its device's moment, which is that of before or later, and its count of faults.
pub record KeepsStore {D : Type 0} (gives : D → Option (List (List ℕ))) (count : D → ℕ) (changes : D → Changes) (old new : MutBor (Seen D)) : Type 0 where
  pub reference : new.ghost_name ≡ old.ghost_name
  pub state : new.now.state ≡ old.now.state
  pub words : new.now.words ≡ old.now.words
  pub same : gives new.now.device ≡ gives old.now.device
  pub sectors : count new.now.device ≡ count old.now.device
  pub unchanged : changes new.now.device ≡ changes old.now.device
