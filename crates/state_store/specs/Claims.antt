-- What a list of changes makes of the claims of a store.
use Rattle.std.specs.Prelude.{◌≡◌, ◌⊎◌, ℕ, suc, true, false, List}
use Rattle.std.specs.List.{AllByRecursion}
use Rattle.disk_model.specs.declared.block.Block.{Block}
use Rattle.disk_model.specs.declared.block.Change.{Change}
use Rattle.disk_model.specs.Sectors.{are_rivals}
use Rattle.state_blocks.specs.Drafts.{is_changed}
use Rattle.turn_laws.specs.store_claims.Claims.{ClaimWindow}
use Rattle.turn_laws.specs.store_claims.Moves.{Keeps}

-- no change is of a rival of the block
abbrev pub NoRival : List Change → Block → Type 0
NoRival xs b = AllByRecursion (λ (x : Change). are_rivals x.block b ≡ false) xs

-- The open transaction made the changes: a block of whose rivals none was changed is claimed as before, and will be if it was to be, or was changed itself.
pub record ClaimsAfterLogged (changes : List Change) (old new : ClaimWindow) : Type 0 where
  pub older : (k : ℕ) → Keeps (old.claims (suc k)) (new.claims (suc k))
  pub newest : (b : Block) → NoRival changes b → old.claims 0 b ≡ true → new.claims 0 b ≡ true
  pub will : (b : Block) → NoRival changes b → (old.will b ≡ true) ⊎ (is_changed changes b ≡ true) → new.will b ≡ true

-- Some of them were made and given up: such a block is claimed as before, and will be of the present content if it was of the newest one.
pub record ClaimsAfterStop (changes : List Change) (old new : ClaimWindow) : Type 0 where
  pub older : (k : ℕ) → Keeps (old.claims (suc k)) (new.claims (suc k))
  pub newest : (b : Block) → NoRival changes b → old.claims 0 b ≡ true → new.claims 0 b ≡ true
  pub will : (b : Block) → NoRival changes b → old.claims 0 b ≡ true → new.will b ≡ true

-- The same of a whole transaction, or of none: what will be claimed of the present content is what was claimed of the newest one and was to be.
pub record ClaimsAfterLeft (changes : List Change) (old new : ClaimWindow) : Type 0 where
  pub older : (k : ℕ) → Keeps (old.claims (suc k)) (new.claims (suc k))
  pub newest : (b : Block) → NoRival changes b → old.claims 0 b ≡ true → new.claims 0 b ≡ true
  pub will : (b : Block) → NoRival changes b → old.claims 0 b ≡ true → old.will b ≡ true → new.will b ≡ true

-- A transaction with the changes was committed: such a block is claimed one more commit back as before, and of the newest content and the present one if it was
-- of the one before, or was changed.
pub record ClaimsAfterPut (changes : List Change) (old new : ClaimWindow) : Type 0 where
  pub older : (k : ℕ) → Keeps (old.claims (suc k)) (new.claims (suc (suc k)))
  pub before : (b : Block) → NoRival changes b → old.claims 0 b ≡ true → new.claims 1 b ≡ true
  pub newest : (b : Block) → NoRival changes b → (old.claims 0 b ≡ true) ⊎ (is_changed changes b ≡ true) → new.claims 0 b ≡ true
  pub will : (b : Block) → NoRival changes b → (old.claims 0 b ≡ true) ⊎ (is_changed changes b ≡ true) → new.will b ≡ true
