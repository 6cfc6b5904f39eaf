-- What an event does to the claims of a store.
use Rattle.std.specs.Prelude.{◌≡◌, ℕ, suc, Bool, true, false}
use Rattle.store_model.specs.disk_model.declared.block.Block.{Block}
use Rattle.store_model.specs.disk_model.Sectors.{same_block, are_rivals}
use Rattle.store_model.specs.Logs.{has_update}
use Rattle.store_model.specs.Geometry.{Geometry}
use Rattle.store_model.specs.Stores.{Store}
use Rattle.store_model.specs.Events.{Step}
use Rattle.store_model.specs.Events.Step.{begin, change, commit, give_up, sync, sync_frees}
use Rattle.store_claims.specs.Claims.{ClaimWindow, claims_of}

-- each block of before is one of after
abbrev pub Keeps : (Block → Bool) → (Block → Bool) → Type 0
Keeps before after = (b : Block) → before b ≡ true → after b ≡ true

-- More is durable, or the list begins later: all that was claimed is.
pub record ClaimsStay (old new : ClaimWindow) : Type 0 where
  pub claims : (k : ℕ) → Keeps (old.claims k) (new.claims k)
  pub will : Keeps old.will new.will

-- A transaction begins: nothing changes, and what is claimed of the newest content will be of the present one.
pub record ClaimsAfterBegin (old new : ClaimWindow) : Type 0 where
  pub same : new ≡ old
  pub will : Keeps (old.claims 0) new.will

-- The open transaction was given up: what is claimed of the newest content will be of the present one.
pub record ClaimsAfterGiveUp (old new : ClaimWindow) : Type 0 where
  pub claims : new.claims ≡ old.claims
  pub will : Keeps (old.claims 0) new.will

-- A block was changed: its rivals may be claimed no more of the newest content nor of the present one, of which it will be itself.
pub record ClaimsAfterChange (c : Block) (old new : ClaimWindow) : Type 0 where
  pub older : (k : ℕ) → Keeps (old.claims (suc k)) (new.claims (suc k))
  pub newest : (b : Block) → are_rivals c b ≡ false → old.claims 0 b ≡ true → new.claims 0 b ≡ true
  pub own : new.will c ≡ true
  pub others : (b : Block) → are_rivals c b ≡ false → old.will b ≡ true → new.will b ≡ true

-- The open transaction ended: the present content is the newest one, and each other is one more commit back.
pub record ClaimsAfterCommit (old new : ClaimWindow) : Type 0 where
  pub newest : Keeps old.will (new.claims 0)
  pub older : (k : ℕ) → Keeps (old.claims k) (new.claims (suc k))
  pub will : Keeps old.will new.will

-- What each event does to the claims: one that appends no entry and makes none durable changes none.
abbrev pub ClaimsAfter : (geometry : Geometry) (s t : Store) → Step geometry s t → Type 0
ClaimsAfter geometry s t (begin a) = ClaimsAfterBegin (claims_of s) (claims_of t)
ClaimsAfter geometry s t (change c us a) = ClaimsAfterChange c (claims_of s) (claims_of t)
ClaimsAfter geometry s t (commit lsn previous a) = ClaimsAfterCommit (claims_of s) (claims_of t)
ClaimsAfter geometry s t (give_up a) = ClaimsAfterGiveUp (claims_of s) (claims_of t)
ClaimsAfter geometry s t (sync gone a may) = ClaimsStay (claims_of s) (claims_of t)
ClaimsAfter geometry s t (sync_frees gone a may) = ClaimsStay (claims_of s) (claims_of t)
ClaimsAfter geometry s t _ = claims_of t ≡ claims_of s

-- the event changes the block, or gives up a change of it
abbrev pub is_change_of : (geometry : Geometry) (s t : Store) → Step geometry s t → Block → Bool
is_change_of geometry s t (change c us a) b = same_block b c
is_change_of geometry s t (give_up a) b = has_update s.window.draft b
is_change_of geometry s t _ b = false
