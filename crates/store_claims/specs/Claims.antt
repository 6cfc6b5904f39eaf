-- Which blocks a store's log claims: no list of entries that recovery may read shadows them.
use Rattle.std.specs.Prelude.{◌≡◌, ◌≢◌, ℕ, suc, ◌-◌, ◌≤◌, ◌==◌, ◌&&◌, ◌||◌, not, Bool, true, false, List, length, take, drop, Some, unwrap_or}
use Rattle.std.specs.List.{list_all, range_with_len}
use Rattle.store_model.specs.disk_model.declared.block.Block.{Block}
use Rattle.store_model.specs.log_model.declared.entry.Entry.{Entry}
use Rattle.store_model.specs.log_model.Logs.{last_said, is_shadowed}
use Rattle.store_model.specs.Logs.{commits, IsClaimed, ended_with}
use Rattle.store_model.specs.Stores.{Store, Image}

-- ---- lists

-- No beginning of the list that has d entries at least, and k commits behind it, shadows the block.
unfoldable pub claims_in : List Entry → (d k : ℕ) → Block → Bool
claims_in l d k b = list_all (λ p. not (commits (drop p l) == k) || not (is_shadowed (take p l) b)) (range_with_len d (suc (length l) - d))

-- the same, place by place
abbrev pub IsClaimedIn : List Entry → (d k : ℕ) → Block → Type 0
IsClaimedIn l d k b = (p : ℕ) → d ≤ p → p ≤ length l → commits (drop p l) ≡ k → IsClaimed (take p l) b

-- if this transaction ended now, the list wouldn't shadow the block
unfoldable pub claims_with : ℕ → List Entry → Block → Bool
claims_with tx l b = not (unwrap_or (last_said (ended_with tx l) l b) false)

-- the same, by what the list says last
abbrev pub IsClaimedWith : ℕ → List Entry → Block → Type 0
IsClaimedWith tx l b = last_said (ended_with tx l) l b ≢ Some true

-- ---- stores

-- The block is claimed so many commits back: no list that recovery may read, from the oldest place or from the noted one, and that has so many commits behind
-- it, shadows the block.
unfoldable pub claims : Store → ℕ → Block → Bool
claims s k b = claims_in s.log s.synced k b && (not s.begun || claims_in (drop s.place s.log) (s.synced - s.place) k b)

-- the same, place by place
abbrev pub IsClaimedBack : Store → ℕ → Block → Type 0
IsClaimedBack s k b = IsClaimedIn s.log s.synced k b × (s.begun ≡ true → IsClaimedIn (drop s.place s.log) (s.synced - s.place) k b)

-- The block will be claimed of the present content, if the open transaction ends now.
unfoldable pub will : Store → Block → Bool
will s b = claims_with s.window.tx s.log b && (not s.begun || claims_with s.window.tx (drop s.place s.log) b)

-- the same, by what the lists say last
abbrev pub WillBeClaimed : Store → Block → Type 0
WillBeClaimed s b = IsClaimedWith s.window.tx s.log b × (s.begun ≡ true → IsClaimedWith s.window.tx (drop s.place s.log) b)

-- so many commits stand behind what recovery of the image reads
abbrev pub commits_behind : Store → Image → ℕ
commits_behind s image = commits (drop image.upto s.log)

-- The blocks that a layer above may count on: those that are claimed so many commits back, and those that will be of the present content.
pub record ClaimWindow : Type 0 where
  pub claims : ℕ → Block → Bool
  pub will : Block → Bool

-- the claims of a store
abbrev pub claims_of : Store → ClaimWindow
claims_of s = record { claims = claims s; will = will s }
