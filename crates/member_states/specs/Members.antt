-- The contents in a store's window that are states of a volume.
use Rattle.std.specs.Prelude.{◌≡◌, ◌⊎◌, ℕ, ◌*◌, ◌≤◌, Bool, true, List}
use Rattle.std.specs.List.{list_any}
use Rattle.disk_model.specs.declared.block.Block.{Block}
use Rattle.disk_model.specs.declared.block.Body.{Body}
use Rattle.disk_model.specs.declared.block.BlockKind.TheVariants.{Index}
use Rattle.disk_model.specs.Bytes.{zeros}
use Rattle.disk_model.specs.Sectors.{same_block}
use Rattle.disk_model.specs.Content.{Content, body_of, content_of}
use Rattle.state_store.specs.state_model.declared.geometry.Geometry.{Geometry}
use Rattle.state_store.specs.volume_model.Volumes.{Volume}
use Rattle.state_store.specs.volume_model.Indexes.{void_block}
use Rattle.state_store.specs.plan_owners.States.{Stands}
use Rattle.state_store.specs.state_blocks.Needing.{IsNeeded}
use Rattle.state_store.specs.store_model.Geometry.{SectorBytes}
use Rattle.state_store.specs.store_model.Volumes.{is_known}
use Rattle.state_store.specs.store_claims.Windows.{StoreWindow}
use Rattle.state_store.specs.txn_model.Values.{StoreFacts, own_of}

-- the body of an index block that is zeros
abbrev pub void_body : Body
void_body = body_of Index (zeros (512 * 8))

-- What the states of a volume stand on: the sectors that its log keeps for itself, the blocks by which the log is found, what lies in these, which no store changes, where its file
-- table is found, and how many clusters it has.
pub record VolumeBase : Type 0 where
  pub own : ℕ → Bool
  pub found : List Block
  pub lies : Content
  pub geometry : Geometry
  pub clusters : ℕ

-- that of a store
abbrev pub base_of : StoreFacts → Content → Geometry → ℕ → VolumeBase
base_of f lies g clusters = record { own = own_of f; found = f.found; lies = lies; geometry = g; clusters = clusters }

-- it is one of the blocks by which the log is found
abbrev pub is_found : VolumeBase → Block → Bool
is_found base b = list_any (same_block b) base.found

-- these sectors bear what lies in the blocks by which the log is found
abbrev pub BearsFound : VolumeBase → SectorBytes → Type 0
BearsFound base image = (b : Block) → is_found base b ≡ true → content_of image b ≡ base.lies b

-- a store may change the block; or the log is found by it, and it is as it always was
abbrev pub IsSafe : VolumeBase → Content → Block → Type 0
IsSafe base c b = (is_known base.own b ≡ true) ⊎ ((is_found base b ≡ true) × (c b ≡ base.lies b))

-- The content is a state, and this is its volume. Each block from which it is read is one that a store may change, or one by which the log is found, and is claimed, so that no recovery skips it; and the block past
-- the end of every disk is claimed, and is zeros.
pub record IsClaimedState (base : VolumeBase) (claims : Block → Bool) (c : Content) (v : Volume) : Type 0 where
  pub stands : Stands c base.geometry base.clusters v
  pub claimed : (b : Block) → IsNeeded c v b → claims b ≡ true
  pub safe : (b : Block) → IsNeeded c v b → IsSafe base c b
  pub past : claims void_block ≡ true
  pub void : c void_block ≡ void_body

-- the content so many commits back is such a state
abbrev pub MemberIs : VolumeBase → StoreWindow → ℕ → Volume → Type 0
MemberIs base w k v = IsClaimedState base (w.claimed.claims k) (w.before k) v

-- and so is the present content
abbrev pub PresentIs : VolumeBase → StoreWindow → Volume → Type 0
PresentIs base w v = IsClaimedState base w.claimed.will w.present v

-- The present content of the window is a state, and so is each content that a crash may bring back.
pub record MembersAre (base : VolumeBase) (w : StoreWindow) : Type 0 where
  pub volume : Volume
  pub present : PresentIs base w volume
  pub members : (k : ℕ) → k ≤ w.waiting → (v : Volume) × MemberIs base w k v
