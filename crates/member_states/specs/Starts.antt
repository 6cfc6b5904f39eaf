-- A store at its start, over a state.
use Rattle.std.specs.Prelude.{◌≡◌, ◌⊎◌, ℕ, ◌^◌, ◌≤◌, true, List, length}
use Rattle.disk_model.specs.declared.block.Block.{Block}
use Rattle.disk_model.specs.Sectors.{sector_of}
use Rattle.disk_model.specs.Content.{Content, content_of}
use Rattle.sector_device.specs.Moments.{Changes}
use Rattle.state_store.specs.state_model.declared.geometry.Geometry.{Geometry}
use Rattle.state_store.specs.volume_model.Volumes.{Volume}
use Rattle.state_store.specs.volume_model.Indexes.{void_block}
use Rattle.state_store.specs.plan_owners.States.{Stands}
use Rattle.state_store.specs.state_blocks.Needing.{IsNeeded}
use Rattle.state_store.specs.store_model.Volumes.{is_known}
use Rattle.state_store.specs.txn_model.Values.{StoreFacts, own_of}
use Rattle.state_store.specs.txn_laws.Windows.{HasStart}
use Rattle.member_states.specs.Members.{base_of, is_found, IsSafe, void_body, MembersAre}

-- The window that a store has at its start over a state holds that state alone.
pub record StartsHoldStates : Type 0 where
  pub content : (changes : Changes) (f : StoreFacts) (content lies : Content) (g : Geometry) (clusters : ℕ) (v : Volume) (start : HasStart changes f content) → Stands content g clusters v
      → ((b : Block) → IsNeeded content v b → IsSafe (base_of f lies g clusters) content b) → content void_block ≡ void_body → MembersAre (base_of f lies g clusters) start.window
  -- of the content of these sectors: each block from which it is read is one that the store may change, or one by which the log is found
  pub sectors : (changes : Changes) (f : StoreFacts) (disk : List (List ℕ)) (g : Geometry) (clusters : ℕ) (v : Volume) (start : HasStart changes f (content_of (sector_of disk))) → Stands (content_of (sector_of disk)) g clusters v
      → ((b : Block) → IsNeeded (content_of (sector_of disk)) v b → (is_known (own_of f) b ≡ true) ⊎ (is_found (base_of f (content_of (sector_of disk)) g clusters) b ≡ true)) → length disk ≤ 2 ^ 62
      → MembersAre (base_of f (content_of (sector_of disk)) g clusters) start.window
