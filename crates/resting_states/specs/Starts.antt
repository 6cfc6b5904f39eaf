-- A volume that begins at rest.
use Rattle.std.specs.Prelude.{◌≡◌, ◌⊎◌, ℕ, ◌^◌, ◌≤◌, true, List, Some}
use Rattle.std.specs.List.{list_any}
use Rattle.disk_model.specs.declared.block.Block.{Block}
use Rattle.disk_model.specs.Sectors.{same_block}
use Rattle.disk_model.specs.Content.{content_of}
use Rattle.sector_device.specs.Disks.{Disk, SeesDisk, seen}
use Rattle.sector_device.specs.Moments.{Changes}
use Rattle.sector_device.specs.Sectors.{IsDiskOf}
use Rattle.member_states.specs.map_change.Parts.{MapParts}
use Rattle.member_states.specs.state_blocks.Needing.{IsNeeded}
use Rattle.store_model.specs.Geometry.{SectorBytes}
use Rattle.store_model.specs.Volumes.{is_known}
use Rattle.store_claims.specs.Windows.{StoreWindow}
use Rattle.member_states.specs.txn_model.Values.{own_of}
use Rattle.member_states.specs.txn_model.Calls.{first_facts}
use Rattle.member_states.specs.txn_laws.Windows.{ClaimsAll, HasStart}
use Rattle.member_states.specs.txn_state.States.{StateOf, facts_of, IsStore}
use Rattle.found_stays.specs.txn_core.Views.{present_on}
use Rattle.member_states.specs.state_store.Volumes.{IsStateOf, SparesState}
use Rattle.found_stays.specs.Found.{StaysFirst, AreOffLog}
use Rattle.resting_states.specs.Resting.{RestsBy}

-- A store begins on a device that gives these sectors, so many. They are a state, of which this is the map, and this the table of upper-case units; no step of the store takes a block
-- from which it is read, each of which is one that the store may change, or one by which its log is found; and those lie off the log, and are as they were at first.
pub record BeginsAtRest (count : ℕ) (changes : Changes) (state : StateOf) (first : SectorBytes) (m : MapParts) (table : List ℕ) (disk : List (List ℕ)) : Type 0 where
  pub sees : SeesDisk (Some disk) changes.disk
  pub whole : IsDiskOf count disk
  pub few : count ≤ 2 ^ 62
  pub start : (raw : Disk) → changes.disk ≡ Some raw → HasStart changes (facts_of state) (content_of (seen raw))
  pub facts : facts_of state ≡ first_facts state.place state.log state.found
  pub store : IsStore (facts_of state)
  pub device : state.place.device ≤ 2 ^ 62
  pub clusters : state.place.clusters ≤ 2 ^ 59
  pub shown : IsStateOf m table (present_on disk (facts_of state))
  pub spares : SparesState changes (facts_of state) m.volume disk
  pub safe : (b : Block) → IsNeeded (present_on disk (facts_of state)) m.volume b → (is_known (own_of (facts_of state)) b ≡ true) ⊎ (list_any (same_block b) state.found ≡ true)
  pub stays : StaysFirst state.found first changes
  pub off : AreOffLog state.place state.found

-- The window holds the present content alone: each commit is durable, and each block is claimed.
pub record IsAlone (w : StoreWindow) : Type 0 where
  pub none : w.waiting ≡ 0
  pub claimed : ClaimsAll w.claimed

-- Then the volume over it rests, in a window with this one state.
abbrev pub StartsRest : Type 0
StartsRest = (count : ℕ) (changes : Changes) (state : StateOf) (first : SectorBytes) (m : MapParts) (table : List ℕ) (disk : List (List ℕ)) → BeginsAtRest count changes state first m table disk → RestsBy count changes (facts_of state) first m table disk IsAlone
