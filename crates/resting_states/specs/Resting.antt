-- What is always so of a volume on a device between two calls.
use Rattle.std.specs.Prelude.{◌≡◌, ℕ, ◌^◌, ◌≤◌, List, Option, Some}
use Rattle.disk_model.specs.Content.{content_of}
use Rattle.sector_device.specs.Moments.{Changes}
use Rattle.sector_device.specs.Sectors.{IsDiskOf}
use Rattle.member_states.specs.map_change.Parts.{MapParts}
use Rattle.store_model.specs.Geometry.{SectorBytes}
use Rattle.store_claims.specs.Windows.{StoreWindow}
use Rattle.member_states.specs.txn_model.Values.{StoreFacts}
use Rattle.member_states.specs.txn_state.States.{facts_of, IsStore}
use Rattle.found_stays.specs.txn_core.Seen.{Seen}
use Rattle.found_stays.specs.txn_core.Views.{present_on}
use Rattle.member_states.specs.state_store.Volumes.{geometry_of, IsStateOf}
use Rattle.member_states.specs.Members.{VolumeBase, base_of}
use Rattle.member_states.specs.Leads.{IsAtRest}
use Rattle.found_stays.specs.Found.{StaysFirst, AreOffLog}

-- what the states of a volume stand on, with these sectors as they were at first
abbrev pub base_from : StoreFacts → SectorBytes → MapParts → VolumeBase
base_from f first m = base_of f (content_of first) (geometry_of m) m.volume.clusters

-- The device gives these sectors, so many; of what is read of them by the store the map is the map, and the table that of upper-case units; the store is at rest over them in this
-- window; and the blocks by which its log is found lie off the log, and are as they were at first.
pub record Rests (count : ℕ) (changes : Changes) (f : StoreFacts) (first : SectorBytes) (m : MapParts) (table : List ℕ) (disk : List (List ℕ)) (w : StoreWindow) : Type 0 where
  pub store : IsStore f
  pub rest : IsAtRest changes f (content_of first) m disk w
  pub state : IsStateOf m table (present_on disk f)
  pub whole : IsDiskOf count disk
  pub few : count ≤ 2 ^ 62
  pub near : f.place.clusters ≤ 2 ^ 59
  pub stays : StaysFirst f.found first changes
  pub off : AreOffLog f.place f.found

-- so it is in a window that follows
pub record RestsBy (count : ℕ) (changes : Changes) (f : StoreFacts) (first : SectorBytes) (m : MapParts) (table : List ℕ) (disk : List (List ℕ)) (After : StoreWindow → Type 0) : Type 0 where
  pub window : StoreWindow
  pub follows : After window
  pub rests : Rests count changes f first m table disk window

-- and over the sectors that the device of a store gives now
pub record RestsOn {D : Type 0} (gives : D → Option (List (List ℕ))) (count : D → ℕ) (changes : D → Changes) (s : Seen D) (first : SectorBytes) (m : MapParts) (table : List ℕ) (After : StoreWindow → Type 0) : Type 0 where
  pub disk : List (List ℕ)
  pub given : gives s.device ≡ Some disk
  pub behind : RestsBy (count s.device) (changes s.device) (facts_of s.state) first m table disk After
