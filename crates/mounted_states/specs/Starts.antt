-- A store that was mounted on the sectors from which a volume was mounted begins at rest over that volume.
use Rattle.std.specs.Prelude.{◌≡◌, ℕ, ◌≤◌, List, length, Some}
use Rattle.disk_model.specs.Sectors.{sector_of}
use Rattle.sector_device.specs.Moments.{Changes}
use Rattle.log_reading.specs.Rings.{IsRingPlace}
use Rattle.safe_blocks.specs.map_change.Parts.{MapParts, parts_of}
use Rattle.safe_blocks.specs.plan_spares.Plans.{HasOwnLists}
use Rattle.safe_blocks.specs.image_open.LogPlaces.{LieAlike}
use Rattle.safe_blocks.specs.image_open.Writing.{found_by}
use Rattle.safe_blocks.specs.volume_mount.Mounts.{MountedVolume, upper_in}
use Rattle.txn_state.specs.States.{StateOf, facts_of, IsStore}
use Rattle.safe_blocks.specs.txn_core.Views.{present_on}
use Rattle.safe_blocks.specs.state_store.Volumes.{geometry_of, HoldsState}
use Rattle.safe_blocks.specs.spares_at_mount.Mounts.{LiesInLog}
use Rattle.resting_states.specs.Starts.{BeginsAtRest}
use Rattle.mounted_states.specs.Shown.{AreBothMounted}

-- A store in memory stands so on its device, and this is the map of the mounted volume, and this its table of upper-case units.
pub record IsMountedWith (count : ℕ) (first disk : List (List ℕ)) (m : MountedVolume) (old now : Changes) (state : StateOf) (p : MapParts) (table : List ℕ) : Type 0 where
  pub both : AreBothMounted count first disk m old now (facts_of state)
  pub store : IsStore (facts_of state)
  pub device : state.place.device ≤ count
  pub map : p ≡ parts_of m.content m.volume
  pub table_is : table ≡ upper_in m

-- The volume begins at rest over these sectors, with the blocks by which its log is found as the first sectors have them: so it holds a state. No attribute list has a part in another record; and the store's log lies
-- in the clusters of the volume's, in pages that may be written, where the mounted volume's lies, and is found by the boot sector and record 2 as the map says.
pub record BeginsWith (count : ℕ) (first disk : List (List ℕ)) (m : MountedVolume) (now : Changes) (state : StateOf) (p : MapParts) (table : List ℕ) : Type 0 where
  pub begins : BeginsAtRest count now state (sector_of first) p table disk
  pub holds : HoldsState (Some disk) now state p table
  pub lists : HasOwnLists (present_on disk (facts_of state)) p.volume
  pub ring : IsRingPlace state.place
  pub lies : LiesInLog state.place p.volume
  pub geometry : geometry_of p ≡ m.opened.geometry
  pub total : p.volume.clusters ≡ m.opened.total
  pub clusters : state.place.clusters ≡ p.volume.clusters
  pub found : state.found ≡ found_by (geometry_of p)
  pub alike : LieAlike state.place m.opened.place
  pub long : length first ≡ count

abbrev pub StoresBegin : Type 0
StoresBegin = (count : ℕ) (first disk : List (List ℕ)) (m : MountedVolume) (old now : Changes) (state : StateOf) (p : MapParts) (table : List ℕ) → IsMountedWith count first disk m old now state p table → BeginsWith count first disk m now state p table
