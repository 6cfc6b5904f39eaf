-- What a store shows that was mounted on the sectors from which a volume was mounted.
use Rattle.std.specs.Prelude.{◌≡◌, ℕ, ◌*◌, ◌^◌, ◌<◌, ◌≤◌, false, List, length, Some, Ok, IfSome}
use Rattle.disk_model.specs.declared.block.Block.{Block}
use Rattle.disk_model.specs.Sectors.{sector_of}
use Rattle.disk_model.specs.Content.{Content, content_of}
use Rattle.sector_device.specs.Disks.{IsSettled, SeesDisk}
use Rattle.sector_device.specs.Moments.{Changes}
use Rattle.sector_device.specs.Sectors.{IsDiskOf}
use Rattle.volume_model.specs.Volumes.{upper_of}
use Rattle.volume_state.specs.Trees.{tree_of}
use Rattle.safe_blocks.specs.map_change.Parts.{parts_of}
use Rattle.safe_blocks.specs.plan_owners.States.{Stands}
use Rattle.safe_blocks.specs.state_blocks.Needing.{IsNeeded, AgreeOnNeeded}
use Rattle.log_recovery.specs.declared.writing.ToWrite.{ToWrite}
use Rattle.log_recovery.specs.LogStates.{LogState}
use Rattle.log_recovery.specs.Writing.{IsToWrite}
use Rattle.safe_blocks.specs.image_open.LogPlaces.{LieAlike}
use Rattle.safe_blocks.specs.image_open.Writing.{found_by}
use Rattle.safe_blocks.specs.volume_mount.Mounts.{MountedVolume, upper_in, tree_in, mounted_of}
use Rattle.txn_model.specs.Values.{StoreFacts}
use Rattle.txn_model.specs.Calls.{first_facts}
use Rattle.safe_blocks.specs.txn_core.Views.{present_on}
use Rattle.stays_at_mount.specs.txn_mount.Contents.{stays_torn}
use Rattle.stays_at_mount.specs.txn_mount.Mounts.{ShowsRecovered, ShowsDisk}
use Rattle.resting_states.specs.found_stays.Found.{StaysFirst}

-- No block from which the volume is read stays torn, as a torn block does that has the recovered bytes already where no bytes of a disk show these untorn.
abbrev pub NoneStaysTorn : Content → MountedVolume → Type 0
NoneStaysTorn c m = (b : Block) → IsNeeded m.content m.volume b → stays_torn c m.opened.state.log b ≡ false

-- A volume was mounted from the first sectors, so many, of which nothing was unsynced. Then a store was mounted there, by a log that lies where the volume's does and is found by the same
-- blocks: it stands at its start on these sectors, it shows what recovery made of the first ones, and the blocks by which its log is found are as they were.
pub record AreBothMounted (count : ℕ) (first disk : List (List ℕ)) (m : MountedVolume) (old now : Changes) (f : StoreFacts) : Type 0 where
  pub mounted : mounted_of first ≡ Ok m
  pub before : SeesDisk (Some first) old.disk
  pub settled : IfSome old.disk IsSettled
  pub whole : IsDiskOf count first
  pub after : SeesDisk (Some disk) now.disk
  pub given : IsDiskOf count disk
  pub few : count ≤ 2 ^ 62
  pub facts : f ≡ first_facts f.place f.log f.found
  pub found : f.found ≡ found_by m.opened.geometry
  pub alike : LieAlike f.place m.opened.place
  pub small : f.place.pages < 2 ^ 52
  pub inside : 8 * f.place.clusters ≤ count
  pub shows : ShowsRecovered f.place f.found old now f
  pub starts : ShowsDisk now f
  pub stays : StaysFirst f.found (sector_of first) now
  pub untorn : NoneStaysTorn (content_of (sector_of first)) m

-- This content is the state that was mounted: it agrees with the recovered content on each block from which the volume is read. So it is a state of the same volume, with the same tree, table of upper-case units, and map.
pub record ShowsMounted (m : MountedVolume) (d : Content) : Type 0 where
  pub agrees : AgreeOnNeeded m.content d m.volume
  pub stands : Stands d m.opened.geometry m.opened.total m.volume
  pub tree : tree_of d m.volume ≡ tree_in m
  pub upper : upper_of d m.volume ≡ upper_in m
  pub map : parts_of d m.volume ≡ parts_of m.content m.volume

-- So what the store shows is that state.
abbrev pub StoresShowMounted : Type 0
StoresShowMounted = (count : ℕ) (first disk : List (List ℕ)) (m : MountedVolume) (old now : Changes) (f : StoreFacts) → AreBothMounted count first disk m old now f → ShowsMounted m (present_on disk f)

-- Where a mount puts out each body that recovery found, none stays torn.
abbrev pub AllPutOut : Type 0
AllPutOut = (c : Content) (state : LogState) (found : ToWrite) → IsToWrite c state found → length found.written.items ≡ length found.recovered.blocks.bodies.items → (b : Block) → stays_torn c state.log b ≡ false
