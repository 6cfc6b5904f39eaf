-- What a volume shows of its changes, in the words of its store's window.
use Rattle.std.specs.Prelude.{◌≡◌, ◌^◌, ◌≤◌, true, false, List, ℕ, Some}
use Rattle.std.specs.List.{AllByRecursion}
use Rattle.disk_model.specs.declared.block.Block.{Block}
use Rattle.disk_model.specs.declared.block.Change.{Change}
use Rattle.disk_model.specs.Content.{Content, HasSizes}
use Rattle.sector_device.specs.Disks.{SeesDisk}
use Rattle.sector_device.specs.Moments.{Changes}
use Rattle.state_store.specs.volume_model.Indexes.{void_block}
use Rattle.state_store.specs.map_change.Parts.{MapParts}
use Rattle.state_store.specs.plan_owners.States.{Stands}
use Rattle.state_store.specs.state_blocks.Needing.{IsNeeded}
use Rattle.state_store.specs.store_claims.Windows.{StoreWindow}
use Rattle.state_store.specs.txn_model.Values.{StoreFacts}
use Rattle.state_store.specs.txn_laws.Windows.{HasWindow}
use Rattle.state_store.specs.txn_core.Views.{present_on}
use Rattle.state_store.specs.turn_laws.Sparing.{IsSpared}
use Rattle.state_store.specs.Volumes.{geometry_of}
use Rattle.state_store.specs.Changes.{MayLog, AreApart, LeadsOn}
use Rattle.member_states.specs.Members.{base_of, is_found, void_body, MembersAre}
use Rattle.member_states.specs.Puts.{MayPut}

-- A volume at rest over these sectors, whose window is this one: the window holds states, no step of the store takes what the present content is read from, and the blocks by which the
-- log is found are as they always were.
pub record IsAtRest (changes : Changes) (f : StoreFacts) (lies : Content) (m : MapParts) (disk : List (List ℕ)) (w : StoreWindow) : Type 0 where
  pub has : HasWindow changes f w
  pub sees : SeesDisk (Some disk) changes.disk
  pub closed : f.is_open ≡ false
  pub near : f.place.device ≤ 2 ^ 62
  pub sized : HasSizes (present_on disk f)
  pub void : present_on disk f void_block ≡ void_body
  pub found : (b : Block) → is_found (base_of f lies (geometry_of m) m.volume.clusters) b ≡ true → present_on disk f b ≡ lies b
  pub spared : (b : Block) → IsNeeded (present_on disk f) m.volume b → IsSpared f w disk b
  pub members : MembersAre (base_of f lies (geometry_of m) m.volume.clusters) w

-- The changes that a volume takes, by what it reads of its store, may be put into the store's window.
abbrev pub VolumesMayPut : Type 0
VolumesMayPut = (changes : Changes) (f : StoreFacts) (lies : Content) (m : MapParts) (table : List ℕ) (disk : List (List ℕ)) (w : StoreWindow) (xs : List Change) → IsAtRest changes f lies m disk w → Stands (present_on disk f) (geometry_of m) m.volume.clusters m.volume
    → LeadsOn m table xs (present_on disk f) → AllByRecursion (MayLog f) xs → AreApart xs → MayPut f (geometry_of m) m.volume.clusters xs w
