-- What a volume keeps in memory of the state that its store shows.
use Rattle.std.specs.Prelude.{◌≡◌, ℕ, ◌^◌, ◌≤◌, false, List, Option, IfSome}
use Rattle.disk_model.specs.declared.block.Block.{Block}
use Rattle.disk_model.specs.Content.{Content}
use Rattle.same_names.specs.state_model.declared.geometry.Geometry.{Geometry}
use Rattle.sector_device.specs.Moments.{Changes}
use Rattle.same_names.specs.volume_model.Volumes.{Volume, upper_of}
use Rattle.same_names.specs.map_change.Parts.{MapParts, parts_of}
use Rattle.state_blocks.specs.plan_owners.States.{Stands}
use Rattle.state_blocks.specs.Needing.{IsNeeded}
use Rattle.turn_laws.specs.store_claims.Windows.{StoreWindow}
use Rattle.turn_laws.specs.txn_model.Values.{StoreFacts}
use Rattle.turn_laws.specs.txn_laws.Windows.{HasWindow}
use Rattle.turn_laws.specs.txn_state.States.{StateOf, facts_of}
use Rattle.turn_laws.specs.txn_core.Views.{present_on, present_content}
use Rattle.turn_laws.specs.Sparing.{IsSpared}

-- where the file table of a map's volume is found
abbrev pub geometry_of : MapParts → Geometry
geometry_of m = record { per_cluster = m.volume.per; mft = m.volume.mft }

-- The content is a state, of which this is the map, and this the table of upper-case units.
pub record IsStateOf (m : MapParts) (table : List ℕ) (c : Content) : Type 0 where
  pub stands : Stands c (geometry_of m) m.volume.clusters m.volume
  pub map : m ≡ parts_of c m.volume
  pub upper : table ≡ upper_of c m.volume

-- The store has a window, and no step of it takes the body of a block from which its present content, over these sectors, is read as a state of this volume.
pub record SparesState (changes : Changes) (f : StoreFacts) (v : Volume) (disk : List (List ℕ)) : Type 0 where
  pub window : StoreWindow
  pub has : HasWindow changes f window
  pub spared : (b : Block) → IsNeeded (present_on disk f) v b → IsSpared f window disk b

-- What is always so of a volume: no transaction is open, and the present content of its store is such a state, which no step of the store takes from it, where it is known.
pub record HoldsState (gives : Option (List (List ℕ))) (changes : Changes) (state : StateOf) (m : MapParts) (table : List ℕ) : Type 0 where
  pub closed : state.is_open ≡ false
  pub near : state.place.device ≤ 2 ^ 62
  pub shown : IfSome (present_content gives state) (IsStateOf m table)
  pub spares : IfSome gives (SparesState changes (facts_of state) m.volume)
