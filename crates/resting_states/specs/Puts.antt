-- A volume at rest, where changes are put.
use Rattle.std.specs.Prelude.{◌≡◌, ℕ, All, List, Option, Some, Result}
use Rattle.disk_model.specs.declared.block.Change.{Change}
use Rattle.sector_device.specs.Moments.{Changes}
use Rattle.member_states.specs.map_change.Parts.{MapParts}
use Rattle.store_model.specs.Geometry.{SectorBytes}
use Rattle.store_claims.specs.Windows.{StoreWindow}
use Rattle.member_states.specs.txn_laws.Windows.{HasWindow}
use Rattle.member_states.specs.txn_state.States.{StateOf, facts_of}
use Rattle.found_stays.specs.txn_core.Views.{present_on}
use Rattle.member_states.specs.state_store.declared.fault.PutFault.{PutFault}
use Rattle.member_states.specs.state_store.Changes.{MayLog, AreApart, LeadsOn}
use Rattle.member_states.specs.state_store.Rooms.{MayNumber}
use Rattle.member_states.specs.state_store.Windows.{AfterPutting}
use Rattle.member_states.specs.state_store.Puts.{PutsOver}
use Rattle.resting_states.specs.Resting.{Rests, RestsBy}

-- A volume may be asked to put these changes: the next transaction has a number, each change lies on the device, no two are of one block or of rivals, and they lead on from what is read.
pub record AreAsked (state : StateOf) (m : MapParts) (table : List ℕ) (disk : List (List ℕ)) (xs : List Change) : Type 0 where
  pub number : MayNumber (facts_of state)
  pub each : All (MayLog (facts_of state)) xs
  pub apart : AreApart xs
  pub leads : LeadsOn m table xs (present_on disk (facts_of state))

-- Behind such changes, whether they were put or not, the volume rests with the map that is kept then, over the same sectors: in a window that follows, and in each one.
pub record PutsRest : Type 0 where
  pub puts : (result : Result (Unit {0}) PutFault) (count : ℕ) (gives gave : Option (List (List ℕ))) (before now : Changes) (old new : StateOf) (first : SectorBytes) (m next : MapParts) (table : List ℕ) (disk : List (List ℕ)) (xs : List Change) (w : StoreWindow)
      → Rests count before (facts_of old) first m table disk w → AreAsked old m table disk xs → gives ≡ Some disk → PutsOver result xs gives gave old new before now m next → RestsBy count now (facts_of new) first next table disk (AfterPutting result xs w)
  pub each : (result : Result (Unit {0}) PutFault) (count : ℕ) (gives gave : Option (List (List ℕ))) (before now : Changes) (old new : StateOf) (first : SectorBytes) (m next : MapParts) (table : List ℕ) (disk : List (List ℕ)) (xs : List Change) (w u : StoreWindow)
      → Rests count before (facts_of old) first m table disk w → AreAsked old m table disk xs → gives ≡ Some disk → PutsOver result xs gives gave old new before now m next → HasWindow now (facts_of new) u → AfterPutting result xs w u → Rests count now (facts_of new) first next table disk u
