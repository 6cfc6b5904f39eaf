-- What a crash leaves of a volume at rest, and over its calls.
use Rattle.std.specs.Prelude.{◌⊎◌, ℕ, ◌≤◌, List, Option, Result}
use Rattle.host_base.specs.declared.outside.Failed.{Failed}
use Rattle.disk_model.specs.declared.block.Change.{Change}
use Rattle.disk_model.specs.Sectors.{sector_of}
use Rattle.sector_device.specs.Moments.{Changes, MayLeaveNow, LeftSince}
use Rattle.member_states.specs.map_change.Parts.{MapParts}
use Rattle.store_model.specs.Geometry.{SectorBytes}
use Rattle.store_claims.specs.Windows.{StoreWindow}
use Rattle.flush_policy.specs.declared.facts.StoreStep.{StoreStep}
use Rattle.member_states.specs.txn_model.Values.{StoreFacts}
use Rattle.member_states.specs.txn_laws.Windows.{Simulates}
use Rattle.member_states.specs.txn_state.States.{StateOf}
use Rattle.found_stays.specs.txn_core.Steps.{AfterTurn}
use Rattle.member_states.specs.state_store.declared.fault.PutFault.{PutFault}
use Rattle.member_states.specs.state_store.Puts.{PutsOver}
use Rattle.member_states.specs.Crashes.{RecoversToState}
use Rattle.found_stays.specs.Found.{StaysOver}
use Rattle.resting_states.specs.Resting.{base_from, Rests}

pub record RestsRecover : Type 0 where
  -- between two calls: each image that a crash may leave now recovers to a state in the window
  pub at_return : (count : ℕ) (changes : Changes) (f : StoreFacts) (first : SectorBytes) (m : MapParts) (table : List ℕ) (disk : List (List ℕ)) (w : StoreWindow) (image : List (List ℕ)) → Rests count changes f first m table disk w → MayLeaveNow count changes image
      → RecoversToState f.place (base_from f first m) w (sector_of image)
  -- inside a step of the store, and behind it: so does each that counts as left since t, by the window before the step, unless it counted so before
  pub turns : (count moment : ℕ) (old now : Changes) (f g : StoreFacts) (first : SectorBytes) (m : MapParts) (table : List ℕ) (disk : List (List ℕ)) (w : StoreWindow) (step : StoreStep) (result : Result (Unit {0}) Failed) (t : ℕ) (image : List (List ℕ)) → Rests count old f first m table disk w
      → Simulates count moment old now f g (AfterTurn step result f) → StaysOver count f.found first old now → t ≤ moment → LeftSince count now t image → LeftSince count old t image ⊎ RecoversToState f.place (base_from f first m) w (sector_of image)
  -- where changes are put nothing else is left
  pub puts : (result : Result (Unit {0}) PutFault) (count : ℕ) (gives gave : Option (List (List ℕ))) (before now : Changes) (old new : StateOf) (m next : MapParts) (xs : List Change) (t : ℕ) (image : List (List ℕ)) → PutsOver result xs gives gave old new before now m next
      → LeftSince count now t image → LeftSince count before t image
