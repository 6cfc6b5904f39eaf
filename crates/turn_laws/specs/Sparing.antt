-- Blocks whose bodies stay over the steps of a store.
use Rattle.std.specs.Prelude.{◌≡◌, ℕ, true, false, List, [], Option, Some, None, Result, is_some}
use Rattle.host_base.specs.declared.outside.Failed.{Failed}
use Rattle.disk_model.specs.declared.block.Block.{Block}
use Rattle.disk_model.specs.declared.block.Body.{Body}
use Rattle.disk_model.specs.Sectors.{are_rivals}
use Rattle.sector_device.specs.Moments.{Changes}
use Rattle.txn_core.specs.store_model.Volumes.{is_known}
use Rattle.txn_core.specs.store_claims.Windows.{StoreWindow}
use Rattle.flush_policy.specs.declared.facts.StoreStep.{StoreStep}
use Rattle.txn_core.specs.txn_model.Values.{StoreFacts, is_own}
use Rattle.txn_core.specs.txn_laws.Windows.{HasWindow}
use Rattle.txn_core.specs.txn_state.States.{facts_of, IsStore}
use Rattle.txn_core.specs.Seen.{Seen, TakesStep}
use Rattle.txn_core.specs.Steps.{MayTurn, HasTurned, TurnsDevice, AfterTurn}
use Rattle.txn_core.specs.Views.{present_on}

-- No step of the store takes the body of the block: it is in the grid and on no page of the log, its body isn't dead, and no rival is dirty. A body that is kept of it isn't
-- torn, and in the window it is torn at most where it is torn in the present content.
pub record IsSpared (f : StoreFacts) (w : StoreWindow) (disk : List (List ℕ)) (b : Block) : Type 0 where
  pub known : is_known (is_own f.place []) b ≡ true
  pub alive : (f.mark b).dead ≡ false
  pub alone : (c : Block) → are_rivals b c ≡ true → (f.mark c).dirty ≡ false
  pub whole : is_some (f.body b) ≡ true → (present_on disk f b).torn ≡ false
  pub shown : (w.present b).torn ≡ true → (present_on disk f b).torn ≡ true

-- the bytes stay, and the body is torn at most where it was
pub record KeepsBody (old new : Body) : Type 0 where
  pub bytes : new.bytes ≡ old.bytes
  pub torn : new.torn ≡ true → old.torn ≡ true

-- What a step leaves of a store that had this window, on a device that gave these sectors: a window that follows, and sectors that the device gives; and each block that
-- was spared is spared still, and keeps its body.
pub record StepSpares {D : Type 0} (gives : D → Option (List (List ℕ))) (changes : D → Changes) (After : StoreWindow → StoreWindow → Type 0) (w : StoreWindow) (disk : List (List ℕ)) (old new : Seen D) : Type 0 where
  pub window : StoreWindow
  pub has : HasWindow (changes new.device) (facts_of new.state) window
  pub follows : After w window
  pub now : List (List ℕ)
  pub given : gives new.device ≡ Some now
  pub spared : (b : Block) → IsSpared (facts_of old.state) w disk b → IsSpared (facts_of new.state) window now b
  pub bodies : (b : Block) → IsSpared (facts_of old.state) w disk b → KeepsBody (present_on disk (facts_of old.state) b) (present_on now (facts_of new.state) b)

-- Each step that a store may take spares these blocks, whether it answers `Ok` or fails. What the device gives is known behind it only where it was; and it opens no
-- transaction, and ends none.
pub record StepsSpare {D : Type 0} (gives : D → Option (List (List ℕ))) (count moment : D → ℕ) (changes : D → Changes) : Type 0 where
  pub turn : (step : StoreStep) (result : Result (Unit {0}) Failed) (old new : Seen D) (w : StoreWindow) (disk : List (List ℕ)) → IsStore (facts_of old.state) → gives old.device ≡ Some disk → HasWindow (changes old.device) (facts_of old.state) w
      → MayTurn (facts_of old.state) step → HasTurned step result (facts_of old.state) (facts_of new.state) → TurnsDevice gives changes moment step result (facts_of old.state) (facts_of new.state) old.words new.words old.device new.device
      → TakesStep count moment changes (AfterTurn step result (facts_of old.state)) old new → StepSpares gives changes (AfterTurn step result (facts_of old.state)) w disk old new
  pub unknown : (step : StoreStep) (result : Result (Unit {0}) Failed) (old new : Seen D) → TakesStep count moment changes (AfterTurn step result (facts_of old.state)) old new → gives old.device ≡ None → gives new.device ≡ None
  pub rest : (step : StoreStep) (result : Result (Unit {0}) Failed) (f g : StoreFacts) → HasTurned step result f g → (g.place ≡ f.place) × (g.is_open ≡ f.is_open) × (g.commits ≡ f.commits)
