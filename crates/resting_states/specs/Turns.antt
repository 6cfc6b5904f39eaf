-- A volume at rest, where its store takes a step.
use Rattle.std.specs.Prelude.{◌≡◌, ℕ, ◌≤◌, List, Option, Some, Result}
use Rattle.host_base.specs.declared.outside.Failed.{Failed}
use Rattle.sector_device.specs.Moments.{Changes}
use Rattle.volume_model.specs.Volumes.{Volume}
use Rattle.member_states.specs.map_change.Parts.{MapParts}
use Rattle.store_model.specs.Geometry.{SectorBytes}
use Rattle.store_claims.specs.Windows.{StoreWindow}
use Rattle.flush_policy.specs.declared.facts.StoreStep.{StoreStep}
use Rattle.member_states.specs.txn_model.Values.{StoreFacts}
use Rattle.member_states.specs.txn_state.States.{facts_of}
use Rattle.found_stays.specs.txn_core.Seen.{Seen, TakesStep}
use Rattle.found_stays.specs.txn_core.Steps.{MayTurn, HasTurned, TurnsDevice, AfterTurn}
use Rattle.member_states.specs.Members.{VolumeBase, MemberIs, MembersAre}
use Rattle.found_stays.specs.Found.{StaysOver}
use Rattle.resting_states.specs.Resting.{Rests, RestsOn}

-- A step of a store was taken, or failed: what its call promises.
pub record IsTurned {D : Type 0} (gives : D → Option (List (List ℕ))) (count moment : D → ℕ) (changes : D → Changes) (step : StoreStep) (result : Result (Unit {0}) Failed) (old new : Seen D) : Type 0 where
  pub may : MayTurn (facts_of old.state) step
  pub facts : HasTurned step result (facts_of old.state) (facts_of new.state)
  pub sent : TurnsDevice gives changes moment step result (facts_of old.state) (facts_of new.state) old.words new.words old.device new.device
  pub sectors : count new.device ≡ count old.device
  pub step_is : TakesStep count moment changes (AfterTurn step result (facts_of old.state)) old new

-- Behind a step, whatever it answers, the volume rests with the same map, over the sectors that the device gives then, where the blocks by which its log is found stay.
abbrev pub TurnsRest : {D : Type 0} → (D → Option (List (List ℕ))) → (D → ℕ) → (D → ℕ) → (D → Changes) → Type 0
TurnsRest {D} gives count moment changes = (step : StoreStep) (result : Result (Unit {0}) Failed) (old new : Seen D) (first : SectorBytes) (m : MapParts) (table : List ℕ) (disk : List (List ℕ)) (w : StoreWindow)
    → Rests (count old.device) (changes old.device) (facts_of old.state) first m table disk w → gives old.device ≡ Some disk → IsTurned gives count moment changes step result old new → StaysOver (count old.device) (facts_of old.state).found first (changes old.device) (changes new.device)
    → RestsOn gives count changes new first m table (AfterTurn step result (facts_of old.state) w)

-- A step adds no state: each one in the window behind it was one before, as many commits back.
abbrev pub TurnsAddNone : Type 0
TurnsAddNone = (base : VolumeBase) (step : StoreStep) (result : Result (Unit {0}) Failed) (f : StoreFacts) (w u : StoreWindow) → AfterTurn step result f w u → MembersAre base w → (k : ℕ) (v : Volume) → k ≤ u.waiting → MemberIs base u k v → (k ≤ w.waiting) × MemberIs base w k v
