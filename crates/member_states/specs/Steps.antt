-- What the steps of a store leave of the states in its window.
use Rattle.std.specs.Prelude.{Bool, Result}
use Rattle.host_base.specs.declared.outside.Failed.{Failed}
use Rattle.disk_model.specs.declared.block.Block.{Block}
use Rattle.flush_policy.specs.declared.facts.StoreStep.{StoreStep}
use Rattle.state_store.specs.store_claims.Windows.{StoreWindow}
use Rattle.state_store.specs.txn_model.Values.{StoreFacts}
use Rattle.state_store.specs.txn_laws.Windows.{AfterWrite, MovesTo}
use Rattle.state_store.specs.txn_core.Steps.{AfterTurn}
use Rattle.member_states.specs.Members.{VolumeBase, MembersAre}

-- A step that a store takes of itself leaves states in its window, whatever it answers: the bodies that it drops aren't claimed.
pub record StepsKeepStates : Type 0 where
  pub write : (base : VolumeBase) (w u : StoreWindow) → AfterWrite w u → MembersAre base w → MembersAre base u
  pub moves : (base : VolumeBase) (lost : Block → Bool) (w u : StoreWindow) → MovesTo lost w u → MembersAre base w → MembersAre base u
  pub turn : (base : VolumeBase) (step : StoreStep) (result : Result (Unit {0}) Failed) (f : StoreFacts) (w u : StoreWindow) → AfterTurn step result f w u → MembersAre base w → MembersAre base u
