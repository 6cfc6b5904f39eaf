-- What the steps of a store lead to, one after the other.
use Rattle.std.specs.Prelude.{◌≡◌, ◌↔◌, ◌<◌, ◌&&◌, not, Bool, false, if◌then◌else◌, List, [], ◌∷◌, length, Some, None, Ok}
use Rattle.std.specs.List.{list_any}
use Rattle.device_blocks.specs.disk_model.declared.block.Block.{Block}
use Rattle.device_blocks.specs.disk_model.Sectors.{same_block}
use Rattle.txn_laws.specs.flush_policy.declared.facts.Facts.{Facts}
use Rattle.txn_laws.specs.flush_policy.declared.facts.StoreStep.{StoreStep}
use Rattle.txn_laws.specs.flush_policy.Choice.{next_step}
use Rattle.txn_laws.specs.flush_policy.Steps.{IsDone, to_do}
use Rattle.txn_state.specs.store_pools.Pools.{marks_of}
use Rattle.txn_laws.specs.txn_model.declared.mark.Mark.{Mark}
use Rattle.txn_laws.specs.txn_model.Values.{StoreFacts}
use Rattle.txn_laws.specs.txn_model.Told.{FactsTold, AreDirty, KeepsSteps}
use Rattle.txn_state.specs.States.{StateOf, facts_of}
use Rattle.txn_core.specs.Kept.{IsKept}
use Rattle.txn_core.specs.Steps.{MayTurn, HasTurned}
use Rattle.txn_core.specs.Turns.{HasNext}

-- the blocks of these that pass, each once
abbrev pub passing : (Block → Bool) → List (Block × Mark) → List Block
passing test [] = []
passing test (e ∷ es) = if test e.0 && not (list_any (same_block e.0) (passing test es)) then e.0 ∷ passing test es else passing test es

-- the blocks of a store that are dirty
abbrev pub dirty_blocks : StateOf → List Block
dirty_blocks s = passing (λ b. (marks_of s.marks b).dirty) s.marks

-- What the next steps of a store lead to, where no transaction is open.
pub record StepsLeadOn : Type 0 where
  -- the next step may be taken
  pub may : (f : StoreFacts) (told : Facts) (step : StoreStep) → KeepsSteps f → FactsTold f told → f.is_open ≡ false → HasNext f.log → next_step told ≡ Some step → MayTurn f step
  -- it leaves less to do, where it answers Ok
  pub less : (f g : StoreFacts) (told later : Facts) (step : StoreStep) (dirty left : List Block) → IsKept f → f.is_open ≡ false → FactsTold f told → FactsTold g later → AreDirty f dirty → AreDirty g left → next_step told ≡ Some step
      → HasTurned step (Ok tt) f g → to_do (length left) later < to_do (length dirty) told
  -- there is none exactly where nothing is left to do
  pub rests : (f : StoreFacts) (told : Facts) (dirty : List Block) → IsKept f → f.is_open ≡ false → FactsTold f told → AreDirty f dirty → (next_step told ≡ None) ↔ IsDone (length dirty) told
  -- and these are the blocks that are dirty
  pub dirty : (s : StateOf) → AreDirty (facts_of s) (dirty_blocks s)
