-- What a volume tells of the next step of its store.
use Rattle.std.specs.Prelude.{◌≡◌, ◌↔◌, length, Option, None}
use Rattle.flush_policy.specs.declared.facts.Facts.{Facts}
use Rattle.flush_policy.specs.declared.facts.StoreStep.{StoreStep}
use Rattle.flush_policy.specs.Choice.{next_step}
use Rattle.flush_policy.specs.Steps.{IsDone}
use Rattle.txn_model.specs.Told.{FactsTold}
use Rattle.txn_state.specs.States.{StateOf, facts_of}
use Rattle.working_volume.specs.txn_core.Leading.{dirty_blocks}

-- The step is chosen by what the store tells of itself, and there is none exactly where nothing is left to do.
pub record ComesNext (s : StateOf) (step : Option StoreStep) : Type 0 where
  pub told : Facts
  pub tells : FactsTold (facts_of s) told
  pub chosen : step ≡ next_step told
  pub rests : (step ≡ None) ↔ IsDone (length (dirty_blocks s)) told
