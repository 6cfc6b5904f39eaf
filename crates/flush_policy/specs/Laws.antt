-- The laws of the next step.
use Rattle.std.specs.Prelude.{◌≡◌, ◌↔◌, ℕ, ◌<◌, Some, None}
use Rattle.flush_policy.specs.declared.facts.Facts.{Facts}
use Rattle.flush_policy.specs.declared.facts.StoreStep.{StoreStep}
use Rattle.flush_policy.specs.Choice.{next_step}
use Rattle.flush_policy.specs.Steps.{MayTake, CanBe, IsDone, Becomes, to_do}

-- there is no next step exactly where nothing is left to do
abbrev pub RestsWhenDone : Type 0
RestsWhenDone = (dirty : ℕ) (f : Facts) → CanBe dirty f → (next_step f ≡ None) ↔ IsDone dirty f

abbrev pub StepsMayBeTaken : Type 0
StepsMayBeTaken = (f : Facts) (step : StoreStep) → next_step f ≡ Some step → MayTake f step

-- each next step leaves less to do
abbrev pub StepsComeToAnEnd : Type 0
StepsComeToAnEnd = (step : StoreStep) (dirty left : ℕ) (f g : Facts) → CanBe dirty f → next_step f ≡ Some step → Becomes step dirty f left g → to_do left g < to_do dirty f
