-- The causes of errors.
use Rattle.std.specs.Prelude.{◌≡◌, ⊤, Result, Ok, Err}
use Rattle.volume_model.specs.host_base.Answers.{Cause, refused, no_memory, failed}
use Rattle.stream_map.specs.block_view.declared.fault.ViewFault.{ViewFault}
use Rattle.stream_map.specs.block_view.declared.fault.ViewFault.TheVariants as views
use Rattle.state_model.specs.declared.geometry.MapRefusal.{MapRefusal}
use Rattle.volume_map.specs.declared.fault.MapFault.{MapFault}
use Rattle.volume_map.specs.declared.fault.MapFault.TheVariants as faults

abbrev pub map_cause : MapFault → Cause MapRefusal
map_cause (faults.Refused refusal) = refused refusal
map_cause faults.View = failed
map_cause faults.Memory = no_memory

-- what a view's fault becomes
abbrev pub is_of_view : ViewFault → MapFault → Type 0
is_of_view views.Fault fault = fault ≡ faults.View
is_of_view views.Memory fault = fault ≡ faults.Memory

-- it answers no refusal
abbrev pub NeverRefused : {X : Type 0} → Result X MapFault → Type 0
NeverRefused (Ok x) = ⊤
NeverRefused (Err (faults.Refused refusal)) = ⊥
NeverRefused (Err faults.View) = ⊤
NeverRefused (Err faults.Memory) = ⊤
