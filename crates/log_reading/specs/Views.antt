-- What the faults of a view are here.
use Rattle.std.specs.Prelude.{⊤}
use Rattle.disk_model.specs.host_base.Answers.{Cause, refused, no_memory, failed}
use Rattle.block_view.specs.declared.fault.ViewFault.{ViewFault}
use Rattle.block_view.specs.declared.fault.ViewFault.TheVariants as views
use Rattle.log_reading.specs.declared.fault.LogRefusal.{LogRefusal}
use Rattle.log_reading.specs.declared.fault.RecoveryFault.{RecoveryFault}
use Rattle.log_reading.specs.declared.fault.RecoveryFault.TheVariants.{Refused, Fault, Memory}

abbrev pub fault_of_view : ViewFault → RecoveryFault
fault_of_view views.Fault = Fault
fault_of_view views.Memory = Memory

-- it isn't a refusal
abbrev pub NeverForeign : RecoveryFault → Type 0
NeverForeign (Refused refusal) = ⊥
NeverForeign Fault = ⊤
NeverForeign Memory = ⊤

-- where an error of a call comes from
abbrev pub recovery_cause : RecoveryFault → Cause LogRefusal
recovery_cause (Refused refusal) = refused refusal
recovery_cause Fault = failed
recovery_cause Memory = no_memory
