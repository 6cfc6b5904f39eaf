-- Why a store isn't mounted.
use Rattle.std.specs.Prelude.{Result, Ok, Err}
use Rattle.host_base.specs.Answers.{Cause, refused, no_memory, failed, never}
use Rattle.log_recovery.specs.log_reading.declared.fault.LogRefusal.{LogRefusal}
use Rattle.log_recovery.specs.log_reading.declared.fault.RecoveryFault.{RecoveryFault}
use Rattle.log_recovery.specs.log_reading.declared.fault.RecoveryFault.TheVariants as found
use Rattle.txn_mount.specs.declared.fault.StoreFault.{StoreFault}
use Rattle.txn_mount.specs.declared.fault.StoreFault.TheVariants.{Refused, Fault, Memory, Broken}

-- what a fault of recovery is to a mount
abbrev pub store_fault : RecoveryFault → StoreFault
store_fault (found.Refused refusal) = Refused refusal
store_fault found.Fault = Fault
store_fault found.Memory = Memory

-- where an error of a mount comes from, on a disk that is known
abbrev pub store_cause : StoreFault → Cause LogRefusal
store_cause (Refused refusal) = refused refusal
store_cause Fault = failed
store_cause Memory = no_memory
store_cause Broken = never

-- and on any device, by what it counts
abbrev pub count_cause : StoreFault → Cause (Unit {0})
count_cause (Refused refusal) = refused tt
count_cause Fault = failed
count_cause Memory = no_memory
count_cause Broken = refused tt

-- of a mount that gives its device back
abbrev pub cause_of : {D : Type 0} → StoreFault × D → Cause (Unit {0})
cause_of e = count_cause e.0

-- the device behind an answer: that of what was mounted, or the one that is given back
abbrev pub device_behind : {M D : Type 0} → Result M (StoreFault × D) → (M → D) → D
device_behind (Ok m) of = of m
device_behind (Err e) of = e.1
