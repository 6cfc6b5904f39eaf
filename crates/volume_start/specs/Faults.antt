-- Why a volume isn't started.
use Rattle.std.specs.Prelude.{Result, Ok, Err}
use Rattle.host_base.specs.Answers.{Cause, refused, no_memory, failed}
use Rattle.mounted_states.specs.image_open.declared.refusal.MountFault.{MountFault}
use Rattle.mounted_states.specs.image_open.declared.refusal.MountFault.TheVariants as mounts
use Rattle.mounted_states.specs.image_open.Errors.{log_refusal}
use Rattle.txn_mount.specs.declared.fault.StoreFault.{StoreFault}
use Rattle.txn_mount.specs.declared.fault.StoreFault.TheVariants as stores
use Rattle.volume_start.specs.declared.fault.StartFault.{StartFault}
use Rattle.volume_start.specs.declared.fault.StartFault.TheVariants.{Refused, Device, Memory, Unfit, Unknown}

-- what a fault of the volume's mount is to a start
abbrev pub start_fault : MountFault → StartFault
start_fault (mounts.Refused refusal) = Refused refusal
start_fault mounts.Device = Device
start_fault mounts.Memory = Memory

-- and one of the store's
abbrev pub fault_of_store : StoreFault → StartFault
fault_of_store (stores.Refused refusal) = Refused (log_refusal refusal)
fault_of_store stores.Fault = Device
fault_of_store stores.Memory = Memory
fault_of_store stores.Broken = Unknown

-- where an error comes from, by what it counts: only the device's counts a failure
abbrev pub count_cause : StartFault → Cause (Unit {0})
count_cause (Refused refusal) = refused tt
count_cause Device = failed
count_cause Memory = no_memory
count_cause Unfit = refused tt
count_cause Unknown = refused tt

-- of a start that gives its device back
abbrev pub cause_of : {D : Type 0} → StartFault × D → Cause (Unit {0})
cause_of e = count_cause e.0

-- the device behind an answer: that of what was started, or the one that is given back
abbrev pub device_behind : {M D : Type 0} → Result M (StartFault × D) → (M → D) → D
device_behind (Ok m) of = of m
device_behind (Err e) of = e.1
