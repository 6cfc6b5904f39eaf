-- Where an error of a call of a draft comes from.
use Rattle.block_view.specs.host_base.Answers.{Cause, no_memory, failed}
use Rattle.block_view.specs.declared.fault.ViewFault.{ViewFault}
use Rattle.block_view.specs.declared.fault.ViewFault.TheVariants as view

-- a call that refuses nothing
abbrev pub fault_cause : ViewFault → Cause (Unit {0})
fault_cause view.Fault = failed
fault_cause view.Memory = no_memory
