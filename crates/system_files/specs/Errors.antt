-- The causes of errors.
use Rattle.host_base.specs.Answers.{Cause, no_memory, failed}
use Rattle.block_view.specs.declared.fault.ViewFault.{ViewFault}
use Rattle.block_view.specs.declared.fault.ViewFault.TheVariants.{Fault, Memory}

-- why a table of upper-case units wasn't read: the view failed, or memory was wanting; none is refused
abbrev pub upper_cause : ViewFault → Cause ⊥
upper_cause Fault = failed
upper_cause Memory = no_memory
