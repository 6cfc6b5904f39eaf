-- The causes of errors.
use Rattle.std.specs.Prelude.{◌≡◌}
use Rattle.host_base.specs.Answers.{Cause, no_memory, failed}
use Rattle.block_view.specs.declared.fault.ViewFault.{ViewFault}
use Rattle.block_view.specs.declared.fault.ViewFault.TheVariants as views
use Rattle.stream_rules.specs.declared.fault.SizesFault.{SizesFault}
use Rattle.stream_rules.specs.declared.fault.SizesFault.TheVariants as faults

-- nothing is refused
abbrev pub sizes_cause : SizesFault → Cause ⊥
sizes_cause faults.View = failed
sizes_cause faults.Memory = no_memory

-- what a view's fault becomes
abbrev pub is_of_view : ViewFault → SizesFault → Type 0
is_of_view views.Fault fault = fault ≡ faults.View
is_of_view views.Memory fault = fault ≡ faults.Memory
