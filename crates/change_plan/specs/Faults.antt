-- Why there is no plan of an operation.
use Rattle.host_base.specs.Answers.{Cause, refused, no_memory, failed}
use Rattle.block_view.specs.declared.fault.ViewFault.{ViewFault}
use Rattle.block_view.specs.declared.fault.ViewFault.TheVariants as view
use Rattle.tree_lookup.specs.declared.fault.LookupFault.{LookupFault}
use Rattle.tree_lookup.specs.declared.fault.LookupFault.TheVariants as lookup
use Rattle.change_plan.specs.declared.fault.PlanFault.{PlanFault}
use Rattle.change_plan.specs.declared.fault.PlanFault.TheVariants.{Fault, Memory, Unknown}

-- that what was read is part of no state refuses it
abbrev pub plan_cause : PlanFault → Cause (Unit {0})
plan_cause Fault = failed
plan_cause Memory = no_memory
plan_cause Unknown = refused tt

abbrev pub of_lookup : LookupFault → PlanFault
of_lookup lookup.Outside = Fault
of_lookup lookup.Memory = Memory
of_lookup lookup.Broken = Unknown

abbrev pub of_view : ViewFault → PlanFault
of_view view.Fault = Fault
of_view view.Memory = Memory
