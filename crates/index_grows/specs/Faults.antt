-- Why a directory's index doesn't get blocks.
use Rattle.host_base.specs.Answers.{Cause, refused, no_memory, failed}
use Rattle.draft_growth.specs.declared.fault.GrowthFault.{GrowthFault}
use Rattle.draft_growth.specs.declared.fault.GrowthFault.TheVariants as growth
use Rattle.index_grows.specs.declared.fault.IndexFault.{IndexFault}
use Rattle.index_grows.specs.declared.fault.IndexFault.TheVariants.{Fault, Full, Memory, Unplanned}

-- a record that would be too full refuses it, and something that isn't planned
abbrev pub index_cause : IndexFault → Cause (Unit {0})
index_cause Fault = failed
index_cause (Full used) = refused tt
index_cause Memory = no_memory
index_cause Unplanned = refused tt

-- what is counted has room, so a draft isn't refused for want of it
abbrev pub of_growth : GrowthFault → IndexFault
of_growth growth.Fault = Fault
of_growth (growth.Full used) = Unplanned
of_growth (growth.Short room) = Unplanned
of_growth growth.Memory = Memory
