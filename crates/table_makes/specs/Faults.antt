-- Why a file table doesn't grow as a step counts it.
use Rattle.std.specs.Prelude.{⊤, ℕ}
use Rattle.host_base.specs.Answers.{Cause, refused, no_memory, failed}
use Rattle.draft_growth.specs.declared.fault.GrowthFault.{GrowthFault}
use Rattle.draft_growth.specs.declared.fault.GrowthFault.TheVariants as growth
use Rattle.plan_space.specs.declared.fault.SpaceFault.{SpaceFault}
use Rattle.plan_space.specs.declared.fault.SpaceFault.TheVariants as space
use Rattle.table_makes.specs.declared.fault.CountFault.{CountFault}
use Rattle.table_makes.specs.declared.fault.CountFault.TheVariants as count
use Rattle.table_makes.specs.declared.fault.TableFault.{TableFault}
use Rattle.table_makes.specs.declared.fault.TableFault.TheVariants.{Fault, Full, Memory, Unplanned}

-- a record that would be too full refuses it, and something that isn't planned
abbrev pub table_cause : TableFault → Cause (Unit {0})
table_cause Fault = failed
table_cause (Full used) = refused tt
table_cause Memory = no_memory
table_cause Unplanned = refused tt

-- what a count refuses is what the call refuses
abbrev pub of_count : CountFault → TableFault
of_count (count.Full used) = Full used
of_count count.Memory = Memory
of_count count.Unplanned = Unplanned

-- there are fewer clear clusters than an operation asks for
abbrev pub of_space : SpaceFault → CountFault
of_space (space.Short room) = count.Unplanned
of_space space.Memory = count.Memory

-- what is counted has room, so a draft isn't refused for want of it
abbrev pub of_growth : GrowthFault → TableFault
of_growth growth.Fault = Fault
of_growth (growth.Full used) = Unplanned
of_growth (growth.Short room) = Unplanned
of_growth growth.Memory = Memory

-- what a fault says of the used bytes
abbrev pub OnFull : (ℕ → Type 0) → TableFault → Type 0
OnFull P (Full used) = P used
OnFull P other = ⊤

abbrev pub OnCountFull : (ℕ → Type 0) → CountFault → Type 0
OnCountFull P (count.Full used) = P used
OnCountFull P other = ⊤
