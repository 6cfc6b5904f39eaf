-- Why a file isn't made in its place below a level more.
use Rattle.std.specs.Prelude.{⊤, ℕ}
use Rattle.host_base.specs.Answers.{Cause, refused, no_memory, failed}
use Rattle.block_view.specs.declared.fault.ViewFault.{ViewFault}
use Rattle.block_view.specs.declared.fault.ViewFault.TheVariants as view
use Rattle.draft_growth.specs.declared.fault.GrowthFault.{GrowthFault}
use Rattle.draft_growth.specs.declared.fault.GrowthFault.TheVariants as growth
use Rattle.place_makes.specs.declared.fault.PlaceFault.{PlaceFault}
use Rattle.place_makes.specs.declared.fault.PlaceFault.TheVariants as place
use Rattle.place_raises.specs.declared.fault.RaiseFault.{RaiseFault}
use Rattle.place_raises.specs.declared.fault.RaiseFault.TheVariants.{Deep, Fault, Full, Memory, Unplanned}

-- that something would have to grow, would be too full or too deep, refuses it
abbrev pub raise_cause : RaiseFault → Cause (Unit {0})
raise_cause (Deep height) = refused tt
raise_cause Fault = failed
raise_cause (Full used) = refused tt
raise_cause Memory = no_memory
raise_cause Unplanned = refused tt

abbrev pub of_view : ViewFault → RaiseFault
of_view view.Fault = Fault
of_view view.Memory = Memory

-- what is put of the times and of the file has room
abbrev pub of_place : PlaceFault → RaiseFault
of_place place.Fault = Fault
of_place (place.Full used) = Unplanned
of_place place.Memory = Memory
of_place place.Unplanned = Unplanned

-- what is counted has room, so a draft isn't refused for want of it
abbrev pub of_growth : GrowthFault → RaiseFault
of_growth growth.Fault = Fault
of_growth (growth.Full used) = Unplanned
of_growth (growth.Short room) = Unplanned
of_growth growth.Memory = Memory

-- what a fault says of the used bytes
abbrev pub OnFull : (ℕ → Type 0) → RaiseFault → Type 0
OnFull P (Full used) = P used
OnFull P other = ⊤

-- what it says of the levels
abbrev pub OnDeep : (ℕ → Type 0) → RaiseFault → Type 0
OnDeep P (Deep height) = P height
OnDeep P other = ⊤
