-- Why a file isn't made in its place.
use Rattle.std.specs.Prelude.{⊤, ℕ}
use Rattle.host_base.specs.Answers.{Cause, refused, no_memory, failed}
use Rattle.block_view.specs.declared.fault.ViewFault.{ViewFault}
use Rattle.block_view.specs.declared.fault.ViewFault.TheVariants as view
use Rattle.index_grows.specs.declared.fault.IndexFault.{IndexFault}
use Rattle.index_grows.specs.declared.fault.IndexFault.TheVariants as index
use Rattle.place_makes.specs.declared.fault.PlaceFault.{PlaceFault}
use Rattle.place_makes.specs.declared.fault.PlaceFault.TheVariants.{Fault, Full, Memory, Unplanned}

-- that something would have to grow, or would be too full, refuses it
abbrev pub place_cause : PlaceFault → Cause (Unit {0})
place_cause Fault = failed
place_cause (Full used) = refused tt
place_cause Memory = no_memory
place_cause Unplanned = refused tt

abbrev pub of_view : ViewFault → PlaceFault
of_view view.Fault = Fault
of_view view.Memory = Memory

abbrev pub of_index : IndexFault → PlaceFault
of_index index.Fault = Fault
of_index (index.Full used) = Full used
of_index index.Memory = Memory
of_index index.Unplanned = Unplanned

-- what a fault says of the used bytes
abbrev pub OnFull : (ℕ → Type 0) → PlaceFault → Type 0
OnFull P (Full used) = P used
OnFull P other = ⊤
