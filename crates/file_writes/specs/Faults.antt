-- Why a file isn't written or cut.
use Rattle.std.specs.Prelude.{◌≡◌, ⊤, ℕ, List, Option, Some, None, Result, Ok, Err}
use Rattle.host_base.specs.Answers.{Cause, refused, no_memory, failed}
use Rattle.block_view.specs.declared.fault.ViewFault.{ViewFault}
use Rattle.block_view.specs.declared.fault.ViewFault.TheVariants as view
use Rattle.plan_draft.specs.declared.touched.Touched.{Touched}
use Rattle.tree_model.specs.declared.reply.Reply.{Reply}
use Rattle.tree_model.specs.declared.reply.Reply.TheVariants.{RecordFull}
use Rattle.file_puts.specs.data_plan.declared.fault.DataFault.{DataFault}
use Rattle.file_puts.specs.data_plan.declared.fault.DataFault.TheVariants as «data»
use Rattle.file_writes.specs.declared.fault.WriteFault.{WriteFault}
use Rattle.file_writes.specs.declared.fault.WriteFault.TheVariants.{Full, Short, Fault, Memory}

-- a refusal is the bytes that the record would use, or the clusters that are free
abbrev pub write_cause : WriteFault → Cause ℕ
write_cause (Full used) = refused used
write_cause (Short room) = refused room
write_cause Fault = failed
write_cause Memory = no_memory

abbrev pub of_data : DataFault → WriteFault
of_data («data».Full used) = Full used
of_data («data».Short room) = Short room
of_data «data».Memory = Memory

abbrev pub of_view : ViewFault → WriteFault
of_view view.Fault = Fault
of_view view.Memory = Memory

-- so many clusters are clear, or memory is wanting; the view isn't asked before
abbrev pub IsShortFault : ℕ → WriteFault → Type 0
IsShortFault room (Full used) = ⊥
IsShortFault room (Short clear) = clear ≡ room
IsShortFault room Fault = ⊥
IsShortFault room Memory = ⊤

abbrev pub IsShortOf : {T : Type 0} → ℕ → Result T WriteFault → Type 0
IsShortOf room (Ok x) = ⊥
IsShortOf room (Err fault) = IsShortFault room fault

-- the record is refused as this row says; where none refuses it the view may fail; or memory is wanting
abbrev pub IsRowFault : Option Reply → WriteFault → Type 0
IsRowFault row (Full used) = row ≡ Some (RecordFull used)
IsRowFault row (Short clear) = ⊥
IsRowFault row Fault = row ≡ None
IsRowFault row Memory = ⊤

abbrev pub HasRow : {T : Type 0} → Option Reply → Result T WriteFault → Type 0
HasRow row (Ok x) = row ≡ None
HasRow row (Err fault) = IsRowFault row fault

-- what is refused touches nothing
abbrev pub StaysWhereRefused : List Touched → List Touched → WriteFault → Type 0
StaysWhereRefused old new (Full used) = new ≡ old
StaysWhereRefused old new (Short room) = new ≡ old
StaysWhereRefused old new Fault = ⊤
StaysWhereRefused old new Memory = ⊤
