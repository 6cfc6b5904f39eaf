-- Why nothing comes of a file's unnamed data.
use Rattle.std.specs.Prelude.{◌≡◌, ⊤, ℕ, Option, Some, None, Result, Ok, Err}
use Rattle.used_laws.specs.plan_space.declared.fault.SpaceFault.{SpaceFault}
use Rattle.used_laws.specs.plan_space.declared.fault.SpaceFault.TheVariants as space
use Rattle.used_laws.specs.tree_model.declared.reply.Reply.{Reply}
use Rattle.used_laws.specs.tree_model.declared.reply.Reply.TheVariants.{RecordFull}
use Rattle.data_plan.specs.declared.fault.DataFault.{DataFault}
use Rattle.data_plan.specs.declared.fault.DataFault.TheVariants.{Full, Short, Memory}

abbrev pub of_space : SpaceFault → DataFault
of_space (space.Short room) = Short room
of_space space.Memory = Memory

-- so many clusters are clear, or memory is wanting
abbrev pub IsShortFault : ℕ → DataFault → Type 0
IsShortFault room (Full used) = ⊥
IsShortFault room (Short clear) = clear ≡ room
IsShortFault room Memory = ⊤

abbrev pub IsShortOf : {T : Type 0} → ℕ → Result T DataFault → Type 0
IsShortOf room (Ok x) = ⊥
IsShortOf room (Err fault) = IsShortFault room fault

-- a record is refused as this row says, or memory is wanting
abbrev pub IsRowFault : Option Reply → DataFault → Type 0
IsRowFault row (Full used) = row ≡ Some (RecordFull used)
IsRowFault row (Short clear) = ⊥
IsRowFault row Memory = ⊤

abbrev pub HasRow : {T : Type 0} → Option Reply → Result T DataFault → Type 0
HasRow row (Ok x) = row ≡ None
HasRow row (Err fault) = IsRowFault row fault
