-- One step over the bytes of an attribute list.
use Rattle.std.specs.Prelude.{◌≡◌, ℕ, ◌+◌, ◌<◌, ◌≤◌, true, false, List, [], drop, Result, IfErr, OnOk}
use Rattle.disk_model.specs.host_base.Causes.{Rose}
use Rattle.block_view.specs.declared.fault.ViewFault.{ViewFault}
use Rattle.block_view.specs.declared.fault.ViewFault.TheVariants as fault
use Rattle.disk_model.specs.Numbers.{field}
use Rattle.record_model.specs.ListEntries.{with_entry, list_entries}
use Rattle.stream_map.specs.declared.list_step.Step.{Step}
use Rattle.stream_map.specs.declared.list_step.Step.TheVariants.{End, Fault, Entry}

-- from one place to the next: what the entries from the first place on are, by those from the next place on, which stands after
-- the length that the entry says
abbrev pub IsStep : List ℕ → ℕ → ℕ → Step → Type 0
IsStep bytes before now End = list_entries (drop before bytes) ≡ record { entries = []; whole = true }
IsStep bytes before now Fault = list_entries (drop before bytes) ≡ record { entries = []; whole = false }
IsStep bytes before now (Entry entry) = (list_entries (drop before bytes) ≡ with_entry entry (list_entries (drop now bytes))) × (now ≡ before + field 4 2 (drop before bytes))

-- the places, in a list of so many bytes: it goes on after an entry, and stands still at the end and at a fault
abbrev pub Moves : ℕ → ℕ → ℕ → Step → Type 0
Moves size before now End = (now ≡ before) × (now ≡ size)
Moves size before now Fault = (now ≡ before) × (now < size)
Moves size before now (Entry entry) = (before < now) × (now ≤ size)

-- the count of a view's faults rose where the view failed, and is as it was where memory was wanting
abbrev pub FaultRose : ℕ → ℕ → ViewFault → Type 0
FaultRose before now fault.Fault = Rose before now
FaultRose before now fault.Memory = now ≡ before

-- a view's count of faults rose where the view failed, and else is as it was
pub record ViewCause {T : Type 0} (before now : ℕ) (result : Result T ViewFault) : Type 0 where
  pub later : before ≤ now
  pub failed : IfErr result (FaultRose before now)
  pub unfailed : OnOk result (now ≡ before)
