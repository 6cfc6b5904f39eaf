-- Where an error of a file table that grows comes from.
use Rattle.host_base.specs.Answers.{Cause, refused, no_memory, failed}
use Rattle.std.specs.Prelude.{ℕ}
use Rattle.draft_numbers.specs.draft_records.declared.fault.DraftFault.{DraftFault}
use Rattle.draft_numbers.specs.draft_records.declared.fault.DraftFault.TheVariants as draft
use Rattle.draft_bitmaps.specs.plan_space.declared.fault.SpaceFault.{SpaceFault}
use Rattle.draft_bitmaps.specs.plan_space.declared.fault.SpaceFault.TheVariants as space
use Rattle.draft_growth.specs.declared.fault.GrowthFault.{GrowthFault}
use Rattle.draft_growth.specs.declared.fault.GrowthFault.TheVariants.{Full, Short, Fault, Memory}

-- a refusal is the bytes that a record would use, or the clusters that are free
pub data Refusal : Type 0 where
  record_full : ℕ → Refusal
  no_space : ℕ → Refusal

abbrev pub growth_cause : GrowthFault → Cause Refusal
growth_cause (Full used) = refused (record_full used)
growth_cause (Short room) = refused (no_space room)
growth_cause Fault = failed
growth_cause Memory = no_memory

-- the clusters that are free are the one refusal of a choice, and a full record is another matter
abbrev pub space_cause : SpaceFault → Cause ℕ
space_cause (space.Short room) = refused room
space_cause space.Memory = no_memory

abbrev pub growth_space : GrowthFault → Cause ℕ
growth_space (Full used) = failed
growth_space (Short room) = refused room
growth_space Fault = failed
growth_space Memory = no_memory

-- and here the bytes of a full record are the one refusal
abbrev pub growth_room : GrowthFault → Cause ℕ
growth_room (Full used) = refused used
growth_room (Short room) = failed
growth_room Fault = failed
growth_room Memory = no_memory

abbrev pub of_draft : DraftFault → GrowthFault
of_draft (draft.Full used) = Full used
of_draft draft.Fault = Fault
of_draft draft.Memory = Memory

abbrev pub of_space : SpaceFault → GrowthFault
of_space (space.Short room) = Short room
of_space space.Memory = Memory
