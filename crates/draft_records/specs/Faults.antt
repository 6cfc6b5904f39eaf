-- Where an error of a call that puts a record comes from.
use Rattle.std.specs.Prelude.{ℕ}
use Rattle.resized_streams.specs.host_base.Answers.{Cause, refused, no_memory, failed}
use Rattle.plan_draft.specs.block_view.declared.fault.ViewFault.{ViewFault}
use Rattle.plan_draft.specs.block_view.declared.fault.ViewFault.TheVariants as view
use Rattle.resized_streams.specs.record_writer.declared.fault.RoomFault.{RoomFault}
use Rattle.resized_streams.specs.record_writer.declared.fault.RoomFault.TheVariants as room
use Rattle.draft_records.specs.declared.fault.DraftFault.{DraftFault}
use Rattle.draft_records.specs.declared.fault.DraftFault.TheVariants.{Full, Fault, Memory}

-- a refusal is the bytes that a record would use
abbrev pub draft_cause : DraftFault → Cause ℕ
draft_cause (Full used) = refused used
draft_cause Fault = failed
draft_cause Memory = no_memory

abbrev pub of_view : ViewFault → DraftFault
of_view view.Fault = Fault
of_view view.Memory = Memory

abbrev pub of_room : RoomFault → DraftFault
of_room (room.Full used) = Full used
of_room room.Memory = Memory
