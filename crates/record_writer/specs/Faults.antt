-- Where an error of an edit comes from.
use Rattle.std.specs.Prelude.{ℕ}
use Rattle.disk_model.specs.host_base.Answers.{Cause, refused, no_memory}
use Rattle.record_writer.specs.declared.fault.RoomFault.{RoomFault}
use Rattle.record_writer.specs.declared.fault.RoomFault.TheVariants.{Full, Memory}

-- a refusal is the bytes that would be used
abbrev pub room_cause : RoomFault → Cause ℕ
room_cause (Full used) = refused used
room_cause Memory = no_memory
