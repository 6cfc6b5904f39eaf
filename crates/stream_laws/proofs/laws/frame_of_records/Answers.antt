use Rattle.stream_laws.proofs.Framing.{same_slot, same_records, same_record_bytes, same_in_use}
use Rattle.stream_laws.proofs.laws.frame_of_records.Goals as goal

pub returns : goal.returns
returns c = record { slot = same_slot; records = same_records; bytes = same_record_bytes; in_use = same_in_use }
