use Rattle.stream_laws.proofs.Changing.{length-extent_bytes, put_below, stays_past}
use Rattle.stream_laws.proofs.laws.bytes_after_writes.Goals as goal

pub returns : goal.returns
returns c = record { size = length-extent_bytes; below = put_below; past = stays_past }
