use Rattle.stream_laws.proofs.Growing.{length-all_put, byte_after_puts}
use Rattle.stream_laws.proofs.laws.bytes_after_puts.Goals as goal

pub returns : goal.returns
returns c = record { size = length-all_put; byte = byte_after_puts }
