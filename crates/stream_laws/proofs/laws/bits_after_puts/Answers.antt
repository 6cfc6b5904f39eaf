use Rattle.stream_laws.proofs.Bitmapping.{clusters_put, records_put, more_records_put}
use Rattle.stream_laws.proofs.laws.bits_after_puts.Goals as goal

pub returns : goal.returns
returns c = record { clusters = clusters_put; records = records_put; more_records = more_records_put }
