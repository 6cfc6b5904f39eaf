use Rattle.stream_laws.proofs.Bitmapping.{cluster_bit, past_clusters, record_bit, past_records, bit_put, bit_filled}
use Rattle.stream_laws.proofs.laws.bits_of_bitmaps.Goals as goal

pub returns : goal.returns
returns c = record { clusters = cluster_bit; past_clusters = past_clusters; records = record_bit; past_records = past_records; bytes = bit_put; filled = bit_filled }
