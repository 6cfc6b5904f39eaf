use Rattle.stream_laws.proofs.Loading.{same_cluster_bits, same_record_bits, same_node_at}
use Rattle.stream_laws.proofs.laws.frame_of_nodes.Goals as goal

pub returns : goal.returns
returns c = record { clusters = same_cluster_bits; records = same_record_bits; node = same_node_at }
