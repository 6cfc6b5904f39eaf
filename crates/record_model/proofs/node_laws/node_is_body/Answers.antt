use Rattle.record_model.proofs.NodeSpelling.{node_signed, node_place, node_count, node_array}
use Rattle.record_model.proofs.node_laws.node_is_body.Goals as goal

pub returns : goal.returns
returns c = record { signed = node_signed; place = node_place; count = node_count; array = node_array }
