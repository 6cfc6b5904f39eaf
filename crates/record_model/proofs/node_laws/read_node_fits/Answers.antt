use Rattle.record_model.proofs.NodeFits.{read_node_fits}
use Rattle.record_model.proofs.node_laws.read_node_fits.Goals as goal

pub returns : goal.returns
returns c = read_node_fits
