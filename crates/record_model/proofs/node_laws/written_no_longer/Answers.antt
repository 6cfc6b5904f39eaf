use Rattle.record_model.proofs.NodeRoom.{written_no_longer}
use Rattle.record_model.proofs.node_laws.written_no_longer.Goals as goal

pub returns : goal.returns
returns c = written_no_longer
