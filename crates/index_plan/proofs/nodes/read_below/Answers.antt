use Rattle.index_plan.proofs.Steps.{told_known, fails_told}
use Rattle.index_plan.proofs.nodes.read_below.Goals as goal

pub returns-in-Err-clause-node : goal.returns-in-Err-clause-node
returns-in-Err-clause-node g c = rw c.told.ensures.value (told_known (g.N.Nodes.reads c.args.nodes.now) c.args.above c.args.vcn c.in-Err.fault c.in-Err.ensures.node)

pub returns-in-Err-clause-cause : goal.returns-in-Err-clause-cause
returns-in-Err-clause-cause g c = rw c.told.ensures.value (fails_told (g.N.Nodes.faults c.args.nodes.now) (g.N.Nodes.faults c.read.new.self) c.args.above c.args.vcn c.in-Err.fault c.in-Err.ensures.cause)
