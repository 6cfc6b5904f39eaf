use Rattle.txn_state.proofs.Turning.{marked_same, marked_some}
use Rattle.txn_state.proofs.marks.mark_block.Goals as goal

pub returns-in-None-clause-same : goal.returns-in-None-clause-same
returns-in-None-clause-same c = marked_same c.put.result c.args.block c.args.marks.now c.put.new.self c.put.ensures.ok c.put.ensures.err c.in-None.ensures.value

pub returns-in-None-clause-some : goal.returns-in-None-clause-some
returns-in-None-clause-some c = marked_some c.put.result c.args.block c.args.marks.now c.put.new.self c.put.ensures.ok
