use Rattle.index_tree.proofs.Marking.{one_marked}
use Rattle.index_tree.proofs.met.mark.Goals as goal

pub returns : goal.returns
returns c = one_marked c.args.numbers.now c.insert.new.self c.args.number c.in_ok-insert.ensures.updates.0
