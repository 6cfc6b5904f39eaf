use Rattle.index_tree.proofs.Marking.{no_marks}
use Rattle.index_tree.proofs.met.no_numbers.Goals as goal

pub returns : goal.returns
returns c = λ count. no_marks c.new.result count c.new.ensures.empty
