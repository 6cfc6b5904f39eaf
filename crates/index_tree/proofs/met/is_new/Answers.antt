use Rattle.std.proofs.Common.{◌∙◌}
use Rattle.index_tree.proofs.Marking.{mark_at}
use Rattle.index_tree.proofs.met.is_new.Goals as goal

pub returns : goal.returns
returns c = c.is_unmet.ensures ∙ mark_at c.args.numbers.now c.args.count c.args.number
