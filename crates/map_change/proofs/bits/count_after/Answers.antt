use Rattle.map_change.proofs.After.{count_after}
use Rattle.map_change.proofs.bits.count_after.Goals as goal

pub returns : goal.returns
returns c = λ records parts. count_after records c.args.table.now parts 0
