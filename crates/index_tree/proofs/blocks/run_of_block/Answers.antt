use Rattle.std.proofs.Common.{arith}
use Rattle.index_tree.proofs.Near.{near_block}
use Rattle.index_tree.proofs.blocks.run_of_block.Goals as goal

pub returns-clause-block : goal.returns-clause-block
returns-clause-block c = near_block c.args.per c.args.number c.run_near.result.now c.args.runs.now (omega (arith, c.sectors-per.ensures.some, c.sectors-per.ensures.value)) (rw c.sectors-per.ensures.value at c.run_near.ensures.same)
