use Rattle.std.proofs.Common.{arith}
use Rattle.map_change.specs.Touching.{number_at}
use Rattle.map_change.proofs.Lists.{mapped_more}
use Rattle.map_change.proofs.numbers.push_block.Goals as goal

pub loop-run-preserved : goal.loop-run-preserved
loop-run-preserved c =
    mapped_more (number_at c.args.per c.args.count c.args.block) c.args.numbers.now.items c.loop-run.numbers.items c.push_some.new.numbers.items c.args.runs.now c.loop-run.run-index _ c.number_at.result (omega (arith, c.loop-run-test.true)) c.number_at.ensures c.loop-run.invariant
    c.in_ok-push_some.ensures
