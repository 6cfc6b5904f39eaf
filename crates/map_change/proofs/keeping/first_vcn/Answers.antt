use Rattle.std.proofs.Common.{arith}
use Rattle.map_change.proofs.Places.{none_more}
use Rattle.map_change.proofs.keeping.first_vcn.Goals as goal

pub loop-run-preserved : goal.loop-run-preserved
loop-run-preserved c = none_more c.args.runs.now c.loop-run.run-index _ c.loop-run.least c.min-least.result (omega (arith, c.loop-run-test.true)) c.min-least.ensures c.loop-run.invariant
