use Rattle.std.proofs.Common.{arith}
use Rattle.volume_tree.proofs.Totals.{total_more, total_ends}
use Rattle.volume_tree.proofs.stream.total_clusters.Goals as goal

pub loop-run-preserved : goal.loop-run-preserved
loop-run-preserved c = total_more c.args.runs.now c.loop-run.run-index _ _ _ (omega arith) c.loop-run.invariant c.in_ok-total.ensures

pub returns : goal.returns
returns c = total_ends c.args.runs.now c.loop-run.run-index _ (omega arith) c.loop-run.invariant
