use Rattle.file_writes.proofs.Joins.{growing_put}
use Rattle.file_writes.proofs.clusters.put_growing.Goals as goal

pub returns-clause-put : goal.returns-clause-put
returns-clause-put g c =
    growing_put (g.V.View.content c.args.draft.now.view.now) c.args.streams.now c.args.number c.args.op.now c.args.node.now c.args.stamp c.args.resized.now c.in_ok-larger.larger c.args.draft.now.touched.items _ _ c.requires.initialised c.in_ok-larger.ensures.value c.in_ok-put_runs.ensures.put
    (rw c.in_ok-put_runs.ensures.asks.same at c.in_ok-put_sizes.ensures.put)
