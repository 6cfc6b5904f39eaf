use Rattle.file_writes.proofs.Joins.{cut_put}
use Rattle.file_writes.proofs.clusters.put_cut.Goals as goal

pub returns-clause-put : goal.returns-clause-put
returns-clause-put g c =
    cut_put (g.V.View.content c.args.draft.now.view.now) c.args.streams.now c.args.number c.args.stamp c.args.resized.now c.args.draft.now.touched.items _ _ c.in_ok-put_runs.ensures.put
    (rw c.in_ok-put_runs.ensures.asks.same at c.in_ok-put_times_behind.ensures.put)
