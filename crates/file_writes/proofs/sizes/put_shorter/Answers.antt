use Rattle.file_writes.proofs.Joins.{shorter_put}
use Rattle.file_writes.proofs.sizes.put_shorter.Goals as goal

pub returns-clause-put : goal.returns-clause-put
returns-clause-put g c =
    shorter_put (g.V.View.content c.args.draft.now.view.now) c.args.streams.now c.args.number c.args.stamp c.args.resized.now c.args.draft.now.touched.items _ _ c.in_ok-put_record.ensures.put
    (rw c.in_ok-put_record.ensures.asks.same at c.in_ok-put_times_behind.ensures.put)
