use Rattle.draft_growth.proofs.Joining.{owners_put}
use Rattle.draft_growth.proofs.growing.put_owners.Goals as goal

pub returns-clause-put : goal.returns-clause-put
returns-clause-put g c =
    owners_put _ (g.V.View.content c.args.draft.now.view.now) c.args.per c.args.table.now c.args.mirror.now c.args.own.now c.args.more.now c.args.clusters.now _ _ c.args.draft.now.touched.items _ _ c.in_ok-put_runs_of.ensures.put
    (rw c.in_ok-put_runs_of.ensures.asks.same at c.put_runs_of-2.ensures.put)
