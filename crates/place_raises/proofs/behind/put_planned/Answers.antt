use Rattle.place_raises.proofs.Puts.{planned_put}
use Rattle.place_raises.proofs.behind.put_planned.Goals as goal

pub returns-clause-put : goal.returns-clause-put
returns-clause-put g c =
    planned_put (g.V.View.content c.args.draft.now.view.now) c.args.streams.now c.args.numbers.now c.args.up.now c.args.made.now c.args.directory.now c.args.fresh.now c.in_ok-nodes.nodes c.args.draft.now.touched.items c.plan_behind.new.draft.touched.items c.put_made.new.draft.touched.items
    c.in_ok-nodes.ensures.touched c.in_ok-nodes.ensures.plans (rw c.in_ok-nodes.ensures.asks.same at c.in_ok-put_made.ensures.put)
