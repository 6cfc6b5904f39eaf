use Rattle.std.proofs.Common.{refl, ◌∙◌, arith}
use Rattle.file_makes.proofs.Joins.{nodes_begin, nodes_step, nodes_end}
use Rattle.file_makes.proofs.nodes.put_nodes.Goals as goal

pub loop-change-init : goal.loop-change-init
loop-change-init g c = record {
  leads = nodes_begin (g.V.View.content c.args.draft.now.view.now) c.args.changes.now c.args.draft.now.touched.items;
  kept = record { same = refl; stays = refl; later = omega arith };
  counted = refl;
  reference = refl;
}

pub loop-change-preserved : goal.loop-change-preserved
loop-change-preserved g c =
    let so_far = c.loop-change.invariant in
    let now = c.in_ok-put_node.ensures in
    record {
      leads = nodes_step (g.V.View.content c.args.draft.now.view.now) c.args.changes.now c.loop-change.change-index c.change-item.result c.args.draft.now.touched.items c.loop-change.draft.touched.items _ c.loop-change-test.true c.change-item.is so_far.leads (rw so_far.kept.same at now.put);
      kept = record {
        same = now.asks.same ∙ so_far.kept.same;
        stays = now.asks.stays ∙ so_far.kept.stays;
        later = omega (arith, so_far.kept.later, now.asks.later);
      };
      counted = now.asks.counted ∙ so_far.counted;
      reference = now.reference ∙ so_far.reference;
    }

pub returns-clause-put : goal.returns-clause-put
returns-clause-put g c =
    nodes_end (g.V.View.content c.args.draft.now.view.now) c.args.changes.now c.loop-change.change-index c.args.draft.now.touched.items _ (omega (arith, c.loop-change-test.false)) c.loop-change.invariant.leads
