use Rattle.std.proofs.Common.{refl, None, ◌∙◌, arith}
use Rattle.record_model.specs.declared.runs.Run.{Run}
use Rattle.draft_growth.proofs.Turns.{begins, step, ends}
use Rattle.draft_growth.proofs.runs.put_runs_of.Goals as goal

abbrev none : Run
none = record { vcn = 0; lcn = None; len = 0 }

pub loop-run-init : goal.loop-run-init
loop-run-init g c = record {
  leads = begins (g.V.View.content c.args.draft.now.view.now) c.args.per c.args.table.now c.args.mirror.now c.args.bit c.args.runs.now c.args.bitmap.now c.args.draft.now.touched.items;
  stands = c.requires.stands;
  count = refl;
  kept = record { same = refl; stays = refl; later = omega arith };
  counted = refl;
  reference = refl;
}

pub loop-run-preserved : goal.loop-run-preserved
loop-run-preserved g c =
    let so_far = c.loop-run.invariant in
    let now = c.in_ok-put_clusters_of.ensures in
    record {
      leads = step (g.V.View.content c.args.draft.now.view.now) c.args.per c.args.table.now c.args.mirror.now c.args.bit c.args.runs.now c.loop-run.run-index none c.args.bitmap.now c.loop-run.bitmap _ c.args.draft.now.touched.items c.loop-run.draft.touched.items _ c.loop-run-test.true so_far.leads
          (rw so_far.kept.same at now.put);
      stands = now.stands;
      count = now.count ∙ so_far.count;
      kept = record {
        same = now.asks.same ∙ so_far.kept.same;
        stays = now.asks.stays ∙ so_far.kept.stays;
        later = omega (arith, so_far.kept.later, now.asks.later);
      };
      counted = now.asks.counted ∙ so_far.counted;
      reference = now.reference ∙ so_far.reference;
    }

pub returns-clause-put : goal.returns-clause-put
returns-clause-put g c =
    ends (g.V.View.content c.args.draft.now.view.now) c.args.per c.args.table.now c.args.mirror.now c.args.bit c.args.runs.now c.loop-run.run-index c.args.bitmap.now c.loop-run.bitmap c.args.draft.now.touched.items _ (omega (arith, c.loop-run-test.false))
    c.loop-run.invariant.leads
