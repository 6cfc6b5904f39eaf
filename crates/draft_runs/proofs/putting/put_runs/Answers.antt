use Rattle.std.proofs.Common.{refl, None, ◌∙◌, arith}
use Rattle.draft_bits.specs.record_model.declared.runs.Run.{Run}
use Rattle.draft_runs.proofs.Steps.{begins, step, stops, ends, on_err}
use Rattle.draft_runs.proofs.putting.put_runs.Goals as goal

abbrev none : Run
none = record { vcn = 0; lcn = None; len = 0 }

pub loop-run-init : goal.loop-run-init
loop-run-init g c = record {
  leads = begins (g.V.View.content c.args.draft.now.view.now) c.args.per c.args.bitmap.now c.args.value c.args.runs.now c.args.draft.now.touched.items;
  kept = record { same = refl; stays = refl; later = omega arith };
  counted = refl;
  reference = refl;
}

pub loop-run-preserved : goal.loop-run-preserved
loop-run-preserved g c =
    let so_far = c.loop-run.invariant in
    let now = c.in_ok-put_clusters.ensures in
    record {
      leads = step (g.V.View.content c.args.draft.now.view.now) c.args.per c.args.bitmap.now c.args.value c.args.runs.now c.loop-run.run-index none c.args.draft.now.touched.items c.loop-run.draft.touched.items _ c.loop-run-test.true so_far.leads (rw so_far.kept.same at now.put);
      kept = record {
        same = now.asks.same ∙ so_far.kept.same;
        stays = now.asks.stays ∙ so_far.kept.stays;
        later = omega (arith, so_far.kept.later, now.asks.later);
      };
      counted = now.asks.counted ∙ so_far.counted;
      reference = now.reference ∙ so_far.reference;
    }

pub returns-in_err-put_clusters-clause-front : goal.returns-in_err-put_clusters-clause-front
returns-in_err-put_clusters-clause-front g c =
    let so_far = c.loop-run.invariant in
    on_err _ _
    (stops (g.V.View.content c.args.draft.now.view.now) c.args.per c.args.bitmap.now c.args.value c.args.runs.now c.loop-run.run-index none c.args.draft.now.touched.items c.loop-run.draft.touched.items _ c.loop-run-test.true so_far.leads (rw so_far.kept.same at c.in_err-put_clusters.ensures.front))

pub returns-clause-put : goal.returns-clause-put
returns-clause-put g c =
    ends (g.V.View.content c.args.draft.now.view.now) c.args.per c.args.bitmap.now c.args.value c.args.runs.now c.loop-run.run-index c.args.draft.now.touched.items _ (omega (arith, c.loop-run-test.false)) c.loop-run.invariant.leads
