use Rattle.std.proofs.Common.{refl, ◌∙◌, arith}
use Rattle.draft_indexes.proofs.Empty.{begins, step, ends}
use Rattle.draft_indexes.proofs.fresh.put_all.Goals as goal

pub loop-i-init : goal.loop-i-init
loop-i-init g c = record {
  touched = begins (g.V.View.content c.args.draft.now.view.now) c.args.per c.args.index.now c.args.body.now c.args.first c.args.draft.now.touched.items;
  kept = record { same = refl; stays = refl; later = omega arith };
  counted = refl;
  reference = refl;
}

pub loop-i-preserved : goal.loop-i-preserved
loop-i-preserved g c =
    let so_far = c.loop-i.invariant in
    let now = c.in_ok-put_block.ensures in
    record {
      touched = step (g.V.View.content c.args.draft.now.view.now) c.args.per c.args.index.now c.args.body.now c.args.first c.loop-i.i c.args.draft.now.touched.items c.loop-i.draft.touched.items _ so_far.touched (rw so_far.kept.same at now.touched);
      kept = record {
        same = now.asks.same ∙ so_far.kept.same;
        stays = now.asks.stays ∙ so_far.kept.stays;
        later = omega (arith, so_far.kept.later, now.asks.later);
      };
      counted = now.asks.counted ∙ so_far.counted;
      reference = now.reference ∙ so_far.reference;
    }

pub returns-clause-touched : goal.returns-clause-touched
returns-clause-touched g c =
    ends (g.V.View.content c.args.draft.now.view.now) c.args.per c.args.index.now c.args.body.now c.args.first c.loop-i.i c.args.count c.args.draft.now.touched.items _ (omega (arith, c.loop-i-test.false, c.loop-i.auto.i-end)) c.loop-i.invariant.touched
