use Rattle.std.proofs.Common.{◌/◌, refl, ◌∙◌, arith}
use Rattle.std.specs.Prelude.{nat_le}
use Rattle.draft_streams.specs.Parts.{first_sector}
use Rattle.draft_streams.proofs.Steps.{begins, step}
use Rattle.draft_streams.proofs.sectors.put_bytes.Goals as goal

pub loop-sector-init : goal.loop-sector-init
loop-sector-init g c = record {
  put = begins (g.V.View.content c.args.draft.now.view.now) c.args.per c.args.runs.now c.args.fresh c.args.at c.args.bytes.now (first_sector c.args.at) (c.args.at / 512) c.args.draft.now.touched.items refl;
  kept = record { same = refl; stays = refl; later = omega arith };
  counted = refl;
  reference = refl;
}

pub loop-sector-preserved : goal.loop-sector-preserved
loop-sector-preserved g c =
    let so_far = c.loop-sector.invariant in
    let now = c.in_ok-put_sector.ensures in
    record {
      put = step (g.V.View.content c.args.draft.now.view.now) c.args.per c.args.runs.now c.args.fresh c.args.at c.args.bytes.now (first_sector c.args.at) c.loop-sector.sector (nat_le c.args.fresh c.loop-sector.sector) c.offset_in.result c.bytes_in-falling.result.now c.args.draft.now.touched.items c.loop-sector.draft.touched.items _ (omega arith) refl c.offset_in.ensures c.bytes_in-falling.ensures.bytes so_far.put
          (rw so_far.kept.same at now.touched);
      kept = record {
        same = now.asks.same ∙ so_far.kept.same;
        stays = now.asks.stays ∙ so_far.kept.stays;
        later = omega (arith, so_far.kept.later, now.asks.later);
      };
      counted = now.asks.counted ∙ so_far.counted;
      reference = now.reference ∙ so_far.reference;
    }
