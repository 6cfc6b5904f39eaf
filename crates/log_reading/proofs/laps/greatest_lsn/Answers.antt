use Rattle.std.proofs.Common.{refl, ◌∙◌, arith}
use Rattle.log_reading.proofs.Said.{all_left, next_said, all_said}
use Rattle.log_reading.proofs.laps.greatest_lsn.Goals as goal

pub loop-next-init : goal.loop-next-init
loop-next-init g c = record {
  small = omega arith;
  left = all_left (g.V.View.content c.args.view.now) c.args.place.now c.args.chosen c.current_of-greatest.result c.current_of-greatest.ensures.value;
  kept = record { same = refl; stays = refl; later = omega arith };
  counted = refl;
}

pub loop-next-preserved : goal.loop-next-preserved
loop-next-preserved g c = record {
  small = omega (arith, c.in-Some.ensures.next.inside, c.requires.place.pages);
  left = next_said (g.V.View.content c.args.view.now) c.args.place.now c.args.chosen c.loop-next.page c.in-Some.next c.loop-next.greatest c.in_ok-said.said c.greater-greatest.result (g.met.V.View.sized c.args.view.now) c.in-Some.ensures.next c.greater-greatest.ensures.value
      (rw c.loop-next.invariant.kept.same at c.in_ok-said.ensures.value) c.loop-next.invariant.left;
  kept = record {
    same = c.in_ok-said.ensures.kept.same ∙ c.loop-next.invariant.kept.same;
    stays = c.in_ok-said.ensures.kept.stays ∙ c.loop-next.invariant.kept.stays;
    later = omega (arith, c.loop-next.invariant.kept.later, c.in_ok-said.ensures.kept.later);
  };
  counted = c.in_ok-said.ensures.kept.counted ∙ c.loop-next.invariant.counted;
}

pub returns-clause-value : goal.returns-clause-value
returns-clause-value g c = all_said (g.V.View.content c.args.view.now) c.args.place.now c.args.chosen c.loop-next.page c.loop-next.greatest (g.met.V.View.sized c.args.view.now) c.in_default.ensures.next c.loop-next.invariant.left
