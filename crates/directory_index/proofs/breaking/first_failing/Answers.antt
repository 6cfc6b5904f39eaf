use Rattle.std.proofs.Common.{length, refl, ◌∙◌, arith}
use Rattle.volume_model.specs.Indexes.{keeps_index}
use Rattle.directory_index.specs.Loaded.{volume_with}
use Rattle.directory_index.proofs.Numbers.{fails_first, fails_behind, fails_here}
use Rattle.directory_index.proofs.breaking.first_failing.Goals as goal

pub loop-number-init : goal.loop-number-init
loop-number-init g c = record {
  fails = fails_first _ (λ content. keeps_index content (volume_with c.args.per c.args.files.now) c.args.up.now) (length c.args.files.now);
  kept = record { same = refl; stays = refl; later = omega arith };
  counted = refl;
}

pub loop-number-preserved : goal.loop-number-preserved
loop-number-preserved g c = record {
  fails = fails_behind _ (λ content. keeps_index content (volume_with c.args.per c.args.files.now) c.args.up.now) c.loop-number.number (length c.args.files.now) c.in_ok-kept.kept (omega arith) c.if-not-kept.false c.loop-number.invariant.fails (rw c.loop-number.invariant.kept.same at c.in_ok-kept.ensures.value);
  kept = record {
    same = c.in_ok-kept.ensures.kept.same ∙ c.loop-number.invariant.kept.same;
    stays = c.in_ok-kept.ensures.kept.stays ∙ c.loop-number.invariant.kept.stays;
    later = omega (arith, c.loop-number.invariant.kept.later, c.in_ok-kept.ensures.kept.later);
  };
  counted = c.in_ok-kept.ensures.kept.counted ∙ c.loop-number.invariant.counted;
}

pub returns-then-not-kept-clause-value : goal.returns-then-not-kept-clause-value
returns-then-not-kept-clause-value g c =
    fails_here _ (λ content. keeps_index content (volume_with c.args.per c.args.files.now) c.args.up.now) c.loop-number.number (length c.args.files.now) c.in_ok-kept.kept (omega arith) c.if-not-kept.true c.loop-number.invariant.fails (rw c.loop-number.invariant.kept.same at c.in_ok-kept.ensures.value)
