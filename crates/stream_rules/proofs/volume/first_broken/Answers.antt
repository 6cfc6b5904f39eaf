use Rattle.std.proofs.Common.{◌∙◌, arith}
use Rattle.volume_model.specs.Sizes.{keeps_sizes}
use Rattle.stream_rules.specs.Volumes.{volume_with}
use Rattle.stream_rules.proofs.Numbers.{failing_found, failing_passed, failing_nowhere}
use Rattle.stream_rules.proofs.Steps.{first_found}
use Rattle.stream_rules.proofs.volume.first_broken.Goals as goal

pub loop-number-preserved : goal.loop-number-preserved
loop-number-preserved g c = record {
  left = λ e. failing_passed _ (λ content. keeps_sizes content (volume_with c.args.per c.args.clusters e c.args.files.now)) c.loop-number.number _ c.in_ok-keeps_sizes.field-0 c.loop-number-test.true c.if-not-branch.false (c.loop-number.invariant.left e) (rw c.loop-number.invariant.kept.same at (c.in_ok-keeps_sizes.ensures.value e));
  kept = record {
    same = c.in_ok-keeps_sizes.ensures.kept.same ∙ c.loop-number.invariant.kept.same;
    stays = c.in_ok-keeps_sizes.ensures.kept.stays ∙ c.loop-number.invariant.kept.stays;
    later = omega (arith, c.loop-number.invariant.kept.later, c.in_ok-keeps_sizes.ensures.kept.later);
  };
  counted = c.in_ok-keeps_sizes.ensures.kept.counted ∙ c.loop-number.invariant.counted;
}

pub returns-then-not-branch-clause-value : goal.returns-then-not-branch-clause-value
returns-then-not-branch-clause-value g c = λ e. first_found _ (λ content. keeps_sizes content (volume_with c.args.per c.args.clusters e c.args.files.now)) c.max-count.result _ _ c.max-count.ensures (failing_found _ (λ content. keeps_sizes content (volume_with c.args.per c.args.clusters e c.args.files.now)) c.loop-number.number c.max-count.result c.in_ok-keeps_sizes.field-0 c.loop-number-test.true c.if-not-branch.true (c.loop-number.invariant.left e) (rw c.loop-number.invariant.kept.same at (c.in_ok-keeps_sizes.ensures.value e)))

pub returns-clause-value : goal.returns-clause-value
returns-clause-value g c = λ e. first_found _ (λ content. keeps_sizes content (volume_with c.args.per c.args.clusters e c.args.files.now)) c.max-count.result _ _ c.max-count.ensures (failing_nowhere _ (λ content. keeps_sizes content (volume_with c.args.per c.args.clusters e c.args.files.now)) c.loop-number.number c.max-count.result (omega (arith, c.loop-number-test.false)) (c.loop-number.invariant.left e))
