use Rattle.std.proofs.Common.{◌∙◌, arith}
use Rattle.state_model.specs.Streams.{block_at}
use Rattle.volume_model.specs.Sizes.{is_torn_at}
use Rattle.stream_rules.proofs.Passing.{torn_by}
use Rattle.stream_rules.proofs.Numbers.{any_found, any_passed}
use Rattle.stream_rules.proofs.torn.has_torn_below.Goals as goal

pub returns-then-branch-clause-value : goal.returns-then-branch-clause-value
returns-then-branch-clause-value g c = any_found _ (λ content n. is_torn_at content (block_at c.args.per c.args.runs.now c.args.kind n)) c.loop-n.n c.args.count c.in_ok-is_torn_at.field-0 c.loop-n-test.true c.if-branch.true c.loop-n.invariant.left (torn_by _ _ _ _ (c.runs_from-rest.ensures.same c.loop-n.n (omega arith) ∙ c.loop-n.invariant.same c.loop-n.n (omega arith)) (rw c.loop-n.invariant.kept.same at c.in_ok-is_torn_at.ensures.value))

pub loop-n-preserved : goal.loop-n-preserved
loop-n-preserved g c = record {
  left = any_passed _ (λ content n. is_torn_at content (block_at c.args.per c.args.runs.now c.args.kind n)) c.loop-n.n c.args.count c.in_ok-is_torn_at.field-0 c.loop-n-test.true c.if-branch.false c.loop-n.invariant.left (torn_by _ _ _ _ (c.runs_from-rest.ensures.same c.loop-n.n (omega arith) ∙ c.loop-n.invariant.same c.loop-n.n (omega arith)) (rw c.loop-n.invariant.kept.same at c.in_ok-is_torn_at.ensures.value));
  small = c.runs_from-rest.ensures.small;
  same = λ k le. c.runs_from-rest.ensures.same k (omega arith) ∙ c.loop-n.invariant.same k (omega arith);
  kept = record {
    same = c.in_ok-is_torn_at.ensures.kept.same ∙ c.loop-n.invariant.kept.same;
    stays = c.in_ok-is_torn_at.ensures.kept.stays ∙ c.loop-n.invariant.kept.stays;
    later = omega (arith, c.loop-n.invariant.kept.later, c.in_ok-is_torn_at.ensures.kept.later);
  };
  counted = c.in_ok-is_torn_at.ensures.kept.counted ∙ c.loop-n.invariant.counted;
}
