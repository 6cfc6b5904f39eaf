use Rattle.std.proofs.Common.{◌∙◌}
use Rattle.txn_model.specs.declared.mark.Mark.{Mark}
use Rattle.store_pools.proofs.Ends.{turn_more, marked_more}
use Rattle.store_pools.proofs.ending.mark_commits.Goals as goal

pub blocks-2-preserved-in-Some : goal.blocks-2-preserved-in-Some
blocks-2-preserved-in-Some c = record {
  marked = marked_more _ _ _ _ _ _ _ c.in-Some.ensures.first c.mark_commit.ensures c.blocks-2.invariant.marked;
  turned = λ b. turn_more (λ (m : Mark). record m { commit = c.args.number }) _ _ _ _ _ _ c.in-Some.ensures.first c.in-Some.ensures.alone c.mark_commit.ensures b ∙ c.blocks-2.invariant.turned b;
}
