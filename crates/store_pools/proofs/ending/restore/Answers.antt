use Rattle.std.proofs.Common.{true, false, ◌∙◌}
use Rattle.txn_model.specs.declared.mark.Mark.{Mark}
use Rattle.store_pools.proofs.Ends.{turn_more, marked_more, bodied_more, back_more}
use Rattle.store_pools.proofs.ending.restore.Goals as goal

pub blocks-2-preserved : goal.blocks-2-preserved
blocks-2-preserved c = record {
  marked = marked_more _ _ _ _ _ _ _ c.in-Some.ensures.first c.restore_mark.ensures c.blocks-2.invariant.marked;
  bodied = bodied_more _ _ _ _ _ _ c.in-Some.ensures.first c.replace.ensures.new c.blocks-2.invariant.bodied;
  turned = λ b. turn_more (λ (m : Mark). record m { dirty = true; dead = false; imaged = false }) _ _ _ _ _ _ c.in-Some.ensures.first c.in-Some.ensures.alone c.restore_mark.ensures b ∙ c.blocks-2.invariant.turned b;
  back = λ b. back_more _ _ _ _ _ _ c.in-Some.ensures.first c.in-Some.ensures.alone c.replace.ensures.new b ∙ c.blocks-2.invariant.back b;
}
