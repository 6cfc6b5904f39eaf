use Rattle.std.proofs.Common.{◌∙◌, sym, refl, ap, arith, length, List, Option, ℕ}
use Rattle.record_model.specs.Records.{Record}
use Rattle.std.proofs.lemmas.Result.{err_from_is_err_and}
use Rattle.state_model.specs.Loads.{table_slot}
use Rattle.volume_map.proofs.Heads.{heads_first, heads_more, heads_all}
use Rattle.volume_map.proofs.Steps.{walk_begins, walk_more, walk_ends}
use Rattle.volume_map.proofs.walk.walk_table.Goals as goal

pub loop-number-init : goal.loop-number-init
loop-number-init g c = record {
  walked = walk_begins _ (λ content. table_slot content c.args.per c.args.extents.now) _ c.new.ensures.items c.new-2.ensures.items;
  heads = heads_first _ c.args.per c.args.extents.now _ c.new-3.ensures.items;
  lengths = ap (λ (xs : List (Option ℕ)). length xs) c.new-2.ensures.items ∙ sym (ap (λ (xs : List (Option Record)). length xs) c.new.ensures.items);
  kept = record { same = refl; stays = refl; later = omega arith };
  counted = refl;
}

pub loop-number-preserved : goal.loop-number-preserved
loop-number-preserved g c = record {
  walked = walk_more _ (λ content. table_slot content c.args.per c.args.extents.now) c.loop-number.number _ c.loop-number.walk c.step.new.walk c.loop-number.invariant.walked (rw c.loop-number.invariant.kept.same at c.in_ok-step.ensures.answer);
  heads = heads_more _ c.args.per c.args.extents.now c.loop-number.number c.loop-number.walk.heads.items c.step.new.walk.heads.items c.loop-number.invariant.heads (rw c.loop-number.invariant.kept.same at c.in_ok-step.ensures.heads);
  lengths = c.in_ok-step.ensures.lengths c.loop-number.invariant.lengths;
  kept = record {
    same = c.in_ok-step.ensures.kept.same ∙ c.loop-number.invariant.kept.same;
    stays = c.in_ok-step.ensures.kept.stays ∙ c.loop-number.invariant.kept.stays;
    later = omega (arith, c.loop-number.invariant.kept.later, c.in_ok-step.ensures.kept.later);
  };
  counted = c.in_ok-step.ensures.kept.counted ∙ c.loop-number.invariant.counted;
}

pub returns-in_err-step-clause-answer : goal.returns-in_err-step-clause-answer
returns-in_err-step-clause-answer g c =
    let p = err_from_is_err_and c.from_residual.result c.from_residual.ensures.1 in
    rw (p.1, p.2) (walk_ends _ (λ content. table_slot content c.args.per c.args.extents.now) c.loop-number.number _ _ c.loop-number.walk c.step.new.walk (omega (arith, c.loop-number-test.true)) c.loop-number.invariant.walked (rw c.loop-number.invariant.kept.same at c.in_err-step.ensures.answer))

pub returns-clause-heads : goal.returns-clause-heads
returns-clause-heads g c = heads_all _ c.args.per c.args.extents.now c.loop-number.number _ c.loop-number.walk.heads.items (omega arith) c.loop-number.invariant.heads
