use Rattle.std.proofs.Common.{◌≡◌, ℕ, ◌+◌, ◌-◌, ◌/◌, ◌<◌, ◌≤◌, ltb, sym, ap, ◌∙◌, arith}
use Rattle.plan_draft.specs.declared.touched.Touched.{Touched}
use Rattle.std.proofs.lemmas.Bool.{ltb-true, ltb-false}
use Rattle.plan_draft.specs.Touching.{block_key, keys_of, place_in}
use Rattle.plan_draft.proofs.Placing.{place_within, before_place, behind_place}
use Rattle.plan_draft.proofs.order.place_of.Goals as goal

pub loop-low-init : goal.loop-low-init
loop-low-init c = record {
  reached = omega arith;
  left = place_within (block_key c.args.block) c.args.touched.now;
  within = omega arith;
}

pub loop-low-preserved-then-is_before : goal.loop-low-preserved-then-is_before
loop-low-preserved-then-is_before c =
    let middle = c.loop-low.low + (c.loop-low.high - c.loop-low.low) / 2 in
    let less : block_key c.index-touched-middle.result.block < block_key c.args.block = ltb-true (block_key c.index-touched-middle.result.block) (block_key c.args.block) (ap (λ (t : Touched). ltb (block_key t.block) (block_key c.args.block)) c.index-touched-middle.is ∙ sym c.is_before.ensures ∙ c.if-is_before.true) in
    let past = before_place 0 (block_key c.args.block) c.args.touched.now middle c.index-touched-middle.result c.requires (omega arith) c.index-touched-middle.is less in
    record {
      reached = omega (arith, past);
      left = c.loop-low.invariant.left;
      within = c.loop-low.invariant.within;
    }

pub loop-low-preserved : goal.loop-low-preserved
loop-low-preserved c =
    let middle = c.loop-low.low + (c.loop-low.high - c.loop-low.low) / 2 in
    let more : block_key c.args.block ≤ block_key c.index-touched-middle.result.block = ltb-false (block_key c.index-touched-middle.result.block) (block_key c.args.block) (ap (λ (t : Touched). ltb (block_key t.block) (block_key c.args.block)) c.index-touched-middle.is ∙ sym c.is_before.ensures ∙ c.if-is_before.false) in
    let within = behind_place (block_key c.args.block) c.args.touched.now middle c.index-touched-middle.result (omega arith) c.index-touched-middle.is more in
    record {
      reached = c.loop-low.invariant.reached;
      left = within;
      within = omega arith;
    }
