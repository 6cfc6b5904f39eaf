use Rattle.std.proofs.Common.{rules, ◌≡◌, ◌≤◌, false, length, arith, ◌∙◌, sym, ap}
use Rattle.plan_bodies.specs.disk_model.declared.block.Block.{Block}
use Rattle.plan_bodies.specs.disk_model.Sectors.{same_block}
use Rattle.plan_draft.specs.declared.touched.Touched.{Touched}
use Rattle.plan_draft.specs.Touching.{block_key, keys_of, place_in, WouldStandAt}
use Rattle.plan_draft.proofs.Placing.{not_found, none_past}
use Rattle.plan_draft.proofs.order.locate.Goals as goal
use Rattle.plan_draft.proofs.order.locate.Goals.{else-at-touched-via-then-at-touched+else-eq, else-at-touched-via-else-at-touched}

pub returns-else-at-touched : goal.returns-else-at-touched
returns-else-at-touched c = record {
  place = c.place_of-at.ensures.place;
  within = c.place_of-at.ensures.within;
  none = elim c.else-at-touched.branch [
    | else-at-touched-via-then-at-touched+else-eq w ↦
        (let other : same_block c.args.block w.index-touched-at.result.block ≡ false = search rules in
        let place = c.place_of-at.ensures.place in
        let is = w.index-touched-at.is in
        not_found 0 c.args.touched.now c.args.block w.index-touched-at.result c.requires
        (λ lt. ap (λ (t : Touched). same_block c.args.block t.block) (sym (rw place at is)) ∙ other))
    | else-at-touched-via-else-at-touched w ↦ none_past c.args.touched.now c.args.block (omega (arith, c.place_of-at.ensures.place, w.if-at-touched.false))
  ];
}
