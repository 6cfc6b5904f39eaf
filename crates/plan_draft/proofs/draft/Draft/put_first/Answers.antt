use Rattle.std.proofs.Common.{◌≡◌, ℕ, ◌*◌, true, List, length, Some, refl, sym, ap, ◌∙◌, arith}
use Rattle.std.specs.Prelude.{All, insert}
use Rattle.plan_bodies.specs.disk_model.Content.{Content}
use Rattle.plan_draft.specs.declared.touched.Touched.{Touched}
use Rattle.plan_draft.specs.Touching.{keys_of, rises, IsWhole, IsOldOf, touch, bodies_of}
use Rattle.plan_draft.proofs.Touching.{either_way, at_known, for_each}
use Rattle.plan_draft.proofs.Puts.{insert_is_touch, bodies_touch, rises_touch, whole_touch, olds_touch}
use Rattle.plan_draft.proofs.draft.Draft.put_first.Goals as goal

pub invariant_of-self-2 : goal.invariant_of-self-2
invariant_of-self-2 g c =
    let old = c.args.self.now.touched.items in
    let new = c.insert_at.new.touched.items in
    let b = c.args.block in
    let bytes = c.args.new in
    let room = c.body.new.out in
    let put : insert old c.args.at c.in_ok-item.item ≡ touch b c.args.fresh bytes room old = ap (insert old c.args.at) c.in_ok-item.ensures ∙ insert_is_touch old b c.args.at c.args.fresh bytes room c.requires.place in
    let whole = whole_touch old b c.args.fresh bytes room c.args.self.now.whole c.requires.size c.in_ok-body.ensures.size in
    record {
      rises = either_way c.insert_at.result (λ l. rises 0 (keys_of l) ≡ true) new old (insert old c.args.at c.in_ok-item.item) c.insert_at.ensures.put c.insert_at.ensures.unchanged
          (rw put (rises_touch 0 old b c.args.fresh bytes room c.args.self.now.rises (omega arith))) c.args.self.now.rises;
      whole = either_way c.insert_at.result (λ l. All IsWhole l) new old (insert old c.args.at c.in_ok-item.item) c.insert_at.ensures.put c.insert_at.ensures.unchanged (rw put whole) c.args.self.now.whole;
      olds = λ x known.
          (let was : g.V.View.content c.args.self.now.view.now ≡ Some x = sym c.body.ensures.same ∙ known in
          let kept = c.args.self.now.olds x was in
          let here = at_known (g.V.View.content c.args.self.now.view.now) x (λ (d : Content). room ≡ d b) was c.in_ok-body.ensures.body in
          either_way c.insert_at.result (λ l. All (IsOldOf x) l) new old (insert old c.args.at c.in_ok-item.item) c.insert_at.ensures.put c.insert_at.ensures.unchanged
          (rw put (olds_touch x old b c.args.fresh bytes room kept (sym here))) kept);
    }

pub returns-clause-bodies : goal.returns-clause-bodies
returns-clause-bodies g c =
    let old = c.args.self.now.touched.items in
    ap bodies_of (c.in_ok-insert_at.ensures.put ∙ ap (insert old c.args.at) c.in_ok-item.ensures ∙ insert_is_touch old c.args.block c.args.at c.args.fresh c.args.new c.body.new.out c.requires.place)
    ∙ bodies_touch old c.args.block c.args.fresh c.args.new c.body.new.out

pub returns-clause-touched : goal.returns-clause-touched
returns-clause-touched g c =
    let old = c.args.self.now.touched.items in
    let put : c.insert_at.new.touched.items ≡ touch c.args.block c.args.fresh c.args.new c.body.new.out old = c.in_ok-insert_at.ensures.put ∙ ap (insert old c.args.at) c.in_ok-item.ensures ∙ insert_is_touch old c.args.block c.args.at c.args.fresh c.args.new c.body.new.out c.requires.place in
    for_each (g.V.View.content c.args.self.now.view.now) (λ (d : Content). c.body.new.out ≡ d c.args.block) _ (λ d is. put ∙ ap (λ x. touch c.args.block c.args.fresh c.args.new x old) is) c.in_ok-body.ensures.body
