use Rattle.std.proofs.Common.{◌≡◌, ℕ, ◌*◌, true, false, List, [], length, refl, sym, ap, subst, ◌∙◌}
use Rattle.std.specs.Prelude.{All}
use Rattle.plan_bodies.specs.disk_model.Bodies.{BodyOf}
use Rattle.plan_bodies.specs.disk_model.Content.{Content}
use Rattle.plan_bodies.specs.disk_model.Sectors.{sectors}
use Rattle.plan_bodies.specs.Bodies.{NewBody}
use Rattle.plan_draft.specs.declared.touched.Touched.{Touched}
use Rattle.plan_draft.specs.Touching.{keys_of, rises, IsWhole, IsOldOf, touch, again_at, bodies_of, put_in_order, StandsAt}
use Rattle.plan_draft.proofs.Touching.{for_all}
use Rattle.plan_draft.proofs.Puts.{again_is_touch, bodies_touch, keys_again, whole_again, olds_again}
use Rattle.plan_draft.proofs.draft.Draft.put.Goals as goal

no_body : BodyOf
no_body = record { bytes = []; torn = false }

pub invariant_of-self : goal.invariant_of-self
invariant_of-self g c =
    let old = c.args.self.now.touched.items in
    let stands : StandsAt old c.args.block c.in-Ok.at = subst (λ (l : List Touched). StandsAt l c.args.block c.in-Ok.at) c.deref.ensures.value c.in-Ok.ensures in
    let size : length c.in_ok-new.new ≡ 512 * sectors c.args.block.kind = ap length c.in_ok-new.ensures ∙ c.requires.size in
    record {
      rises = subst (λ (l : List Touched). rises 0 (keys_of l) ≡ true) (sym c.touch_again.ensures) (ap (rises 0) (keys_again old c.in-Ok.at c.args.fresh c.in_ok-new.new) ∙ c.args.self.now.rises);
      whole = subst (λ (l : List Touched). All IsWhole l) (sym c.touch_again.ensures) (whole_again old c.args.block c.in-Ok.at c.args.fresh c.in_ok-new.new stands c.args.self.now.whole size);
      olds = λ x known. subst (λ (l : List Touched). All (IsOldOf x) l) (sym c.touch_again.ensures) (olds_again x old c.in-Ok.at c.args.fresh c.in_ok-new.new (c.args.self.now.olds x known));
    }

pub returns-in-Ok-clause-bodies : goal.returns-in-Ok-clause-bodies
returns-in-Ok-clause-bodies g c =
    let old = c.args.self.now.touched.items in
    let stands : StandsAt old c.args.block c.in-Ok.at = subst (λ (l : List Touched). StandsAt l c.args.block c.in-Ok.at) c.deref.ensures.value c.in-Ok.ensures in
    ap bodies_of (c.touch_again.ensures ∙ again_is_touch old c.args.block c.in-Ok.at c.args.fresh c.in_ok-new.new no_body stands)
    ∙ bodies_touch old c.args.block c.args.fresh c.in_ok-new.new no_body
    ∙ ap (λ (x : List ℕ). put_in_order (record { block = c.args.block; bytes = x }) (bodies_of old)) c.in_ok-new.ensures

pub returns-in-Ok-clause-touched : goal.returns-in-Ok-clause-touched
returns-in-Ok-clause-touched g c =
    let old = c.args.self.now.touched.items in
    let stands : StandsAt old c.args.block c.in-Ok.at = subst (λ (l : List Touched). StandsAt l c.args.block c.in-Ok.at) c.deref.ensures.value c.in-Ok.ensures in
    for_all (g.V.View.content c.args.self.now.view.now) (λ (d : Content). c.touch_again.new.touched.items ≡ touch c.args.block c.args.fresh c.args.bytes.now (d c.args.block) old)
    (λ d. c.touch_again.ensures ∙ again_is_touch old c.args.block c.in-Ok.at c.args.fresh c.in_ok-new.new (d c.args.block) stands ∙ ap (λ (x : List ℕ). touch c.args.block c.args.fresh x (d c.args.block) old) c.in_ok-new.ensures)
