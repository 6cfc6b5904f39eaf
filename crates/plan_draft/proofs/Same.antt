-- Bodies that put the same into each block.
use Rattle.std.proofs.Common.{◌≡◌, ℕ, ◌<◌, ◌≤◌, Bool, true, false, cond, List, [], ◌∷◌, Option, Some, None, refl, sym, ap, subst, ◌∙◌, inl, inr, arith}
use mathlib.Core.Path.{fun_ext}
use Rattle.std.specs.List.{AllByRecursion}
use Rattle.std.proofs.lemmas.Bool.{cases_Bool, cases_lt, lt-ltb, le-ltb}
use Rattle.std.specs.Option.{option_or}
use Rattle.plan_bodies.specs.disk_model.declared.block.Block.{Block}
use Rattle.plan_bodies.specs.disk_model.Content.{Content, HasSizes}
use Rattle.plan_bodies.specs.disk_model.Sectors.{same_block}
use Rattle.block_view.proofs.disk_model.Frames.{same_block-is}
use Rattle.plan_bodies.specs.Bodies.{NewBody, AreBodies, body_in, body_or, put_body, content_with}
use Rattle.plan_bodies.proofs.Putting.{body_put, block_itself, same_through, same_to, either}
use Rattle.plan_draft.specs.Touching.{block_key, put_in_order}
use Rattle.plan_draft.specs.Same.{PutSame, BodiesInOrder}
use Rattle.plan_draft.proofs.Touching.{are_bodies}

pub same_content : (c : Content) (xs ys : List NewBody) → HasSizes c → AreBodies xs → AreBodies ys → PutSame xs ys → content_with c xs ≡ content_with c ys
same_content c xs ys sized are_xs are_ys same = fun_ext (λ b. body_put c xs b sized are_xs ∙ ap (body_or (c b)) (same b) ∙ sym (body_put c ys b sized are_ys))

-- what holds of each block that has a body
holds_put : (P : Block → Type 0) (bodies : List NewBody) (b : Block) (bytes : List ℕ) → AllByRecursion (λ p. P p.block) bodies → body_in bodies b ≡ Some bytes → P b
holds_put P [] b bytes all is = absurd cc
holds_put P (w ∷ bodies) b bytes all is = elim (cases_Bool (same_block b w.block)) [
  | inl same ↦ subst P (sym (same_block-is b w.block same)) all.0
  | inr other ↦ holds_put P bodies b bytes all.1 (rw other at is)
]

each_put : (P : Block → Type 0) (bodies : List NewBody) → ((b : Block) (bytes : List ℕ) → body_in bodies b ≡ Some bytes → P b) → AllByRecursion (λ p. P p.block) bodies
each_put P [] holds = tt
each_put P (w ∷ bodies) holds = (
  holds w.block w.bytes (ap (λ (s : Bool). cond s (Some w.bytes) (body_in bodies w.block)) (block_itself w.block)),
  each_put P bodies (λ b bytes is. elim (cases_Bool (same_block b w.block)) [
    | inl same ↦ holds b w.bytes (ap (λ (s : Bool). cond s (Some w.bytes) (body_in bodies b)) same)
    | inr other ↦ holds b bytes (ap (λ (s : Bool). cond s (Some w.bytes) (body_in bodies b)) other ∙ is)
  ]),
)

pub all_same : (P : Block → Type 0) (xs ys : List NewBody) → PutSame xs ys → AllByRecursion (λ p. P p.block) ys → AllByRecursion (λ p. P p.block) xs
all_same P xs ys same all = each_put P xs (λ b bytes is. holds_put P ys b bytes all (sym (same b) ∙ is))

-- ---- a body more

passed_over : (s t : Bool) (x y z : Option (List ℕ)) → (s ≡ true → t ≡ true) → cond t x z ≡ cond t x (cond s y z)
passed_over true true x y z same = refl
passed_over true false x y z same = let clash : false ≡ true = same refl in absurd cc
passed_over false true x y z same = refl
passed_over false false x y z same = refl

choose : (s t : Bool) (x y z : Option (List ℕ)) → (s ≡ true → t ≡ false) → cond s x (cond t y z) ≡ cond t y (cond s x z)
choose true true x y z apart = let clash = apart refl in absurd cc
choose true false x y z apart = refl
choose false true x y z apart = refl
choose false false x y z apart = refl

-- the body of a block is the new one, or else the one of before
pub one_in_order : (w : NewBody) (bodies : List NewBody) (b : Block) → body_in (put_in_order w bodies) b ≡ cond (same_block b w.block) (Some w.bytes) (body_in bodies b)
one_in_order w [] b = refl
one_in_order w (x ∷ bodies) b = elim (cases_lt (block_key x.block) (block_key w.block)) [
  | inl less ↦
      rw (lt-ltb (block_key x.block) (block_key w.block) less)
      (ap (λ (o : Option (List ℕ)). cond (same_block b x.block) (Some x.bytes) o) (one_in_order w bodies b)
      ∙ choose (same_block b x.block) (same_block b w.block) (Some x.bytes) (Some w.bytes) (body_in bodies b) (λ here. elim (cases_Bool (same_block b w.block)) [
        | inl both ↦
            (let one : x.block ≡ w.block = sym (same_block-is b x.block here) ∙ same_block-is b w.block both in
            let keys : block_key x.block ≡ block_key w.block = ap block_key one in
            absurd (omega (arith, less, keys)))
        | inr other ↦ other
      ]))
  | inr ge ↦ rw (le-ltb (block_key x.block) (block_key w.block) ge) (elim (cases_Bool (same_block w.block x.block)) [
    | inl same ↦ rw same (passed_over (same_block b x.block) (same_block b w.block) (Some w.bytes) (Some x.bytes) (body_in bodies b) (λ here. same_to w.block x.block b same ∙ here))
    | inr other ↦ rw other refl
  ])
]

one_put : (w : NewBody) (bodies : List NewBody) (b : Block) → body_in (put_body w bodies) b ≡ cond (same_block b w.block) (Some w.bytes) (body_in bodies b)
one_put w bodies b = either bodies (w ∷ []) b (tt, tt) ∙ chosen (same_block b w.block) w.bytes (body_in bodies b)
  where
    chosen : (s : Bool) (bytes : List ℕ) (o : Option (List ℕ)) → option_or (cond s (Some bytes) None) o ≡ cond s (Some bytes) o
    chosen true bytes o = refl
    chosen false bytes o = refl

pub put_same : (w : NewBody) (xs ys : List NewBody) → PutSame xs ys → PutSame (put_in_order w xs) (put_body w ys)
put_same w xs ys same b = one_in_order w xs b ∙ ap (cond (same_block b w.block) (Some w.bytes)) (same b) ∙ sym (one_put w ys b)

pub in_order : BodiesInOrder
in_order = record {
  are = are_bodies;
  put = put_same;
  content = same_content;
}
