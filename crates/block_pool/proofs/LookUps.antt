-- What a look-up gives after a put, a take, and changes of all values.
use Rattle.std.proofs.Common.{◌≡◌, Bool, true, false, not, cond, List, [], ◌∷◌, Option, Some, None, refl, sym, ap, ◌∙◌}
use Rattle.std.proofs.Math.Path.{fun_ext}
use Rattle.std.specs.Option.{option_map}
use Rattle.std.specs.declared.cmp.Ordering.{Ordering}
use Rattle.std.specs.declared.cmp.Ordering.TheVariants.{Less, Equal, Greater}
use Rattle.std.specs.Ordering.{is_eq, match_ordering}
use Rattle.std.proofs.lemmas.Map.Entries.{lookup-filter-keys}
use Rattle.disk_model.specs.declared.block.Block.{Block}
use Rattle.disk_model.specs.Sectors.{same_block}
use Rattle.disk_model.proofs.Frames.{same_block-is, same_block_through}
use Rattle.block_pool.specs.Pools.{block_order, held, with_block, without_block, kept_blocks, turned_values, LooksUp}
use Rattle.block_pool.proofs.Ordering.{order_equal, same_block-swap}

module _ {X : Type 0} where
  two : (t u : Bool) (a b : X) (r : Option X) → t ≡ u → cond u (Some a) r ≡ cond t (Some a) (cond u (Some b) r)
  two true true a b r e = refl
  two true false a b r e = absurd cc
  two false true a b r e = absurd cc
  two false false a b r e = refl

  apart : (t u : Bool) (a b : X) (r : Option X) → (u ≡ true → t ≡ true → ⊥) → cond t (Some a) (cond u (Some b) r) ≡ cond u (Some b) (cond t (Some a) r)
  apart true true a b r never = absurd (never refl refl)
  apart true false a b r never = refl
  apart false true a b r never = refl
  apart false false a b r never = refl

  with_step : (b : Block) (x : X) (e : Block × X) (es : List (Block × X)) (c : Block) → held (with_block b x es) c ≡ cond (same_block c b) (Some x) (held es c)
      → (o : Ordering) → block_order b e.0 ≡ o
      → held (match_ordering o ((b, x) ∷ e ∷ es) ((e.0, x) ∷ es) (e ∷ with_block b x es)) c ≡ cond (same_block c b) (Some x) (cond (same_block c e.0) (Some e.1) (held es c))
  with_step b x e es c rest Less h = refl
  with_step b x e es c rest Equal h =
      let same : b ≡ e.0 = same_block-is b e.0 (sym (order_equal b e.0) ∙ ap is_eq h) in
      two (same_block c b) (same_block c e.0) x e.1 (held es c) (ap (same_block c) same)
  with_step b x e es c rest Greater h =
      ap (λ (o : Option X). cond (same_block c e.0) (Some e.1) o) rest
      ∙ apart (same_block c e.0) (same_block c b) e.1 x (held es c) (λ p q. clash (sym (same_block_through c b e.0 p q) ∙ sym (order_equal b e.0) ∙ ap is_eq h))
    where
      clash : true ≡ false → ⊥
      clash e = absurd cc

  with_at : (b : Block) (x : X) (es : List (Block × X)) (c : Block) → held (with_block b x es) c ≡ cond (same_block c b) (Some x) (held es c)
  with_at b x [] c = refl
  with_at b x (e ∷ es) c = with_step b x e es c (with_at b x es c) (block_order b e.0) refl

  turn_not : (t : Bool) (r : Option X) → cond (not t) r None ≡ cond t None r
  turn_not true r = refl
  turn_not false r = refl

  without_at : (b : Block) (es : List (Block × X)) (c : Block) → held (without_block b es) c ≡ cond (same_block c b) None (held es c)
  without_at b es c =
      lookup-filter-keys (same_block c) (λ k. not (same_block b k)) (not (same_block c b)) (λ k e. ap (λ (d : Block). not (same_block b d)) (sym (same_block-is c k e)) ∙ ap not (same_block-swap b c)) es
      ∙ turn_not (same_block c b) (held es c)

  kept_at : (passes : Block → Bool) (es : List (Block × X)) (c : Block) → held (kept_blocks passes es) c ≡ cond (passes c) (held es c) None
  kept_at passes es c = lookup-filter-keys (same_block c) passes (passes c) (λ k e. ap passes (sym (same_block-is c k e))) es

  turn_step : (turn : X → X) (t : Bool) (x : X) (r r' : Option X) → r' ≡ option_map turn r → cond t (Some (turn x)) r' ≡ option_map turn (cond t (Some x) r)
  turn_step turn true x r r' e = refl
  turn_step turn false x r r' e = e

  turned_at : (turn : X → X) (es : List (Block × X)) (c : Block) → held (turned_values turn es) c ≡ option_map turn (held es c)
  turned_at turn [] c = refl
  turned_at turn (e ∷ es) c = turn_step turn (same_block c e.0) e.1 (held es c) (held (turned_values turn es) c) (turned_at turn es c)

pub looks_up : (X : Type 0) → LooksUp X
looks_up X = record {
  with = λ b x es. fun_ext (λ c. with_at b x es c);
  without = λ b es. fun_ext (λ c. without_at b es c);
  kept = λ passes es. fun_ext (λ c. kept_at passes es c);
  turned = λ turn es. fun_ext (λ c. turned_at turn es c);
}
