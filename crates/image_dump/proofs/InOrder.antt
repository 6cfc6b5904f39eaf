-- The list in order: it is sorted and stable, and the only such list.
use Rattle.std.proofs.Common.{◌≡◌, ℕ, zero, suc, ◌<◌, Bool, true, false, not, ◌&&◌, cond, List, [], ◌∷◌, length, get_or, map, refl, sym, ap, ◌∙◌, add-one, arith}
use Rattle.std.specs.Prelude.{filter}
use Rattle.std.specs.Cmp.{IsStrictWeakOrder}
use Rattle.std.specs.List.Sorted.{IsPermutation, IsSortedBy, IsStableBy, ties}
use Rattle.std.proofs.lemmas.List.Sorted.{IsPermutation-refl, IsPermutation-cons, IsPermutation-trans, IsPermutation-sym, IsPermutation-middle}
use Rattle.image_dump.specs.Order.{put_in, in_order, IsInOrder}
use Rattle.image_dump.proofs.OneOrder.{Rises, InOrder, one_order, in_order as rising}

-- ---- an order of other elements

-- elements that are put in order by what f shows of them show the shown ones in order
map-put_in : {Y X : Type 0} (f : Y → X) (lt : X → X → Bool) (y : Y) (ys : List Y) → map f (put_in (λ a b. lt (f a) (f b)) y ys) ≡ put_in lt (f y) (map f ys)
unfolding put_in
map-put_in f lt y [] = refl
map-put_in f lt y (z ∷ zs) = by (lt (f z) (f y)) (map-put_in f lt y zs)
  where
    by : (b : Bool) → map f (put_in (λ a b. lt (f a) (f b)) y zs) ≡ put_in lt (f y) (map f zs) → map f (cond b (z ∷ put_in (λ a b. lt (f a) (f b)) y zs) (y ∷ (z ∷ zs))) ≡ cond b (f z ∷ put_in lt (f y) (map f zs)) (f y ∷ (f z ∷ map f zs))
    by true e = ap (λ l. f z ∷ l) e
    by false e = refl

map-in_order : {Y X : Type 0} (f : Y → X) (lt : X → X → Bool) (ys : List Y) → map f (in_order (λ a b. lt (f a) (f b)) ys) ≡ in_order lt (map f ys)
unfolding in_order
map-in_order f lt [] = refl
map-in_order f lt (y ∷ ys) = map-put_in f lt y (in_order (λ a b. lt (f a) (f b)) ys) ∙ ap (put_in lt (f y)) (map-in_order f lt ys)

-- ---- the same elements

put_in_same : {X : Type 0} (lt : X → X → Bool) (x : X) (ys : List X) → IsPermutation (x ∷ ys) (put_in lt x ys)
unfolding put_in
put_in_same lt x [] = IsPermutation-refl (x ∷ [])
put_in_same lt x (z ∷ zs) = by (lt z x) (put_in_same lt x zs)
  where
    by : (b : Bool) → IsPermutation (x ∷ zs) (put_in lt x zs) → IsPermutation (x ∷ (z ∷ zs)) (cond b (z ∷ put_in lt x zs) (x ∷ (z ∷ zs)))
    by true e = IsPermutation-trans (x ∷ (z ∷ zs)) (z ∷ (x ∷ zs)) (z ∷ put_in lt x zs) (IsPermutation-sym (z ∷ (x ∷ zs)) (x ∷ (z ∷ zs)) (IsPermutation-middle (z ∷ []) x zs)) (IsPermutation-cons z (x ∷ zs) (put_in lt x zs) e)
    by false e = IsPermutation-refl (x ∷ (z ∷ zs))

in_order_same : {X : Type 0} (lt : X → X → Bool) (xs : List X) → IsPermutation xs (in_order lt xs)
unfolding in_order
in_order_same lt [] = IsPermutation-refl []
in_order_same lt (x ∷ xs) = IsPermutation-trans (x ∷ xs) (x ∷ in_order lt xs) (put_in lt x (in_order lt xs)) (IsPermutation-cons x xs (in_order lt xs) (in_order_same lt xs)) (put_in_same lt x (in_order lt xs))

module _ {X : Type 0} (lt : X → X → Bool) (o : IsStrictWeakOrder lt) where
  -- ---- sorted

  put_in_rises : (y x : X) (zs : List X) → Rises lt o y zs → lt x y ≡ false → Rises lt o y (put_in lt x zs)
  unfolding put_in
  put_in_rises y x [] r h = (h, tt)
  put_in_rises y x (z ∷ zs) r h = by (lt z x) refl (put_in_rises z x zs r.1)
    where
      by : (b : Bool) → lt z x ≡ b → (lt x z ≡ false → Rises lt o z (put_in lt x zs)) → Rises lt o y (cond b (z ∷ put_in lt x zs) (x ∷ (z ∷ zs)))
      by true e later = (r.0, later (o.one_way z x e))
      by false e later = (h, (e, r.1))

  put_in_keeps : (x : X) (ys : List X) → InOrder lt o ys → InOrder lt o (put_in lt x ys)
  unfolding put_in
  put_in_keeps x [] r = tt
  put_in_keeps x (z ∷ zs) r = by (lt z x) refl
    where
      by : (b : Bool) → lt z x ≡ b → InOrder lt o (cond b (z ∷ put_in lt x zs) (x ∷ (z ∷ zs)))
      by true e = put_in_rises z x zs r (o.one_way z x e)
      by false e = (e, r)

  in_order_rises : (xs : List X) → InOrder lt o (in_order lt xs)
  unfolding in_order
  in_order_rises [] = tt
  in_order_rises (x ∷ xs) = put_in_keeps x (in_order lt xs) (in_order_rises xs)

  rises_sorted : (y : X) (ys : List X) → Rises lt o y ys → (k : ℕ) (d : X) → k < length ys → lt (get_or ys k d) (get_or (y ∷ ys) k d) ≡ false
  rises_sorted y [] r k d h = absurd (omega arith)
  rises_sorted y (z ∷ zs) r zero d h = r.0
  rises_sorted y (z ∷ zs) r (suc k) d h = rises_sorted z zs r.1 k d (omega arith)

  sorted : (ys : List X) → InOrder lt o ys → IsSortedBy lt ys
  sorted [] r = λ k d low high. absurd (omega arith)
  sorted (y ∷ ys) r = λ k d low high. rw (add-one k) (rises_sorted y ys r k d (omega arith))

  -- ---- what ties stands as before

  both_not : (a b : Bool) → not a && not b ≡ true → (a ≡ false) × (b ≡ false)
  both_not true b e = absurd cc
  both_not false true e = absurd cc
  both_not false false e = (refl, refl)

  -- of two elements that tie with w none stands before the other
  no_tie : (w x z : X) → lt z x ≡ true → ties lt w x ≡ true → ties lt w z ≡ true → ⊥
  no_tie w x z e p q =
      let not_below = o.chain z w x (both_not (lt w z) (lt z w) q).1 (both_not (lt w x) (lt x w) p).0 in
      cc

  passed : (p q : Bool) (x z : X) (front rest : List X) → front ≡ cond p (x ∷ rest) rest → (p ≡ true → q ≡ true → ⊥) → cond q (z ∷ front) front ≡ cond p (x ∷ cond q (z ∷ rest) rest) (cond q (z ∷ rest) rest)
  passed true true x z front rest e apart = absurd (apart refl refl)
  passed true false x z front rest e apart = e
  passed false true x z front rest e apart = ap (λ l. z ∷ l) e
  passed false false x z front rest e apart = e

  put_in_ties : (w x : X) (ys : List X) → filter (ties lt w) (put_in lt x ys) ≡ filter (ties lt w) (x ∷ ys)
  unfolding put_in
  put_in_ties w x [] = refl
  put_in_ties w x (z ∷ zs) = by (lt z x) refl (put_in_ties w x zs)
    where
      by : (b : Bool) → lt z x ≡ b → filter (ties lt w) (put_in lt x zs) ≡ filter (ties lt w) (x ∷ zs) → filter (ties lt w) (cond b (z ∷ put_in lt x zs) (x ∷ (z ∷ zs))) ≡ filter (ties lt w) (x ∷ (z ∷ zs))
      by true e kept = passed (ties lt w x) (ties lt w z) x z (filter (ties lt w) (put_in lt x zs)) (filter (ties lt w) zs) kept (no_tie w x z e)
      by false e kept = refl

  in_order_ties : (w : X) (xs : List X) → filter (ties lt w) (in_order lt xs) ≡ filter (ties lt w) xs
  unfolding in_order
  in_order_ties w [] = refl
  in_order_ties w (x ∷ xs) = put_in_ties w x (in_order lt xs) ∙ ap (λ l. cond (ties lt w x) (x ∷ l) l) (in_order_ties w xs)

  -- ---- the one list

  pub only_order : (xs order : List X) → IsSortedBy lt order → IsStableBy lt xs order → order ≡ in_order lt xs
  only_order xs order s stable = one_order lt o order (in_order lt xs) (rising lt o order s) (in_order_rises xs) (λ w. stable w ∙ sym (in_order_ties w xs))

  pub order_of : (xs : List X) → IsInOrder lt xs (in_order lt xs)
  order_of xs = record { same = in_order_same lt xs; sorted = sorted (in_order lt xs) (in_order_rises xs); ties = λ w. in_order_ties w xs }

-- what f shows of a list that is sorted and stable by it stands in order
pub shown_order : {Y X : Type 0} (f : Y → X) (lt : X → X → Bool) → IsStrictWeakOrder (λ a b. lt (f a) (f b)) → (ys order : List Y) → IsSortedBy (λ a b. lt (f a) (f b)) order → IsStableBy (λ a b. lt (f a) (f b)) ys order → map f order ≡ in_order lt (map f ys)
shown_order f lt o ys order s stable = ap (map f) (only_order (λ a b. lt (f a) (f b)) o ys order s stable) ∙ map-in_order f lt ys
