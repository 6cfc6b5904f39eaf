-- Two lists in order whose ties stand alike are one list.
use Rattle.std.proofs.Common.{◌≡◌, ℕ, ◌+◌, Bool, true, false, List, [], ◌∷◌, get_or, refl, sym, ap, ◌∙◌, add-one, arith}
use Rattle.std.specs.Prelude.{filter}
use Rattle.std.specs.Cmp.{IsStrictWeakOrder}
use Rattle.std.specs.List.Sorted.{IsSortedBy, ties}

module _ {X : Type 0} (lt : X → X → Bool) (o : IsStrictWeakOrder lt) where
  -- each element is not below the one before it, from y on
  abbrev pub Rises : X → List X → Type 0
  Rises y [] = Unit {0}
  Rises y (z ∷ zs) = (lt z y ≡ false) × Rises z zs

  abbrev pub InOrder : List X → Type 0
  InOrder [] = Unit {0}
  InOrder (y ∷ ys) = Rises y ys

  behind : (y : X) (ys : List X) (k : ℕ) (d : X) → get_or (y ∷ ys) (k + 1) d ≡ get_or ys k d
  behind y ys k d = ap (λ i. get_or (y ∷ ys) i d) (add-one k)

  rises : (y : X) (ys : List X) → IsSortedBy lt (y ∷ ys) → Rises y ys
  rises y [] s = tt
  rises y (z ∷ zs) s = (
    s 0 y (omega arith) (omega arith),
    rises z zs (λ k d low high.
        rw (behind y (z ∷ zs) (k + 1) d, behind y (z ∷ zs) k d) at (s (k + 1) d (omega arith) (omega arith))),
  )

  pub in_order : (ys : List X) → IsSortedBy lt ys → InOrder ys
  in_order [] s = tt
  in_order (y ∷ ys) s = rises y ys s

  not_below_itself : (x : X) (b : Bool) → lt x x ≡ b → lt x x ≡ false
  not_below_itself x true e = o.one_way x x e
  not_below_itself x false e = e

  tie-self : (x : X) → ties lt x x ≡ true
  tie-self x = rw (not_below_itself x (lt x x) refl) refl

  -- whatever passes a test is not below the first of a list in order
  lowest : (p : X → Bool) (z : X) (zs : List X) → Rises z zs → (b : Bool) → p z ≡ b → (a : X) (more : List X) → filter p (z ∷ zs) ≡ a ∷ more → lt a z ≡ false
  lowest p z zs r true e a more is =
      let whole : z ∷ filter p zs ≡ a ∷ more = rw e at is in
      let head : z ≡ a = ap (λ l. get_or l 0 a) whole in
      ap (λ x. lt x z) (sym head) ∙ not_below_itself z (lt z z) refl
  lowest p z [] r false e a more is = absurd cc
  lowest p z (y ∷ ys) r false e a more is =
      let rest : filter p (y ∷ ys) ≡ a ∷ more = rw e at is in
      o.chain a y z (lowest p y ys r.1 (p y) refl a more rest) r.0

  abbrev tail_of : List X → List X
  tail_of [] = []
  tail_of (x ∷ xs) = xs

  same_behind : (p : X → Bool) (z : X) (ys zs : List X) (b : Bool) → p z ≡ b → filter p (z ∷ ys) ≡ filter p (z ∷ zs) → filter p ys ≡ filter p zs
  same_behind p z ys zs true e is =
      let whole : z ∷ filter p ys ≡ z ∷ filter p zs = rw e at is in
      ap tail_of whole
  same_behind p z ys zs false e is = rw e at is

  passes : (p : X → Bool) (z : X) (zs : List X) → p z ≡ true → filter p (z ∷ zs) ≡ z ∷ filter p zs
  passes p z zs e = rw e refl

  both_ties : (y z : X) → lt y z ≡ false → lt z y ≡ false → ties lt y z ≡ true
  both_ties y z a b = rw (a, b) refl

  pub one_order : (ys zs : List X) → InOrder ys → InOrder zs → ((x : X) → filter (ties lt x) ys ≡ filter (ties lt x) zs) → ys ≡ zs
  one_order [] [] r s same = refl
  one_order [] (z ∷ zs) r s same = absurd (let e = same z ∙ passes (ties lt z) z zs (tie-self z) in cc)
  one_order (y ∷ ys) [] r s same = absurd (let e = sym (same y) ∙ passes (ties lt y) y ys (tie-self y) in cc)
  one_order (y ∷ ys) (z ∷ zs) r s same =
      let at_y = passes (ties lt y) y ys (tie-self y) in
      let at_z = passes (ties lt z) z zs (tie-self z) in
      let a : lt y z ≡ false = lowest (ties lt y) z zs s (ties lt y z) refl y (filter (ties lt y) ys) (sym (same y) ∙ at_y) in
      let b : lt z y ≡ false = lowest (ties lt z) y ys r (ties lt z y) refl z (filter (ties lt z) zs) (same z ∙ at_z) in
      let whole : y ∷ filter (ties lt y) ys ≡ z ∷ filter (ties lt y) zs = sym at_y ∙ same y ∙ passes (ties lt y) z zs (both_ties y z a b) in
      let head : y ≡ z = ap (λ l. get_or l 0 y) whole in
      let alike : (x : X) → filter (ties lt x) (z ∷ ys) ≡ filter (ties lt x) (z ∷ zs) = (λ x. ap (λ (w : X). filter (ties lt x) (w ∷ ys)) (sym head) ∙ same x) in
      ap (λ (w : X). w ∷ ys) head ∙ ap (λ l. z ∷ l) (one_order ys zs (later y ys r) (later z zs s) (λ x. same_behind (ties lt x) z ys zs (ties lt x z) refl (alike x)))
    where
      later : (x : X) (xs : List X) → Rises x xs → InOrder xs
      later x [] t = tt
      later x (w ∷ ws) t = t.1
