-- Elements of lists, and lists that have the same ones.
use Rattle.std.proofs.Common.{◌≡◌, ◌⊎◌, ℕ, zero, suc, ◌+◌, ◌<◌, ◌≤◌, Bool, true, false, cond, List, [], ◌∷◌, ◌++◌, length, length-append, find, Option, Some, None, refl, sym, ap, subst, ◌∙◌, inl, inr, arith}
use Rattle.std.specs.List.{filter, flat_map, range_with_len, AllByRecursion}
use Rattle.std.specs.List.Sorted.{IsPermutation}
use Rattle.std.proofs.lemmas.Bool.{cases_lt}
use Rattle.std.proofs.lemmas.List.{append_assoc}
use Rattle.std.proofs.lemmas.List.Elements.{All-from_recursion, recursion_from_All}
use Rattle.std.proofs.lemmas.List.Sorted.{IsPermutation-refl, IsPermutation-trans, IsPermutation-cons, IsPermutation-to_front, IsPermutation-append_left, All-permutation}

abbrev pub Among : {X : Type 0} → X → List X → Type 0
Among x [] = ⊥
Among x (y ∷ ys) = (y ≡ x) ⊎ Among x ys

-- none is among those behind it
abbrev pub Apart : {X : Type 0} → List X → Type 0
Apart [] = Unit {0}
Apart (x ∷ xs) = (Among x xs → ⊥) × Apart xs

-- a list in which this stands
record Split {X : Type 0} (x : X) (xs : List X) : Type 0 where
  front : List X
  behind : List X
  is : xs ≡ front ++ x ∷ behind

module _ {X : Type 0} where
  pub every_among : (P : X → Type 0) (x : X) (xs : List X) → AllByRecursion P xs → Among x xs → P x
  every_among P x [] all there = absurd there
  every_among P x (y ∷ xs) all (inl same) = subst P same all.0
  every_among P x (y ∷ xs) all (inr later) = every_among P x xs all.1 later

  pub from_among : (P : X → Type 0) (xs : List X) → ((x : X) → Among x xs → P x) → AllByRecursion P xs
  from_among P [] each = tt
  from_among P (x ∷ xs) each = (each x (inl refl), from_among P xs (λ y later. each y (inr later)))

  pub among_left : (x : X) (xs ys : List X) → Among x xs → Among x (xs ++ ys)
  among_left x [] ys there = absurd there
  among_left x (y ∷ xs) ys (inl same) = inl same
  among_left x (y ∷ xs) ys (inr later) = inr (among_left x xs ys later)

  pub among_right : (x : X) (xs ys : List X) → Among x ys → Among x (xs ++ ys)
  among_right x [] ys there = there
  among_right x (y ∷ xs) ys there = inr (among_right x xs ys there)

  -- ---- as many

  split : (x : X) (xs : List X) → Among x xs → Split x xs
  split x [] there = absurd there
  split x (y ∷ xs) (inl same) = record { front = []; behind = xs; is = ap (λ (z : X). z ∷ xs) same }
  split x (y ∷ xs) (inr later) = let rest = split x xs later in record { front = y ∷ rest.front; behind = rest.behind; is = ap (λ (l : List X). y ∷ l) rest.is }

  -- another element is left
  left : (x y : X) (front behind : List X) → Among y (front ++ x ∷ behind) → (x ≡ y → ⊥) → Among y (front ++ behind)
  left x y [] behind (inl same) other = absurd (other same)
  left x y [] behind (inr later) other = later
  left x y (z ∷ front) behind (inl same) other = inl same
  left x y (z ∷ front) behind (inr later) other = inr (left x y front behind later other)

  all_left : (x : X) (ys : List X) (s : Split x ys) (xs : List X) → AllByRecursion (λ y. Among y ys) xs → (Among x xs → ⊥) → AllByRecursion (λ y. Among y (s.front ++ s.behind)) xs
  all_left x ys s [] all none = tt
  all_left x ys s (y ∷ xs) all none = (left x y s.front s.behind (subst (Among y) s.is all.0) (λ same. none (inl (sym same))), all_left x ys s xs all.1 (λ later. none (inr later)))

  one_less : (x : X) (ys : List X) (s : Split x ys) → length ys ≡ suc (length (s.front ++ s.behind))
  one_less x ys s =
      let long = ap length s.is in
      omega (arith, long, length-append s.front (x ∷ s.behind), length-append s.front s.behind)

  moved : (x : X) (front behind : List X) → IsPermutation (front ++ x ∷ behind) (x ∷ (front ++ behind))
  moved x front behind = subst (λ (l : List X). IsPermutation l (x ∷ (front ++ behind))) (append_assoc front (x ∷ []) behind) (IsPermutation-append_left behind (front ++ x ∷ []) (x ∷ front) (IsPermutation-to_front front x))

  -- elements that stand apart are at most as many as those among which they are
  pub fewer : (xs ys : List X) → Apart xs → AllByRecursion (λ x. Among x ys) xs → length xs ≤ length ys
  fewer [] ys apart all = omega arith
  fewer (x ∷ xs) ys apart all =
      let s = split x ys all.0 in
      let rest = fewer xs (s.front ++ s.behind) apart.1 (all_left x ys s xs all.1 apart.0) in
      let long = one_less x ys s in
      omega (arith, rest, long)

  -- where they are as many, they are these
  pub permuted : (xs ys : List X) → Apart xs → AllByRecursion (λ x. Among x ys) xs → length ys ≡ length xs → IsPermutation ys xs
  permuted [] [] apart all size = IsPermutation-refl []
  permuted [] (y ∷ ys) apart all size = absurd (omega (arith, size))
  permuted (x ∷ xs) ys apart all size =
      let s = split x ys all.0 in
      let long = one_less x ys s in
      let rest = permuted xs (s.front ++ s.behind) apart.1 (all_left x ys s xs all.1 apart.0) (omega (arith, long, size)) in
      subst (λ (l : List X). IsPermutation l (x ∷ xs)) (sym s.is) (IsPermutation-trans _ _ _ (moved x s.front s.behind) (IsPermutation-cons x _ _ rest))

  -- an element of a list is one of each list of the same elements
  pub still_among : (xs ys : List X) → IsPermutation xs ys → (x : X) → Among x ys → Among x xs
  still_among xs ys same x there =
      every_among (λ y. Among y xs) x ys (recursion_from_All (λ y. Among y xs) ys (All-permutation (λ y. Among y xs) xs ys same (All-from_recursion (λ y. Among y xs) xs (from_among (λ y. Among y xs) xs (λ y here. here))))) there

  -- ---- elements that pass a test

  kept_by : (x : X) (t : Bool) (y : X) (ys : List X) → Among x ys → Among x (cond t (y ∷ ys) ys)
  kept_by x true y ys there = inr there
  kept_by x false y ys there = there

  pub among_passing : (f : X → Bool) (x : X) (xs : List X) → Among x xs → f x ≡ true → Among x (filter f xs)
  among_passing f x [] there is = there
  among_passing f x (y ∷ xs) (inl same) is = subst (λ (t : Bool). Among x (cond t (y ∷ filter f xs) (filter f xs))) (sym (ap f same ∙ is)) (inl same)
  among_passing f x (y ∷ xs) (inr later) is = kept_by x (f y) y (filter f xs) (among_passing f x xs later is)

  passing_by : (f : X → Bool) (x y : X) (xs : List X) → (Among x (filter f xs) → Among x xs × (f x ≡ true)) → (t : Bool) → f y ≡ t → Among x (cond t (y ∷ filter f xs) (filter f xs)) → Among x (y ∷ xs) × (f x ≡ true)
  passing_by f x y xs rest true passes (inl same) = (inl same, sym (ap f same) ∙ passes)
  passing_by f x y xs rest true passes (inr later) = let both = rest later in (inr both.0, both.1)
  passing_by f x y xs rest false fails later = let both = rest later in (inr both.0, both.1)

  pub passing : (f : X → Bool) (x : X) (xs : List X) → Among x (filter f xs) → Among x xs × (f x ≡ true)
  passing f x [] there = absurd there
  passing f x (y ∷ xs) there = passing_by f x y xs (passing f x xs) (f y) refl there

  found_by : (f : X → Bool) (x y : X) (xs : List X) → (find f xs ≡ Some x → Among x xs × (f x ≡ true)) → (t : Bool) → f y ≡ t → cond t (Some y) (find f xs) ≡ Some x → Among x (y ∷ xs) × (f x ≡ true)
  found_by f x y xs rest true passes is = let same : y ≡ x = cc in (inl same, sym (ap f same) ∙ passes)
  found_by f x y xs rest false fails is = let both = rest is in (inr both.0, both.1)

  -- what is found is among them and passes
  pub found_among : (f : X → Bool) (x : X) (xs : List X) → find f xs ≡ Some x → Among x xs × (f x ≡ true)
  found_among f x [] is = absurd cc
  found_among f x (y ∷ xs) is = found_by f x y xs (found_among f x xs) (f y) refl is

  none_by : (f : X → Bool) (y : X) (xs : List X) → (find f xs ≡ None → AllByRecursion (λ x. f x ≡ false) xs) → (t : Bool) → f y ≡ t → cond t (Some y) (find f xs) ≡ None → AllByRecursion (λ x. f x ≡ false) (y ∷ xs)
  none_by f y xs rest true passes is = absurd cc
  none_by f y xs rest false fails is = (fails, rest is)

  pub none_found : (f : X → Bool) (xs : List X) → find f xs ≡ None → AllByRecursion (λ x. f x ≡ false) xs
  none_found f [] is = tt
  none_found f (y ∷ xs) is = none_by f y xs (none_found f xs) (f y) refl is

  -- ---- numbers

  pub among_numbers : (g : ℕ → List X) (x : X) (m a k : ℕ) → a ≤ m → m < a + k → Among x (g m) → Among x (flat_map g (range_with_len a k))
  among_numbers g x m a zero low high there = absurd (omega (arith, low, high))
  among_numbers g x m a (suc k) low high there = elim (cases_lt a m) [
    | inl less ↦ among_right x (g a) (flat_map g (range_with_len (a + 1) k)) (among_numbers g x m (a + 1) k (omega (arith, less)) (omega (arith, high)) there)
    | inr same ↦ (let here : m ≡ a = omega (arith, low, same) in among_left x (g a) (flat_map g (range_with_len (a + 1) k)) (subst (λ (n : ℕ). Among x (g n)) here there))
  ]
