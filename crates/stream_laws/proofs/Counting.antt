-- Sums over the elements of a list, and over those of it that pass a test.
use Rattle.std.proofs.Common.{◌≡◌, ◌≢◌, ℕ, zero, suc, ◌+◌, ◌≤◌, Bool, true, List, [], ◌∷◌, length, get_or, Option, Some, None, refl, sym, ap, ◌∙◌, inl, inr, arith}
use Rattle.std.specs.Prelude.{slice_get, unwrap_or}
use Rattle.std.specs.List.{sum_by, filter}
use Rattle.std.proofs.lemmas.Bool.{cases_Bool}
use Rattle.std.proofs.lemmas.List.Sums.{sum_by-cons}
use Rattle.std.proofs.lemmas.Option.{unwrap_or-slice_get}

-- what an element weighs, if there is one
abbrev pub weight : {X : Type 0} → (X → ℕ) → Option X → ℕ
weight f None = 0
weight f (Some x) = f x

-- one element is a part of the sum
pub one_of_all : {X : Type 0} (f : X → ℕ) (xs : List X) (i : ℕ) → weight f (slice_get xs i) ≤ sum_by f xs
one_of_all f [] i = omega arith
one_of_all f (x ∷ xs) zero = omega (arith, sum_by-cons f x xs)
one_of_all f (x ∷ xs) (suc i) = omega (arith, sum_by-cons f x xs, one_of_all f xs i)

-- and so are two at different places
pub two_of_all : {X : Type 0} (f : X → ℕ) (xs : List X) (i j : ℕ) → i ≢ j → weight f (slice_get xs i) + weight f (slice_get xs j) ≤ sum_by f xs
two_of_all f [] i j differ = omega arith
two_of_all f (x ∷ xs) zero zero differ = absurd (differ refl)
two_of_all f (x ∷ xs) zero (suc j) differ = omega (arith, sum_by-cons f x xs, one_of_all f xs j)
two_of_all f (x ∷ xs) (suc i) zero differ = omega (arith, sum_by-cons f x xs, one_of_all f xs i)
two_of_all f (x ∷ xs) (suc i) (suc j) differ = omega (arith, sum_by-cons f x xs, two_of_all f xs i j (λ is. differ (ap suc is)))

-- an element by its place, where nothing stands past the end and nothing weighs nothing
pub weight_at : {X : Type 0} (f : X → ℕ) (xs : List X) (i : ℕ) (d : X) → f d ≡ 0 → f (get_or xs i d) ≡ weight f (slice_get xs i)
weight_at {X} f xs i d none = ap f (sym (unwrap_or-slice_get xs i d)) ∙ by (slice_get xs i)
  where
    by : (o : Option X) → f (unwrap_or o d) ≡ weight f o
    by None = none
    by (Some x) = refl

-- elements that pass are some of all
pub filter_of_all : {X : Type 0} (f : X → ℕ) (p : X → Bool) (xs : List X) → sum_by f (filter p xs) ≤ sum_by f xs
filter_of_all f p [] = omega arith
filter_of_all f p (x ∷ xs) = elim (cases_Bool (p x)) [
  | inl passes ↦ rw passes (omega (arith, sum_by-cons f x xs, sum_by-cons f x (filter p xs), filter_of_all f p xs))
  | inr fails ↦ rw fails (omega (arith, sum_by-cons f x xs, filter_of_all f p xs))
]

-- those that pass one of two tests are some of all, where none passes both
pub filters_of_all : {X : Type 0} (f : X → ℕ) (p q : X → Bool) (xs : List X) → ((x : X) → p x ≡ true → q x ≡ true → ⊥) → sum_by f (filter p xs) + sum_by f (filter q xs) ≤ sum_by f xs
filters_of_all f p q [] never = omega arith
filters_of_all f p q (x ∷ xs) never = elim (cases_Bool (p x)) [
  | inl first ↦ elim (cases_Bool (q x)) [
    | inl second ↦ absurd (never x first second)
    | inr fails ↦ rw (first, fails) (omega (arith, sum_by-cons f x xs, sum_by-cons f x (filter p xs), filters_of_all f p q xs never))
  ]
  | inr fails ↦ elim (cases_Bool (q x)) [
    | inl second ↦ rw (fails, second) (omega (arith, sum_by-cons f x xs, sum_by-cons f x (filter q xs), filters_of_all f p q xs never))
    | inr neither ↦ rw (fails, neither) (omega (arith, sum_by-cons f x xs, filters_of_all f p q xs never))
  ]
]

-- ---- one element replaced

pub same_list : {X : Type 0} (d : X) (xs ys : List X) → length ys ≡ length xs → ((m : ℕ) → get_or ys m d ≡ get_or xs m d) → ys ≡ xs
same_list d [] [] size each = refl
same_list d [] (y ∷ ys) size each = absurd (omega arith)
same_list d (x ∷ xs) [] size each = absurd (omega arith)
same_list {X} d (x ∷ xs) (y ∷ ys) size each =
    ap (λ (z : X). z ∷ ys) (each 0) ∙ ap (λ (l : List X). x ∷ l) (same_list d xs ys (omega arith) (λ m. each (suc m)))

pub sum_replaced : {X : Type 0} (f : X → ℕ) (d : X) (xs ys : List X) (n : ℕ) → length ys ≡ length xs → ((m : ℕ) → m ≢ n → get_or ys m d ≡ get_or xs m d) → sum_by f ys + f (get_or xs n d) ≡ sum_by f xs + f (get_or ys n d)
sum_replaced f d [] [] n size others = refl
sum_replaced f d [] (y ∷ ys) n size others = absurd (omega arith)
sum_replaced f d (x ∷ xs) [] n size others = absurd (omega arith)
sum_replaced {X} f d (x ∷ xs) (y ∷ ys) zero size others =
    let rest : ys ≡ xs = same_list d xs ys (omega arith) (λ m. others (suc m) (λ is. omega (arith, is))) in
    let sums : sum_by f ys ≡ sum_by f xs = ap (sum_by f) rest in
    omega (arith, sum_by-cons f x xs, sum_by-cons f y ys, sums)
sum_replaced f d (x ∷ xs) (y ∷ ys) (suc n) size others =
    let here : f y ≡ f x = ap f (others 0 (λ is. omega (arith, is))) in
    let rest = sum_replaced f d xs ys n (omega arith) (λ m not. others (suc m) (λ is. not (omega (arith, is)))) in
    omega (arith, sum_by-cons f x xs, sum_by-cons f y ys, here, rest)
