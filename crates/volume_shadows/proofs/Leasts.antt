-- The least of numbers that may not be there, as an order.
use Rattle.std.proofs.Common.{◌≡◌, ℕ, zero, suc, ◌+◌, ◌-◌, ◌<◌, ◌≤◌, Bool, true, false, cond, min, List, [], ◌∷◌, ◌++◌, length, get_or, drop, find, Option, Some, None, refl, sym, ap, ◌∙◌, ◌⊎◌, inl, inr, subst, arith}
use Rattle.std.specs.List.{All, AllByRecursion, cons_option, filter_map, flat_map, range_with_len}
use Rattle.std.specs.List.Sorted.{IsPermutation}
use Rattle.std.proofs.lemmas.Bool.{cases_lt}
use Rattle.std.proofs.lemmas.List.Elements.{All-from_recursion, recursion_from_All}
use Rattle.std.proofs.lemmas.List.Sorted.{All-permutation, IsPermutation-sym}
use Rattle.volume_shadows.specs.Least.{lesser, least_of}

-- ---- the lesser of two

pub lesser_none : (a : Option ℕ) → lesser a None ≡ a
lesser_none None = refl
lesser_none (Some x) = refl

pub lesser_same : (a : Option ℕ) → lesser a a ≡ a
lesser_same None = refl
lesser_same (Some x) = let e : min x x ≡ x = omega arith in ap (λ (n : ℕ). Some n) e

pub lesser_turned : (a b : Option ℕ) → lesser a b ≡ lesser b a
lesser_turned None None = refl
lesser_turned None (Some y) = refl
lesser_turned (Some x) None = refl
lesser_turned (Some x) (Some y) = let e : min x y ≡ min y x = omega arith in ap (λ (n : ℕ). Some n) e

pub lesser_joined : (a b c : Option ℕ) → lesser (lesser a b) c ≡ lesser a (lesser b c)
lesser_joined None b c = refl
lesser_joined (Some x) None c = refl
lesser_joined (Some x) (Some y) None = refl
lesser_joined (Some x) (Some y) (Some z) = let e : min (min x y) z ≡ min x (min y z) = omega arith in ap (λ (n : ℕ). Some n) e

-- ---- at most

-- the first is there and at most the second, or the second isn't there
abbrev pub AtMost : Option ℕ → Option ℕ → Type 0
AtMost a b = lesser a b ≡ a

pub at_most_through : (a b c : Option ℕ) → AtMost a b → AtMost b c → AtMost a c
at_most_through a b c first second = ap (λ (x : Option ℕ). lesser x c) (sym first) ∙ lesser_joined a b c ∙ ap (λ (x : Option ℕ). lesser a x) second ∙ first

pub at_most_both : (a b : Option ℕ) → AtMost a b → AtMost b a → a ≡ b
at_most_both a b first second = sym first ∙ lesser_turned a b ∙ second

pub at_most_left : (a b : Option ℕ) → AtMost (lesser a b) a
at_most_left a b = ap (λ (x : Option ℕ). lesser x a) (lesser_turned a b) ∙ lesser_joined b a a ∙ ap (λ (x : Option ℕ). lesser b x) (lesser_same a) ∙ lesser_turned b a

pub at_most_right : (a b : Option ℕ) → AtMost (lesser a b) b
at_most_right a b = lesser_joined a b b ∙ ap (λ (x : Option ℕ). lesser a x) (lesser_same b)

pub at_most_lesser : (c a b : Option ℕ) → AtMost c a → AtMost c b → AtMost c (lesser a b)
at_most_lesser c a b first second = sym (lesser_joined c a b) ∙ ap (λ (x : Option ℕ). lesser x b) first ∙ second

-- ---- the least of a list

-- it is among these
abbrev pub Has : {A : Type 0} → A → List A → Type 0
Has x [] = ⊥
Has x (y ∷ ys) = (x ≡ y) ⊎ Has x ys

pub least_at_most : {A : Type 0} (f : A → Option ℕ) (x : A) (xs : List A) → Has x xs → AtMost (least_of f xs) (f x)
least_at_most {A = A} f x [] has = absurd has
least_at_most {A = A} f x (y ∷ ys) (inl same) = subst (λ (z : A). AtMost (lesser (f y) (least_of f ys)) (f z)) (sym same) (at_most_left (f y) (least_of f ys))
least_at_most {A = A} f x (y ∷ ys) (inr has) = at_most_through (lesser (f y) (least_of f ys)) (least_of f ys) (f x) (at_most_right (f y) (least_of f ys)) (least_at_most f x ys has)

pub at_most_least : {A : Type 0} (b : Option ℕ) (f : A → Option ℕ) (xs : List A) → ((x : A) → Has x xs → AtMost b (f x)) → AtMost b (least_of f xs)
at_most_least b f [] each = lesser_none b
at_most_least b f (y ∷ ys) each = at_most_lesser b (f y) (least_of f ys) (each y (inl refl)) (at_most_least b f ys (λ x has. each x (inr has)))

pub least_alike : {A : Type 0} (f g : A → Option ℕ) (xs : List A) → ((x : A) → f x ≡ g x) → least_of f xs ≡ least_of g xs
least_alike f g [] same = refl
least_alike f g (x ∷ xs) same = ap (λ (o : Option ℕ). lesser o (least_of f xs)) (same x) ∙ ap (λ (o : Option ℕ). lesser (g x) o) (least_alike f g xs same)

pub least_none : {A : Type 0} (f : A → Option ℕ) (xs : List A) → ((x : A) → f x ≡ None) → least_of f xs ≡ None
least_none f [] none = refl
least_none f (x ∷ xs) none = ap (λ (o : Option ℕ). lesser o (least_of f xs)) (none x) ∙ least_none f xs none

pub least_append : {A : Type 0} (f : A → Option ℕ) (xs ys : List A) → least_of f (xs ++ ys) ≡ lesser (least_of f xs) (least_of f ys)
least_append f [] ys = refl
least_append f (x ∷ xs) ys = ap (λ (o : Option ℕ). lesser (f x) o) (least_append f xs ys) ∙ sym (lesser_joined (f x) (least_of f xs) (least_of f ys))

pub least_flat : {A B : Type 0} (g : B → Option ℕ) (f : A → List B) (xs : List A) → least_of g (flat_map f xs) ≡ least_of (λ x. least_of g (f x)) xs
least_flat g f [] = refl
least_flat g f (x ∷ xs) = least_append g (f x) (flat_map f xs) ∙ ap (λ (o : Option ℕ). lesser (least_of g (f x)) o) (least_flat g f xs)

-- what is said of something that may not be there
abbrev pub said_of : {B : Type 0} → (B → Option ℕ) → Option B → Option ℕ
said_of g None = None
said_of g (Some y) = g y

filtered_by : {A B : Type 0} (g : B → Option ℕ) (f : A → Option B) (xs : List A) (o : Option B) → least_of g (filter_map f xs) ≡ least_of (λ x. said_of g (f x)) xs
    → least_of g (cons_option o (filter_map f xs)) ≡ lesser (said_of g o) (least_of (λ x. said_of g (f x)) xs)
filtered_by g f xs None rest = rest
filtered_by g f xs (Some y) rest = ap (λ (o : Option ℕ). lesser (g y) o) rest

pub least_filtered : {A B : Type 0} (g : B → Option ℕ) (f : A → Option B) (xs : List A) → least_of g (filter_map f xs) ≡ least_of (λ x. said_of g (f x)) xs
least_filtered g f [] = refl
least_filtered g f (x ∷ xs) = filtered_by g f xs (f x) (least_filtered g f xs)

-- ---- members

has_by : {A : Type 0} (x y : A) (ys : List A) (b : Bool) (o : Option A) → (o ≡ Some x → Has x ys) → cond b (Some y) o ≡ Some x → Has x (y ∷ ys)
has_by x y ys true o rest is = inl cc
has_by x y ys false o rest is = inr (rest is)

pub found_has : {A : Type 0} (p : A → Bool) (x : A) (xs : List A) → find p xs ≡ Some x → Has x xs
found_has p x [] found = absurd cc
found_has p x (y ∷ ys) found = has_by x y ys (p y) (find p ys) (found_has p x ys) found

passes_by : {A : Type 0} (p : A → Bool) (x y : A) (b : Bool) (o : Option A) → p y ≡ b → (o ≡ Some x → p x ≡ true) → cond b (Some y) o ≡ Some x → p x ≡ true
passes_by {A = A} p x y true o here rest is = let same : y ≡ x = cc in subst (λ (z : A). p z ≡ true) same here
passes_by p x y false o here rest is = rest is

pub found_passes : {A : Type 0} (p : A → Bool) (x : A) (xs : List A) → find p xs ≡ Some x → p x ≡ true
found_passes p x [] found = absurd cc
found_passes p x (y ∷ ys) found = passes_by p x y (p y) (find p ys) refl (found_passes p x ys) found

pub range_has : (n from count : ℕ) → from ≤ n → n < from + count → Has n (range_with_len from count)
range_has n from zero le lt = absurd (omega (arith, le, lt))
range_has n from (suc count) le lt = elim (cases_lt from n) [
  | inl behind ↦ inr (range_has n (from + 1) count (omega (arith, behind)) (omega (arith, lt)))
  | inr here ↦ inl (omega (arith, le, here))
]

pub range_below : (n from count : ℕ) → Has n (range_with_len from count) → n < from + count
range_below n from zero has = absurd has
range_below n from (suc count) (inl here) = omega (arith, here)
range_below n from (suc count) (inr has) = let below : n < from + 1 + count = range_below n (from + 1) count has in omega (arith, below)

-- ---- the steps of a loop

step_joined : (a b rest now all : Option ℕ) → now ≡ lesser a b → lesser a (lesser b rest) ≡ all → lesser now rest ≡ all
step_joined a b rest now all is left = ap (λ (o : Option ℕ). lesser o rest) is ∙ lesser_joined a b rest ∙ left

step_by : {A : Type 0} (f : A → Option ℕ) (xs : List A) (i : ℕ) (x : A) (a now all : Option ℕ) → i < length xs → x ≡ get_or xs i x → now ≡ lesser a (f x) → lesser a (least_of f (drop i xs)) ≡ all → lesser now (least_of f (drop (suc i) xs)) ≡ all
step_by f [] i x a now all lt here is left = absurd (omega (arith, lt))
step_by {A = A} f (y ∷ ys) zero x a now all lt here is left = step_joined a (f y) (least_of f ys) now all (is ∙ ap (λ (z : A). lesser a (f z)) here) left
step_by f (y ∷ ys) (suc i) x a now all lt here is left = step_by f ys i x a now all (omega (arith, lt)) here is left

-- one element more
pub least_step : {A : Type 0} (f : A → Option ℕ) (xs : List A) (i : ℕ) (x : A) (a now all : Option ℕ) → i < length xs → x ≡ get_or xs i x → now ≡ lesser a (f x) → lesser a (least_of f (drop i xs)) ≡ all → lesser now (least_of f (drop (i + 1) xs)) ≡ all
least_step f xs i x a now all lt here is left = let next : i + 1 ≡ suc i = omega arith in ap (λ (n : ℕ). lesser now (least_of f (drop n xs))) next ∙ step_by f xs i x a now all lt here is left

at_again : {A : Type 0} (xs : List A) (i : ℕ) (d e : A) → i < length xs → get_or xs i d ≡ get_or xs i e
at_again [] i d e lt = absurd (omega (arith, lt))
at_again (x ∷ xs) zero d e lt = refl
at_again (x ∷ xs) (suc i) d e lt = at_again xs i d e (omega (arith, lt))

-- the same of the element at a place
pub least_at : {A : Type 0} (f : A → Option ℕ) (xs : List A) (i : ℕ) (d : A) (a now all : Option ℕ) → i < length xs → now ≡ lesser a (f (get_or xs i d)) → lesser a (least_of f (drop i xs)) ≡ all → lesser now (least_of f (drop (i + 1) xs)) ≡ all
least_at f xs i d a now all lt is left = least_step f xs i (get_or xs i d) a now all lt (at_again xs i d (get_or xs i d) lt) is left

none_left : {A : Type 0} (f : A → Option ℕ) (xs : List A) (i : ℕ) → length xs ≤ i → least_of f (drop i xs) ≡ None
none_left f [] zero past = refl
none_left f [] (suc i) past = refl
none_left f (y ∷ ys) zero past = absurd (omega (arith, past))
none_left f (y ∷ ys) (suc i) past = none_left f ys i (omega (arith, past))

-- and none left
pub least_end : {A : Type 0} (f : A → Option ℕ) (xs : List A) (i : ℕ) (a all : Option ℕ) → length xs ≤ i → lesser a (least_of f (drop i xs)) ≡ all → a ≡ all
least_end f xs i a all past left = sym (lesser_none a) ∙ ap (λ (o : Option ℕ). lesser a o) (sym (none_left f xs i past)) ∙ left

-- the same over numbers
pub range_step : (f : ℕ → Option ℕ) (i count : ℕ) (a now all : Option ℕ) → i < count → now ≡ lesser a (f i) → lesser a (least_of f (range_with_len i (count - i))) ≡ all → lesser now (least_of f (range_with_len (i + 1) (count - (i + 1)))) ≡ all
range_step f i count a now all lt is left =
    let next : count - i ≡ suc (count - (i + 1)) = omega (arith, lt) in
    step_joined a (f i) (least_of f (range_with_len (i + 1) (count - (i + 1)))) now all is (sym (ap (λ (n : ℕ). lesser a (least_of f (range_with_len i n))) next) ∙ left)

pub range_end : (f : ℕ → Option ℕ) (i count : ℕ) (a all : Option ℕ) → count ≤ i → lesser a (least_of f (range_with_len i (count - i))) ≡ all → a ≡ all
range_end f i count a all past left =
    let none : count - i ≡ 0 = omega (arith, past) in
    sym (lesser_none a) ∙ sym (ap (λ (n : ℕ). lesser a (least_of f (range_with_len i n))) none) ∙ left

-- what was taken in changes nothing when it comes again
pub least_again : (a b now : Option ℕ) → now ≡ lesser a b → lesser now b ≡ now
least_again a b now is = ap (λ (o : Option ℕ). lesser o b) is ∙ at_most_right a b ∙ sym is

-- ---- the same elements

least_all : {A : Type 0} (f : A → Option ℕ) (xs : List A) → All (λ x. AtMost (least_of f xs) (f x)) xs
least_all {A = A} f xs = All-from_recursion (λ x. AtMost (least_of f xs) (f x)) xs (each xs (λ x has. least_at_most f x xs has))
  where
    each : (ys : List A) → ((x : A) → Has x ys → AtMost (least_of f xs) (f x)) → AllByRecursion (λ x. AtMost (least_of f xs) (f x)) ys
    each [] h = tt
    each (y ∷ ys) h = (h y (inl refl), each ys (λ x has. h x (inr has)))

all_least : {A : Type 0} (b : Option ℕ) (f : A → Option ℕ) (xs : List A) → All (λ x. AtMost b (f x)) xs → AtMost b (least_of f xs)
all_least {A = A} b f xs all = by_recursion xs (recursion_from_All (λ x. AtMost b (f x)) xs all)
  where
    by_recursion : (ys : List A) → AllByRecursion (λ x. AtMost b (f x)) ys → AtMost b (least_of f ys)
    by_recursion [] h = lesser_none b
    by_recursion (y ∷ ys) h = at_most_lesser b (f y) (least_of f ys) h.0 (by_recursion ys h.1)

pub least_moved : {A : Type 0} (f : A → Option ℕ) (xs ys : List A) → IsPermutation xs ys → least_of f ys ≡ least_of f xs
least_moved {A = A} f xs ys moved = at_most_both (least_of f ys) (least_of f xs) (one ys xs (IsPermutation-sym xs ys moved)) (one xs ys moved)
  where
    one : (us vs : List A) → IsPermutation us vs → AtMost (least_of f us) (least_of f vs)
    one us vs permuted = all_least (least_of f us) f vs (All-permutation (λ x. AtMost (least_of f us) (f x)) us vs permuted (least_all f us))
