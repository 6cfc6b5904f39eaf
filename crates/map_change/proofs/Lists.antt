-- Elements put in their places in a list.
use Rattle.std.proofs.Common.{◌≡◌, ℕ, zero, suc, ◌+◌, ◌<◌, Bool, true, false, ◌||◌, ◌&&◌, cond, eqb, List, [], ◌∷◌, ◌++◌, length, get_or, set, take, Option, Some, None, refl, sym, ap, ◌∙◌, inl, inr, arith}
use Rattle.std.specs.Prelude.{find}
use Rattle.std.specs.List.{list_any, list_all, filter_map, cons_option}
use Rattle.std.proofs.Math.ListN.{length-set}
use Rattle.std.proofs.lemmas.Bool.{cases_Bool, cases_eq, eq-eqb, ne_eqb, or_parts, or_left, or_right, and_parts, both_ways}
use Rattle.std.proofs.lemmas.List.{get_or-set_same, get_or-set_other, take_more, append_assoc}
use Rattle.std.proofs.lemmas.List.Elements.{filter_map-append}
use Rattle.map_change.specs.Touching.{is_number}

-- each number's element in its place
abbrev pub put_numbers : {A : Type 0} → (ℕ → A) → List ℕ → List A → List A
put_numbers g [] xs = xs
put_numbers g (n ∷ ns) xs = set (put_numbers g ns xs) n (g n)

pub length_put : {A : Type 0} (g : ℕ → A) (ns : List ℕ) (xs : List A) → length (put_numbers g ns xs) ≡ length xs
length_put g [] xs = refl
length_put g (n ∷ ns) xs = length-set (put_numbers g ns xs) n (g n) ∙ length_put g ns xs

pub get_put : {A : Type 0} (g : ℕ → A) (ns : List ℕ) (xs : List A) (d : A) (m : ℕ) → m < length xs → get_or (put_numbers g ns xs) m d ≡ cond (list_any (is_number m) ns) (g m) (get_or xs m d)
get_put g [] xs d m lt = refl
get_put g (n ∷ ns) xs d m lt = elim (cases_eq n m) [
  | inl same ↦
      ap (λ (k : ℕ). get_or (set (put_numbers g ns xs) k (g k)) m d) same
      ∙ get_or-set_same (put_numbers g ns xs) m (g m) d (omega (arith, length_put g ns xs))
      ∙ sym (ap (λ (t : Bool). cond (t || list_any (is_number m) ns) (g m) (get_or xs m d)) (eq-eqb n m same))
  | inr other ↦
      get_or-set_other (put_numbers g ns xs) n m (g n) d (λ is. other (sym is))
      ∙ get_put g ns xs d m lt
      ∙ sym (ap (λ (t : Bool). cond (t || list_any (is_number m) ns) (g m) (get_or xs m d)) (ne_eqb n m other))
]

pub other_put : {A : Type 0} (g : ℕ → A) (ns : List ℕ) (xs : List A) (d : A) (m : ℕ) → list_any (is_number m) ns ≡ false → get_or (put_numbers g ns xs) m d ≡ get_or xs m d
other_put g [] xs d m none = refl
other_put g (n ∷ ns) xs d m none =
    let parts = or_parts (eqb n m) (list_any (is_number m) ns) none in
    get_or-set_other (put_numbers g ns xs) n m (g n) d (λ is. both_ways (eqb n m) parts.0 (eq-eqb n m (sym is))) ∙ other_put g ns xs d m parts.1

-- a test that all pass, and the default too, is passed at each number
pub all_at : {A : Type 0} (p : A → Bool) (xs : List A) (d : A) (m : ℕ) → p d ≡ true → list_all p xs ≡ true → p (get_or xs m d) ≡ true
all_at p [] d m default all = default
all_at p (x ∷ xs) d zero default all = (and_parts _ _ all).0
all_at p (x ∷ xs) d (suc m) default all = all_at p xs d m default (and_parts _ _ all).1

-- what is put in passes the test too
pub all_set : {A : Type 0} (p : A → Bool) (xs : List A) (n : ℕ) (y : A) → list_all p xs ≡ true → p y ≡ true → list_all p (set xs n y) ≡ true
all_set p [] n y all is = refl
all_set p (x ∷ xs) zero y all is = ap (λ (t : Bool). t && list_all p xs) is ∙ (and_parts _ _ all).1
all_set p (x ∷ xs) (suc n) y all is = let parts = and_parts _ _ all in ap (λ (t : Bool). t && list_all p (set xs n y)) parts.0 ∙ all_set p xs n y parts.1 is

-- ---- what is found

pub any_found : {A : Type 0} (p f : A → Bool) (xs : List A) (x : A) → find p xs ≡ Some x → f x ≡ true → list_any f xs ≡ true
any_found p f [] x is passes = absurd cc
any_found p f (a ∷ xs) x is passes = elim (cases_Bool (p a)) [
  | inl hit ↦ (let here : Some a ≡ Some x = rw hit at is in let same : a ≡ x = cc in or_left (f a) (list_any f xs) (ap f same ∙ passes))
  | inr miss ↦ (let later : find p xs ≡ Some x = rw miss at is in or_right (f a) (list_any f xs) (any_found p f xs x later passes))
]

any_more : (f : ℕ → Bool) (o : Option ℕ) (ns : List ℕ) → list_any f ns ≡ true → list_any f (cons_option o ns) ≡ true
any_more f None ns is = is
any_more f (Some n) ns is = or_right (f n) (list_any f ns) is

any_here : (f : ℕ → Bool) (o : Option ℕ) (n : ℕ) (ns : List ℕ) → o ≡ Some n → f n ≡ true → list_any f (cons_option o ns) ≡ true
any_here f None n ns is passes = absurd cc
any_here f (Some k) n ns is passes = let same : k ≡ n = cc in or_left (f k) (list_any f ns) (ap f same ∙ passes)

pub any_mapped : {A : Type 0} (p : A → Bool) (h : A → Option ℕ) (f : ℕ → Bool) (xs : List A) (x : A) (n : ℕ) → find p xs ≡ Some x → h x ≡ Some n → f n ≡ true → list_any f (filter_map h xs) ≡ true
any_mapped p h f [] x n is maps passes = absurd cc
any_mapped p h f (a ∷ xs) x n is maps passes = elim (cases_Bool (p a)) [
  | inl hit ↦ (let here : Some a ≡ Some x = rw hit at is in let same : a ≡ x = cc in any_here f (h a) n (filter_map h xs) (ap h same ∙ maps) passes)
  | inr miss ↦ (let later : find p xs ≡ Some x = rw miss at is in any_more f (h a) (filter_map h xs) (any_mapped p h f xs x n later maps passes))
]

-- ---- one more

pub mapped_more : {A : Type 0} (h : A → Option ℕ) (ys zs new : List ℕ) (xs : List A) (i : ℕ) (d : A) (o : Option ℕ) → i < length xs → o ≡ h (get_or xs i d) → zs ≡ ys ++ filter_map h (take i xs) → new ≡ zs ++ cons_option o [] → new ≡ ys ++ filter_map h (take (i + 1) xs)
mapped_more h ys zs new xs i d o below is before now =
    now
    ∙ ap (λ (q : Option ℕ). zs ++ cons_option q []) is
    ∙ ap (λ (s : List ℕ). s ++ filter_map h (get_or xs i d ∷ [])) before
    ∙ append_assoc ys (filter_map h (take i xs)) (filter_map h (get_or xs i d ∷ []))
    ∙ ap (λ (s : List ℕ). ys ++ s) (sym (filter_map-append h (take i xs) (get_or xs i d ∷ [])) ∙ ap (filter_map h) (sym (take_more xs i d below)))
