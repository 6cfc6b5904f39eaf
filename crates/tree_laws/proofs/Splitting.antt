-- Lists that are joined from a list for each number, where one of these is replaced.
use Rattle.std.proofs.Common.{◌≡◌, ◌≢◌, ℕ, zero, suc, ◌+◌, ◌<◌, ◌≤◌, List, [], ◌∷◌, ◌++◌, Option, Some, None, append_assoc, refl, sym, ap, ◌∙◌, inl, inr, arith}
use Rattle.std.specs.List.{flat_map, filter_map, cons_option, range_with_len}
use Rattle.std.proofs.lemmas.Bool.{cases_lt}
use Rattle.std.proofs.lemmas.List.{append-nil}
use Rattle.tree_laws.specs.Keeping.{PartReplaced}

pub same_flat : {X : Type 0} (f g : ℕ → List X) (a k : ℕ) → ((m : ℕ) → a ≤ m → m < a + k → g m ≡ f m) → flat_map g (range_with_len a k) ≡ flat_map f (range_with_len a k)
same_flat f g a zero each = refl
same_flat {X} f g a (suc k) each =
    ap (λ (l : List X). l ++ flat_map g (range_with_len (a + 1) k)) (each a (omega arith) (omega arith))
    ∙ ap (λ (l : List X). f a ++ l) (same_flat f g (a + 1) k (λ m low high. each m (omega arith) (omega arith)))

-- one of the numbers is replaced
inside : {X : Type 0} (f g : ℕ → List X) (n a k : ℕ) → ((m : ℕ) → a ≤ m → m < a + k → m ≢ n → g m ≡ f m) → a ≤ n → n < a + k → PartReplaced (f n) (g n) (flat_map f (range_with_len a k)) (flat_map g (range_with_len a k))
inside f g n a zero others low high = absurd (omega arith)
inside {X} f g n a (suc k) others low high = elim (cases_lt a n) [
  | inl less ↦
      (let rest = inside f g n (a + 1) k (λ m from to other. others m (omega arith) (omega arith) other) (omega arith) (omega arith) in
      record {
        front = f a ++ rest.front;
        behind = rest.behind;
        was = ap (λ (l : List X). f a ++ l) rest.was ∙ sym (append_assoc (f a) rest.front (f n ++ rest.behind));
        is =
            ap (λ (l : List X). l ++ flat_map g (range_with_len (a + 1) k)) (others a (omega arith) (omega arith) (λ same. omega (arith, same)))
            ∙ ap (λ (l : List X). f a ++ l) rest.is
            ∙ sym (append_assoc (f a) rest.front (g n ++ rest.behind));
      })
  | inr least ↦
      (let same : a ≡ n = omega arith in
      record {
        front = [];
        behind = flat_map f (range_with_len (a + 1) k);
        was = ap (λ (m : ℕ). f m ++ flat_map f (range_with_len (a + 1) k)) same;
        is =
            ap (λ (m : ℕ). g m ++ flat_map g (range_with_len (a + 1) k)) same
            ∙ ap (λ (l : List X). g n ++ l) (same_flat f g (a + 1) k (λ m from to. others m (omega arith) (omega arith) (λ equal. omega (arith, equal))));
      })
]

-- none of them is, and there is nothing for the one that is
outside : {X : Type 0} (f g : ℕ → List X) (n k : ℕ) → ((m : ℕ) → m < k → m ≢ n → g m ≡ f m) → k ≤ n → f n ≡ [] → g n ≡ [] → PartReplaced (f n) (g n) (flat_map f (range_with_len 0 k)) (flat_map g (range_with_len 0 k))
outside {X} f g n k others past none none_new = record {
  front = flat_map f (range_with_len 0 k);
  behind = [];
  was = sym (ap (λ (l : List X). flat_map f (range_with_len 0 k) ++ (l ++ [])) none ∙ append-nil (flat_map f (range_with_len 0 k)));
  is =
      same_flat f g 0 k (λ m low high. others m (omega arith) (λ equal. omega (arith, equal)))
      ∙ sym (ap (λ (l : List X). flat_map f (range_with_len 0 k) ++ (l ++ [])) none_new ∙ append-nil (flat_map f (range_with_len 0 k)));
}

pub flat_replaced : {X : Type 0} (f g : ℕ → List X) (n k : ℕ) → ((m : ℕ) → m < k → m ≢ n → g m ≡ f m) → (k ≤ n → f n ≡ []) → (k ≤ n → g n ≡ []) → PartReplaced (f n) (g n) (flat_map f (range_with_len 0 k)) (flat_map g (range_with_len 0 k))
flat_replaced f g n k others none none_new = elim (cases_lt n k) [
  | inl within ↦ inside f g n 0 k (λ m low high other. others m (omega arith) other) (omega arith) (omega arith)
  | inr past ↦ outside f g n k others past (none past) (none_new past)
]

-- what is given for numbers, without those for which nothing is
one_more : {X : Type 0} (o : Option X) (rest : List X) → cons_option o rest ≡ cons_option o [] ++ rest
one_more None rest = refl
one_more (Some x) rest = refl

pub filter_as_flat : {X : Type 0} (f : ℕ → Option X) (numbers : List ℕ) → filter_map f numbers ≡ flat_map (λ m. cons_option (f m) []) numbers
filter_as_flat f [] = refl
filter_as_flat {X} f (n ∷ numbers) =
    ap (λ (l : List X). cons_option (f n) l) (filter_as_flat f numbers) ∙ one_more (f n) (flat_map (λ m. cons_option (f m) []) numbers)

one_or_none : {X : Type 0} → (ℕ → Option X) → ℕ → List X
one_or_none f m = cons_option (f m) []

-- the same, of lists of what is given for numbers
from_flat : {X : Type 0} (f g : ℕ → Option X) (n : ℕ) (numbers : List ℕ) → PartReplaced (one_or_none f n) (one_or_none g n) (flat_map (one_or_none f) numbers) (flat_map (one_or_none g) numbers)
    → PartReplaced (cons_option (f n) []) (cons_option (g n) []) (filter_map f numbers) (filter_map g numbers)
unfolding one_or_none
from_flat f g n numbers flat = record {
  front = flat.front;
  behind = flat.behind;
  was = filter_as_flat f numbers ∙ flat.was;
  is = filter_as_flat g numbers ∙ flat.is;
}

same_one : {X : Type 0} (f g : ℕ → Option X) (m : ℕ) → g m ≡ f m → one_or_none g m ≡ one_or_none f m
unfolding one_or_none
same_one {X} f g m same = ap (λ (o : Option X). cons_option o []) same

nothing_for : {X : Type 0} (f : ℕ → Option X) (m : ℕ) → f m ≡ None → one_or_none f m ≡ []
unfolding one_or_none
nothing_for {X} f m none = ap (λ (o : Option X). cons_option o []) none

pub filter_replaced : {X : Type 0} (f g : ℕ → Option X) (n k : ℕ) → ((m : ℕ) → m < k → m ≢ n → g m ≡ f m) → (k ≤ n → f n ≡ None) → (k ≤ n → g n ≡ None)
    → PartReplaced (cons_option (f n) []) (cons_option (g n) []) (filter_map f (range_with_len 0 k)) (filter_map g (range_with_len 0 k))
filter_replaced f g n k others none none_new =
    from_flat f g n (range_with_len 0 k) (flat_replaced (one_or_none f) (one_or_none g) n k (λ m below other. same_one f g m (others m below other)) (λ past. nothing_for f n (none past)) (λ past. nothing_for g n (none_new past)))

-- from a number on, among which this one is
pub filter_replaced_from : {X : Type 0} (f g : ℕ → Option X) (n a k : ℕ) → ((m : ℕ) → a ≤ m → m < a + k → m ≢ n → g m ≡ f m) → a ≤ n → n < a + k
    → PartReplaced (cons_option (f n) []) (cons_option (g n) []) (filter_map f (range_with_len a k)) (filter_map g (range_with_len a k))
filter_replaced_from f g n a k others low high =
    from_flat f g n (range_with_len a k) (inside (one_or_none f) (one_or_none g) n a k (λ m from to other. same_one f g m (others m from to other)) low high)
