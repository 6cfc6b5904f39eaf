-- What is given for numbers is found by its number.
use Rattle.std.proofs.Common.{◌≡◌, ℕ, zero, suc, ◌+◌, ◌<◌, ◌≤◌, cond, eqb, List, find, Option, Some, None, refl, sym, ap, ◌∙◌, inl, inr, arith}
use Rattle.std.specs.List.{range_with_len, filter_map, cons_option}
use Rattle.std.proofs.lemmas.Bool.{cases_lt, ne_eqb, eq-eqb}

-- each element has the number from which it comes
abbrev pub IsNumbered : {X : Type 0} → (X → ℕ) → (ℕ → Option X) → Type 0
IsNumbered {X} number f = (m : ℕ) (x : X) → f m ≡ Some x → number x ≡ m

-- one that isn't sought is passed over, and one that is sought is found
passes : {X : Type 0} (number : X → ℕ) (n : ℕ) (o : Option X) (rest : List X) → ((x : X) → o ≡ Some x → number x ≡ n → ⊥) → find (λ x. eqb (number x) n) (cons_option o rest) ≡ find (λ x. eqb (number x) n) rest
passes number n None rest other = refl
passes number n (Some x) rest other = ap (λ t. cond t (Some x) (find (λ y. eqb (number y) n) rest)) (ne_eqb (number x) n (other x refl))

meets : {X : Type 0} (number : X → ℕ) (n : ℕ) (o : Option X) (rest : List X) → ((x : X) → o ≡ Some x → number x ≡ n) → find (λ x. eqb (number x) n) rest ≡ None → find (λ x. eqb (number x) n) (cons_option o rest) ≡ o
meets number n None rest numbered none = none
meets number n (Some x) rest numbered none = ap (λ t. cond t (Some x) (find (λ y. eqb (number y) n) rest)) (eq-eqb (number x) n (numbered x refl))

module _ {X : Type 0} (number : X → ℕ) (f : ℕ → Option X) (numbered : IsNumbered number f) (n : ℕ) where
  apart : (a : ℕ) → (a ≡ n → ⊥) → (x : X) → f a ≡ Some x → number x ≡ n → ⊥
  apart a other x is same = other (sym (numbered a x is) ∙ same)

  pub not_among : (a k : ℕ) → ((m : ℕ) → a ≤ m → m < a + k → m ≡ n → ⊥) → find (λ x. eqb (number x) n) (filter_map f (range_with_len a k)) ≡ None
  not_among a zero other = refl
  not_among a (suc k) other = passes number n (f a) (filter_map f (range_with_len (a + 1) k)) (apart a (other a (omega arith) (omega arith))) ∙ not_among (a + 1) k (λ m low high. other m (omega arith) (omega arith))

  pub among : (a k : ℕ) → a ≤ n → n < a + k → find (λ x. eqb (number x) n) (filter_map f (range_with_len a k)) ≡ f n
  among a zero from to = absurd (omega arith)
  among a (suc k) from to = elim (cases_lt a n) [
    | inl less ↦ passes number n (f a) (filter_map f (range_with_len (a + 1) k)) (apart a (λ same. omega (arith, same))) ∙ among (a + 1) k (omega arith) (omega arith)
    | inr least ↦
        (let same : a ≡ n = omega arith in
        let none = not_among (a + 1) k (λ m low high equal. omega (arith, same, equal)) in
        meets number n (f a) (filter_map f (range_with_len (a + 1) k)) (λ x is. numbered a x is ∙ same) none ∙ ap f same)
  ]
