-- Bytes from a place on, and zeros behind them.
use Rattle.std.proofs.Common.{◌≡◌, ℕ, zero, suc, ◌-◌, ◌≤◌, List, [], ◌∷◌, ◌++◌, length, take, drop, sym, ap, ◌∙◌, arith}
use Rattle.std.specs.Prelude.{min, replicate}
use Rattle.std.proofs.lemmas.List.{take-replicate, take_min}
use Rattle.tree_model.specs.Fronts.{front_of}

-- so many of a list with enough zeros behind it
with_zeros : (xs : List ℕ) (n m k : ℕ) → n ≤ m → k ≡ n - length xs → take n (xs ++ replicate m 0) ≡ take n xs ++ replicate k 0
with_zeros [] zero m k le is = let none : k ≡ 0 = omega (arith, is) in ap (λ (i : ℕ). replicate i 0) (sym none)
with_zeros [] (suc n) m k le is = let all : suc n ≡ k = omega (arith, is) in take-replicate (suc n) m 0 le ∙ ap (λ (i : ℕ). replicate i 0) all
with_zeros (x ∷ xs) zero m k le is = let none : k ≡ 0 = omega (arith, is) in ap (λ (i : ℕ). replicate i 0) (sym none)
with_zeros (x ∷ xs) (suc n) m k le is = ap (λ (l : List ℕ). x ∷ l) (with_zeros xs n m k (omega (arith, le)) (omega (arith, is)))

-- those that are there, and zeros up to the end
pub in_two_parts : (bytes rest front behind : List ℕ) (at n k : ℕ) → rest ≡ drop at bytes → k ≡ min (length rest) n → front ≡ take k rest → behind ≡ replicate (n - k) 0 → front ++ behind ≡ front_of bytes at n
unfolding front_of
in_two_parts bytes rest front behind at n k is few there zeros =
    let left : n - k ≡ n - length rest = omega (arith, few) in
    let same : take k rest ≡ take n rest = ap (λ (i : ℕ). take i rest) (few ∙ omega arith) ∙ take_min n rest in
    ap (λ (a : List ℕ). a ++ behind) (there ∙ same) ∙ ap (λ (b : List ℕ). take n rest ++ b) zeros
    ∙ sym (with_zeros rest n n (n - k) (omega arith) left) ∙ ap (λ (l : List ℕ). take n (l ++ replicate n 0)) is
