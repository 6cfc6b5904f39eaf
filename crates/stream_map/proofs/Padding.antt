-- Bytes with zeros behind them.
use Rattle.std.proofs.Common.{◌≡◌, ℕ, ◌+◌, ◌-◌, ◌≤◌, min, List, [], ◌++◌, length, take, drop, sym, ap, ◌∙◌, inl, inr, arith}
use Rattle.std.proofs.lemmas.Bool.{cases_lt}
use Rattle.std.proofs.lemmas.List.{length-append, length-drop, take_at, take-append-le, take-replicate, append-nil, take_all}
use Rattle.std.proofs.Math.Seq.{take-append-add}
use Rattle.disk_model.specs.Bytes.{zeros}

take-zeros : (m n : ℕ) → m ≤ n → take m (zeros n) ≡ zeros m
unfolding zeros
take-zeros m n le = take-replicate m n 0 le

no_zeros : (n : ℕ) → n ≡ 0 → zeros n ≡ []
unfolding zeros
no_zeros n none = ap zeros none

-- what stands in front of a part that was cleared
pub padded : (b n : ℕ) (ys out new : List ℕ) → length ys ≡ b → length out ≡ n → b ≤ n → new ≡ take b (ys ++ drop b out) ++ zeros (length (ys ++ drop b out) - b) → new ≡ ys ++ zeros (n - b)
padded b n ys out new size count le is =
    let left : length (ys ++ drop b out) - b ≡ n - b = omega (arith, length-append ys (drop b out), length-drop b out) in
    is ∙ ap (λ (l : List ℕ). l ++ zeros (length (ys ++ drop b out) - b)) (take_at ys (drop b out) b size) ∙ ap (λ (k : ℕ). ys ++ zeros k) left

-- so many values of a list with zeros behind it
pub take-padded : (xs : List ℕ) (n b : ℕ) → b ≡ min (length xs) n → take n (xs ++ zeros n) ≡ take b xs ++ zeros (n - b)
take-padded xs n b is =
    elim (cases_lt (length xs) n) [
      | inl short ↦
          let whole : n ≡ length xs + (n - b) = omega arith in
          let back : take n (xs ++ zeros n) ≡ xs ++ take (n - b) (zeros n) = ap (λ (k : ℕ). take k (xs ++ zeros n)) whole ∙ take-append-add xs (zeros n) (n - b) in
          back ∙ ap (λ (l : List ℕ). xs ++ l) (take-zeros (n - b) n (omega arith)) ∙ ap (λ (l : List ℕ). l ++ zeros (n - b)) (sym (take_all b xs (omega arith)))
      | inr long ↦
          let all : n ≡ b = omega arith in
          take-append-le n xs (zeros n) long ∙ ap (λ (k : ℕ). take k xs) all ∙ sym (append-nil (take b xs)) ∙ ap (λ (l : List ℕ). take b xs ++ l) (sym (no_zeros (n - b) (omega arith)))
    ]
