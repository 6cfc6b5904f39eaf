-- Counts of VCNs.
use Rattle.std.proofs.Common.{◌≡◌, ℕ, zero, suc, ◌+◌, ◌≤◌, List, [], ◌∷◌, ◌++◌, take, refl, ap, arith}
use Rattle.std.specs.Prelude.{reverse}
use Rattle.std.proofs.lemmas.List.{reverse-append}
use Rattle.index_tree.specs.index_model.Trees.{Tree, times}
use Rattle.index_plan.specs.Laws.{Once}

pub times-both : (x : ℕ) (xs ys : List ℕ) → times x (xs ++ ys) ≡ times x xs + times x ys
times-both x [] ys = omega arith
times-both x (y ∷ xs) ys = omega (arith, times-both x xs ys)

pub times-back : (x : ℕ) (xs : List ℕ) → times x (reverse xs) ≡ times x xs
times-back x [] = refl
times-back x (y ∷ xs) = omega (arith, ap (times x) (reverse-append (y ∷ []) xs), times-both x (reverse xs) (y ∷ []), times-back x xs)

pub times-take : (x n : ℕ) (xs : List ℕ) → times x (take n xs) ≤ times x xs
times-take x zero xs = omega arith
times-take x (suc n) [] = omega arith
times-take x (suc n) (y ∷ xs) = omega (arith, times-take x n xs)

pub once_fewer : (t : Tree) (n : ℕ) (fresh : List ℕ) → Once t fresh → Once t (take n fresh)
once_fewer t n fresh once x = omega (arith, once x, times-take x n fresh)
