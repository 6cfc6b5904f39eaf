-- How many blocks an index has, by the numbers of its nodes.
use Rattle.std.proofs.Common.{◌≡◌, ℕ, suc, ◌+◌, ◌<◌, inl, inr, List, [], ◌∷◌, ◌++◌, length, refl, sym, ap, arith, length-append}
use Rattle.std.proofs.lemmas.Bool.{cases_eq}
use Rattle.plan_model.specs.index_model.Trees.{Tree, Leaf, Down, Entry, DownEntry, held, times, same}
use Rattle.plan_model.proofs.index_model.Marks.{same_not}
use Rattle.plan_model.proofs.index_plan.Standing.{same_self}
use Rattle.step_model.specs.Spreads.{blocks_in}
use Rattle.node_spreads.specs.Nodes.{BlocksAreCounted}

-- the numbers of an index's blocks
vcns_in : Tree → List ℕ
vcns_in Leaf = []
vcns_in (Down v t) = v ∷ vcns_in t
vcns_in (Entry key rest) = vcns_in rest
vcns_in (DownEntry v t key rest) = v ∷ (vcns_in t ++ vcns_in rest)

times_both : (x : ℕ) (xs ys : List ℕ) → times x (xs ++ ys) ≡ times x xs + times x ys
times_both x [] ys = omega arith
times_both x (y ∷ xs) ys = omega (arith, times_both x xs ys)

as_held : (x : ℕ) (t : Tree) → times x (vcns_in t) ≡ held x t
unfolding vcns_in
as_held x Leaf = refl
as_held x (Down v t) = ap (λ n. same x v + n) (as_held x t)
as_held x (Entry key rest) = as_held x rest
as_held x (DownEntry v t key rest) = omega (arith, times_both x (vcns_in t) (vcns_in rest), as_held x t, as_held x rest)

as_many : (t : Tree) → length (vcns_in t) ≡ blocks_in t
unfolding vcns_in
as_many Leaf = refl
as_many (Down v t) = omega (arith, as_many t)
as_many (Entry key rest) = as_many rest
as_many (DownEntry v t key rest) = omega (arith, length-append (vcns_in t) (vcns_in rest), as_many t, as_many rest)

-- a list without one place of a number that it has
record IsOut (x : ℕ) (ys left : List ℕ) : Type 0 where
  fewer : length ys ≡ suc (length left)
  others : (z : ℕ) → times z ys ≡ same z x + times z left

out_of : (x : ℕ) (ys : List ℕ) → 0 < times x ys → (left : List ℕ) × IsOut x ys left
out_of x [] some = absurd (omega arith)
out_of x (y ∷ ys) some = elim (cases_eq x y) [
  | inl here ↦ (ys, record { fewer = refl; others = λ z. ap (λ n. same z n + times z ys) (sym here) })
  | inr other ↦
      (let none = same_not x y other in
      let out = out_of x ys (omega (arith, none, some)) in
      (y ∷ out.0, record { fewer = ap suc out.1.fewer; others = λ z. omega (arith, out.1.others z) }))
]

-- lists that have each number as often are as long
same_length : (xs ys : List ℕ) → ((z : ℕ) → times z xs ≡ times z ys) → length xs ≡ length ys
same_length [] [] equal = refl
same_length [] (y ∷ ys) equal = absurd (omega (arith, equal y, same_self y))
same_length (x ∷ xs) ys equal =
    let out = out_of x ys (omega (arith, equal x, same_self x)) in
    omega (arith, out.1.fewer, same_length xs out.0 (λ z. omega (arith, equal z, out.1.others z)))

pub blocks_counted : BlocksAreCounted
blocks_counted s t freed taken numbers =
    let equal = same_length (vcns_in s ++ freed) (vcns_in t ++ taken) (λ z. omega (arith, times_both z (vcns_in s) freed, times_both z (vcns_in t) taken, as_held z s, as_held z t, numbers z)) in
    omega (arith, equal, length-append (vcns_in s) freed, length-append (vcns_in t) taken, as_many s, as_many t)
