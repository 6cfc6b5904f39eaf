-- Each written node is one of the tree, and is written once.
use Rattle.std.proofs.Common.{◌≡◌, ℕ, ◌+◌, ◌≤◌, Bool, true, false, List, [], ◌∷◌, Option, Some, None, refl, arith}
use Rattle.index_model.specs.Trees.{Tree, Leaf, Down, Entry, DownEntry, held, times, raws_of}
use Rattle.index_plan.specs.Paths.{written_vcns, Path, Here, Below, Behind}
use Rattle.index_plan.specs.Growth.{Cut, cut, Hook, Last, Inner, Grown, parted, across_by, across, regrown, fits, middle}
use Rattle.index_plan.specs.Removal.{settled}
use Rattle.index_plan.proofs.Growing.{hang_held, cut_held}

abbrev pub Placed : Grown → Type 0
Placed g = (x : ℕ) → times x (written_vcns g.writes) ≤ held x g.tree

parted_placed : (h : Hook) (g : Grown) (fresh : List ℕ) (o : Option Cut) → ((c : Cut) → o ≡ Some c → (x : ℕ) → held x g.tree ≡ held x c.left + held x c.right) → Placed g → Placed (parted h g fresh o)
parted_placed h g [] o is p = λ x. let q = p x in let a = hang_held x h g.tree in omega arith
parted_placed h g (f ∷ fresh) None is p = λ x. let q = p x in let a = hang_held x h g.tree in omega arith
parted_placed h g (f ∷ fresh) (Some c) is p = λ x. let q = p x in let a = hang_held x h c.right in let parts = is c refl x in omega arith

across_placed : (h : Hook) (g : Grown) → Placed g → Placed (across h g)
across_placed h g p = at g.changed (fits (raws_of g.tree))
  where
    at : (changed fit : Bool) → Placed (across_by changed fit h g)
    at false fit = λ x. let q = p x in let a = hang_held x h g.tree in omega arith
    at true true = λ x. let q = p x in let a = hang_held x h g.tree in omega arith
    at true false = parted_placed h g g.fresh (cut (middle (raws_of g.tree)) g.tree) (λ c is x. cut_held x (middle (raws_of g.tree)) g.tree c is) p

pub settled_placed : (h : Hook) (g : Grown) → Placed g → Placed (settled h g)
settled_placed h g p = at g.changed
  where
    at : (changed : Bool) → Placed (across_by changed true h g)
    at false = λ x. let q = p x in let a = hang_held x h g.tree in omega arith
    at true = λ x. let q = p x in let a = hang_held x h g.tree in omega arith

pub regrown_placed : (p : Path) (start : Grown) (t : Tree) → Placed start → Placed (regrown p start t)
regrown_placed Here start t s = s
regrown_placed (Below p) start Leaf s = λ x. omega arith
regrown_placed (Below p) start (Down v t) s = across_placed (Last v) (regrown p start t) (regrown_placed p start t s)
regrown_placed (Below p) start (Entry key rest) s = λ x. omega arith
regrown_placed (Below p) start (DownEntry v t key rest) s = across_placed (Inner v key rest) (regrown p start t) (regrown_placed p start t s)
regrown_placed (Behind p) start Leaf s = λ x. omega arith
regrown_placed (Behind p) start (Down v t) s = λ x. omega arith
regrown_placed (Behind p) start (Entry key rest) s = regrown_placed p start rest s
regrown_placed (Behind p) start (DownEntry v t key rest) s = λ x. let q = regrown_placed p start rest s x in omega arith
