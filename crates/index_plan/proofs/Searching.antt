-- The place of a new key.
use Rattle.std.proofs.Common.{◌≡◌, Bool, true, false, List, [], ◌∷◌, ◌++◌, Some, refl, sym, ap, ◌∙◌, if◌then◌else◌}
use Rattle.index_model.specs.declared.key.Key.{Key}
use Rattle.index_model.specs.Trees.{Tree, Leaf, Down, Entry, DownEntry, walk}
use Rattle.index_plan.specs.Paths.{Path, Here, Below, Behind, subtree, graft}
use Rattle.index_plan.specs.Search.{path_to, put, GoesAll, Rises}

all_goes : (goes : Key → Bool) (xs ys : List Key) (k : Key) → GoesAll goes (xs ++ k ∷ ys) → goes k ≡ true
all_goes goes [] ys k a = a.0
all_goes goes (x ∷ xs) ys k a = all_goes goes xs ys k a.1

rises_left : (goes : Key → Bool) (xs ys : List Key) → Rises goes (xs ++ ys) → Rises goes xs
rises_left goes [] ys r = tt
rises_left goes (x ∷ xs) ys r = (λ e. left xs (r.0 e), rises_left goes xs ys r.1)
  where
    left : (zs : List Key) → GoesAll goes (zs ++ ys) → GoesAll goes zs
    left [] a = tt
    left (z ∷ zs) a = (a.0, left zs a.1)

rises_right : (goes : Key → Bool) (xs ys : List Key) → Rises goes (xs ++ ys) → Rises goes ys
rises_right goes [] ys r = r
rises_right goes (x ∷ xs) ys r = rises_right goes xs ys r.1

by_test : (b : Bool) (new x : Key) (xs rest : List Key) → b ≡ true → (if b then new ∷ x ∷ xs else rest) ≡ new ∷ x ∷ xs
by_test true new x xs rest e = refl
by_test false new x xs rest e = absurd cc

by_other : (b : Bool) (here rest : List Key) → b ≡ false → (if b then here else rest) ≡ rest
by_other true here rest e = absurd cc
by_other false here rest e = refl

-- before a key that the new one goes before
put_left : (goes : Key → Bool) (new k : Key) (xs ys : List Key) → goes k ≡ true → put goes new (xs ++ k ∷ ys) ≡ put goes new xs ++ k ∷ ys
put_left goes new k [] ys e = by_test (goes k) new k ys (k ∷ put goes new ys) e
put_left goes new k (x ∷ xs) ys e = at (goes x) (put_left goes new k xs ys e)
  where
    at : (b : Bool) → put goes new (xs ++ k ∷ ys) ≡ put goes new xs ++ k ∷ ys → (if b then new ∷ x ∷ (xs ++ k ∷ ys) else x ∷ put goes new (xs ++ k ∷ ys)) ≡ (if b then new ∷ x ∷ xs else x ∷ put goes new xs) ++ k ∷ ys
    at true rec = refl
    at false rec = ap (λ (l : List Key). x ∷ l) rec

-- behind a key that it goes behind
put_right : (goes : Key → Bool) (new k : Key) (xs ys : List Key) → Rises goes (xs ++ k ∷ ys) → goes k ≡ false → put goes new (xs ++ k ∷ ys) ≡ xs ++ k ∷ put goes new ys
put_right goes new k [] ys r e = by_other (goes k) (new ∷ k ∷ ys) (k ∷ put goes new ys) e
put_right goes new k (x ∷ xs) ys r e = at (goes x) refl (put_right goes new k xs ys r.1 e)
  where
    at : (b : Bool) → goes x ≡ b → put goes new (xs ++ k ∷ ys) ≡ xs ++ k ∷ put goes new ys → (if b then new ∷ x ∷ (xs ++ k ∷ ys) else x ∷ put goes new (xs ++ k ∷ ys)) ≡ x ∷ (xs ++ k ∷ put goes new ys)
    at true is rec = let bad : goes k ≡ true = all_goes goes xs ys k (r.0 is) in absurd cc
    at false is rec = ap (λ (l : List Key). x ∷ l) rec

-- the way leads to a place, and an entry put there is put into the list
abbrev pub Placed : (Key → Bool) → Key → Tree → Path → Type 0
Placed goes new t p = (s : Tree) × (subtree p t ≡ Some s) × (walk (graft p (Entry new s) t) ≡ put goes new (walk t))

pub placed : (goes : Key → Bool) (new : Key) (t : Tree) → Rises goes (walk t) → Placed goes new t (path_to goes t)
placed goes new Leaf r = (Leaf, refl, refl)
placed goes new (Down v t) r = placed goes new t r
placed goes new (Entry key rest) r = at (goes key) refl (placed goes new rest r.1)
  where
    at : (b : Bool) → goes key ≡ b → Placed goes new rest (path_to goes rest) → Placed goes new (Entry key rest) (if b then Here else Behind (path_to goes rest))
    at true is rec = (Entry key rest, refl, sym (by_test (goes key) new key (walk rest) (key ∷ put goes new (walk rest)) is))
    at false is rec = (rec.0, rec.1, ap (λ (l : List Key). key ∷ l) rec.2 ∙ sym (by_other (goes key) (new ∷ key ∷ walk rest) (key ∷ put goes new (walk rest)) is))
placed goes new (DownEntry v t key rest) r = at (goes key) refl (placed goes new t (rises_left goes (walk t) (key ∷ walk rest) r)) (placed goes new rest (rises_right goes (walk t) (key ∷ walk rest) r).1)
  where
    at : (b : Bool) → goes key ≡ b → Placed goes new t (path_to goes t) → Placed goes new rest (path_to goes rest) → Placed goes new (DownEntry v t key rest) (if b then Below (path_to goes t) else Behind (path_to goes rest))
    at true is below behind = (below.0, below.1, ap (λ (l : List Key). l ++ key ∷ walk rest) below.2 ∙ sym (put_left goes new key (walk t) (walk rest) is))
    at false is below behind = (behind.0, behind.1, ap (λ (l : List Key). walk t ++ key ∷ l) behind.2 ∙ sym (put_right goes new key (walk t) (walk rest) r is))
