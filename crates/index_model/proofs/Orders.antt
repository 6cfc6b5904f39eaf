-- Links in the order of names.
use Rattle.std.proofs.Common.{◌≡◌, ℕ, true, List, [], ◌∷◌, ◌++◌, refl}
use Rattle.std.proofs.lemmas.Bool.{and_parts, and_from}
use Rattle.state_model.specs.file_tree.declared.link.Link.{Link}
use Rattle.index_model.specs.Indexes.{precedes, rises}
use Rattle.index_model.specs.Walks.{final, follows}

pub rises_front : (upper : List ℕ) (xs ys : List Link) → rises upper (xs ++ ys) ≡ true → rises upper xs ≡ true
rises_front upper [] ys h = refl
rises_front upper (l ∷ []) ys h = refl
rises_front upper (l ∷ k ∷ xs) ys h =
    let p = and_parts (precedes upper l k) (rises upper (k ∷ xs ++ ys)) h in
    and_from (precedes upper l k) (rises upper (k ∷ xs)) p.0 (rises_front upper (k ∷ xs) ys p.1)

-- what stands behind a list follows it
pub rises_next : (upper : List ℕ) (xs : List Link) (l : Link) (ys : List Link) → rises upper (xs ++ l ∷ ys) ≡ true → follows upper (final xs) l ≡ true
rises_next upper [] l ys h = refl
rises_next upper (k ∷ []) l ys h = (and_parts (precedes upper k l) (rises upper (l ∷ ys)) h).0
rises_next upper (k ∷ j ∷ xs) l ys h = rises_next upper (j ∷ xs) l ys (and_parts (precedes upper k j) (rises upper (j ∷ xs ++ l ∷ ys)) h).1

pub rises_more : (upper : List ℕ) (xs : List Link) (l : Link) → rises upper xs ≡ true → follows upper (final xs) l ≡ true → rises upper (xs ++ l ∷ []) ≡ true
rises_more upper [] l h f = refl
rises_more upper (k ∷ []) l h f = and_from (precedes upper k l) true f refl
rises_more upper (k ∷ j ∷ xs) l h f =
    let p = and_parts (precedes upper k j) (rises upper (j ∷ xs)) h in
    and_from (precedes upper k j) (rises upper (j ∷ xs ++ l ∷ [])) p.0 (rises_more upper (j ∷ xs) l p.1 f)
