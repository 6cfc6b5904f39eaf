-- The keys and numbers around a subtree in another's place.
use Rattle.std.proofs.Common.{◌≡◌, ℕ, ◌+◌, ◌≤◌, List, [], ◌∷◌, ◌++◌, Some, sym, ap, ◌∙◌, arith}
use Rattle.std.proofs.lemmas.List.{append-nil, append_assoc}
use Rattle.index_model.specs.declared.key.Key.{Key}
use Rattle.index_model.specs.Trees.{Tree, Leaf, Down, Entry, DownEntry, walk, held, levels}
use Rattle.index_plan.specs.Paths.{steps, Path, Here, Below, Behind, subtree, graft}
use Rattle.index_plan.proofs.Growing.{some_is}

abbrev pub Around : Path → Tree → Tree → Type 0
Around p t s = (before : List Key) × (behind : List Key) × (walk t ≡ before ++ walk s ++ behind) × ((new : Tree) → walk (graft p new t) ≡ before ++ walk new ++ behind)

fronted_by : (front before mid behind rest : List Key) → rest ≡ before ++ mid ++ behind → front ++ rest ≡ (front ++ before) ++ mid ++ behind
fronted_by front before mid behind rest e = ap (λ (l : List Key). front ++ l) e ∙ sym (append_assoc front (before ++ mid) behind) ∙ ap (λ (l : List Key). l ++ behind) (sym (append_assoc front before mid))

backed : (before mid behind first back : List Key) → first ≡ before ++ mid ++ behind → first ++ back ≡ before ++ mid ++ (behind ++ back)
backed before mid behind first back e = ap (λ (l : List Key). l ++ back) e ∙ append_assoc (before ++ mid) behind back

pub grafts : (p : Path) (t s : Tree) → subtree p t ≡ Some s → Around p t s
grafts Here t s e = ([], [], sym (append-nil (walk s) ∙ sym (ap walk (some_is t s e))), λ new. sym (append-nil (walk new)))
grafts (Below p) Leaf s e = absurd cc
grafts (Below p) (Down v t) s e = grafts p t s e
grafts (Below p) (Entry key rest) s e = absurd cc
grafts (Below p) (DownEntry v t key rest) s e =
    let a = grafts p t s e in
    (a.0, a.1 ++ key ∷ walk rest, backed a.0 (walk s) a.1 (walk t) (key ∷ walk rest) a.2, λ new. backed a.0 (walk new) a.1 (walk (graft p new t)) (key ∷ walk rest) (a.3 new))
grafts (Behind p) Leaf s e = absurd cc
grafts (Behind p) (Down v t) s e = absurd cc
grafts (Behind p) (Entry key rest) s e =
    let a = grafts p rest s e in
    (key ∷ a.0, a.1, fronted_by (key ∷ []) a.0 (walk s) a.1 (walk rest) a.2, λ new. fronted_by (key ∷ []) a.0 (walk new) a.1 (walk (graft p new rest)) (a.3 new))
grafts (Behind p) (DownEntry v t key rest) s e =
    let a = grafts p rest s e in
    ((walk t ++ key ∷ []) ++ a.0, a.1, one a.0 (walk s) a.1 (walk rest) a.2, λ new. one a.0 (walk new) a.1 (walk (graft p new rest)) (a.3 new))
  where
    one : (before mid behind l : List Key) → l ≡ before ++ mid ++ behind → walk t ++ key ∷ l ≡ ((walk t ++ key ∷ []) ++ before) ++ mid ++ behind
    one before mid behind l is = sym (append_assoc (walk t) (key ∷ []) l) ∙ fronted_by (walk t ++ key ∷ []) before mid behind l is

-- each number is used as often as the parts say
pub graft_held : (x : ℕ) (p : Path) (t s new : Tree) → subtree p t ≡ Some s → held x (graft p new t) + held x s ≡ held x t + held x new
graft_held x Here t s new e = let same_tree : held x t ≡ held x s = ap (held x) (some_is t s e) in omega arith
graft_held x (Below p) Leaf s new e = absurd cc
graft_held x (Below p) (Down v t) s new e = let b = graft_held x p t s new e in omega arith
graft_held x (Below p) (Entry key rest) s new e = absurd cc
graft_held x (Below p) (DownEntry v t key rest) s new e = let b = graft_held x p t s new e in omega arith
graft_held x (Behind p) Leaf s new e = absurd cc
graft_held x (Behind p) (Down v t) s new e = absurd cc
graft_held x (Behind p) (Entry key rest) s new e = graft_held x p rest s new e
graft_held x (Behind p) (DownEntry v t key rest) s new e = let b = graft_held x p rest s new e in omega arith

-- a part that is no higher makes no tree higher
pub graft_levels : (p : Path) (t s new : Tree) → subtree p t ≡ Some s → levels new ≤ levels s → levels (graft p new t) ≤ levels t
graft_levels Here t s new e le = let same_tree : levels t ≡ levels s = ap levels (some_is t s e) in omega arith
graft_levels (Below p) Leaf s new e le = absurd cc
graft_levels (Below p) (Down v t) s new e le = let b = graft_levels p t s new e le in omega arith
graft_levels (Below p) (Entry key rest) s new e le = absurd cc
graft_levels (Below p) (DownEntry v t key rest) s new e le = let b = graft_levels p t s new e le in omega arith
graft_levels (Behind p) Leaf s new e le = absurd cc
graft_levels (Behind p) (Down v t) s new e le = absurd cc
graft_levels (Behind p) (Entry key rest) s new e le = graft_levels p rest s new e le
graft_levels (Behind p) (DownEntry v t key rest) s new e le = let b = graft_levels p rest s new e le in omega arith

-- a path goes down fewer nodes than the tree has levels
pub steps_levels : (p : Path) (t s : Tree) → subtree p t ≡ Some s → steps p + levels s ≤ levels t
steps_levels Here t s e = let same_tree : levels t ≡ levels s = ap levels (some_is t s e) in omega arith
steps_levels (Below p) Leaf s e = absurd cc
steps_levels (Below p) (Down v t) s e = let b = steps_levels p t s e in omega arith
steps_levels (Below p) (Entry key rest) s e = absurd cc
steps_levels (Below p) (DownEntry v t key rest) s e = let b = steps_levels p t s e in omega arith
steps_levels (Behind p) Leaf s e = absurd cc
steps_levels (Behind p) (Down v t) s e = absurd cc
steps_levels (Behind p) (Entry key rest) s e = steps_levels p rest s e
steps_levels (Behind p) (DownEntry v t key rest) s e = let b = steps_levels p rest s e in omega arith
