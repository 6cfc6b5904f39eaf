-- Growth changes no walk and repeats no number.
use Rattle.std.proofs.Common.{◌≡◌, ℕ, zero, suc, ◌+◌, ◌*◌, ◌≤◌, Bool, true, false, List, [], ◌∷◌, ◌++◌, Option, Some, None, refl, sym, ap, ◌∙◌, subst, arith, length, max}
use Rattle.std.proofs.lemmas.List.{append-nil, append_assoc}
use Rattle.index_model.specs.declared.key.Key.{Key}
use Rattle.index_model.specs.Trees.{Tree, Leaf, Down, Entry, DownEntry, walk, held, times, same, levels, raws_of}
use Rattle.index_plan.specs.Paths.{steps, Path, Here, Below, Behind, graft}
use Rattle.index_plan.specs.Growth.{Cut, cut, behind_front, Hook, Last, Inner, hang, vcn_of, Grown, parted, across_by, across, regrown, fits, middle}

pub some_is : {A : Type 0} (x y : A) → ◌≡◌ {A = Option A} (Some x) (Some y) → x ≡ y
some_is x y e = cc

abbrev pub front_cut : (Tree → Tree) → Cut → Cut
front_cut front d = record { left = front d.left; key = d.key; right = d.right }

pub behind_some : (front : Tree → Tree) (o : Option Cut) (c : Cut) → behind_front front o ≡ Some c → (d : Cut) × (o ≡ Some d) × (front_cut front d ≡ c)
behind_some front None c e = absurd cc
behind_some front (Some d) c e = (d, refl, some_is _ _ e)

-- ---- walks

pub cut_walk : (i : ℕ) (t : Tree) (c : Cut) → cut i t ≡ Some c → walk t ≡ walk c.left ++ c.key ∷ walk c.right
cut_walk i Leaf c e = absurd cc
cut_walk i (Down v t) c e = absurd cc
cut_walk zero (Entry key rest) c e = subst (λ (d : Cut). key ∷ walk rest ≡ walk d.left ++ d.key ∷ walk d.right) (some_is _ _ e) refl
cut_walk zero (DownEntry v t key rest) c e = subst (λ (d : Cut). walk t ++ key ∷ walk rest ≡ walk d.left ++ d.key ∷ walk d.right) (some_is _ _ e) refl
cut_walk (suc i) (Entry key rest) c e =
    let b = behind_some (λ r. Entry key r) (cut i rest) c e in
    let below : walk rest ≡ walk b.0.left ++ b.0.key ∷ walk b.0.right = cut_walk i rest b.0 b.1 in
    subst (λ (x : Cut). key ∷ walk rest ≡ walk x.left ++ x.key ∷ walk x.right) b.2 (ap (λ (l : List Key). key ∷ l) below)
cut_walk (suc i) (DownEntry v t key rest) c e =
    let b = behind_some (λ r. DownEntry v t key r) (cut i rest) c e in
    let below : walk rest ≡ walk b.0.left ++ b.0.key ∷ walk b.0.right = cut_walk i rest b.0 b.1 in
    subst (λ (x : Cut). walk t ++ key ∷ walk rest ≡ walk x.left ++ x.key ∷ walk x.right) b.2 (ap (λ (l : List Key). walk t ++ key ∷ l) below ∙ sym (append_assoc (walk t) (key ∷ walk b.0.left) (b.0.key ∷ walk b.0.right)))

abbrev pub tail : Hook → List Key
tail (Last v) = []
tail (Inner v key rest) = key ∷ walk rest

hang_walk : (h : Hook) (t : Tree) → walk (hang h t) ≡ walk t ++ tail h
hang_walk (Last v) t = sym (append-nil (walk t))
hang_walk (Inner v key rest) t = refl

parted_walk : (h : Hook) (g : Grown) (fresh : List ℕ) (o : Option Cut) → ((c : Cut) → o ≡ Some c → walk g.tree ≡ walk c.left ++ c.key ∷ walk c.right) → walk (parted h g fresh o).tree ≡ walk (hang h g.tree)
parted_walk h g [] o is = refl
parted_walk h g (f ∷ fresh) None is = refl
parted_walk h g (f ∷ fresh) (Some c) is =
    ap (λ (l : List Key). walk c.left ++ c.key ∷ l) (hang_walk h c.right)
    ∙ sym (append_assoc (walk c.left) (c.key ∷ walk c.right) (tail h))
    ∙ ap (λ (l : List Key). l ++ tail h) (sym (is c refl))
    ∙ sym (hang_walk h g.tree)

across_walk : (h : Hook) (g : Grown) → walk (across h g).tree ≡ walk (hang h g.tree)
across_walk h g = at g.changed (fits (raws_of g.tree))
  where
    at : (changed fit : Bool) → walk (across_by changed fit h g).tree ≡ walk (hang h g.tree)
    at false fit = refl
    at true true = refl
    at true false = parted_walk h g g.fresh (cut (middle (raws_of g.tree)) g.tree) (λ c is. cut_walk (middle (raws_of g.tree)) g.tree c is)

hang_same : (h : Hook) (s t : Tree) → walk s ≡ walk t → walk (hang h s) ≡ walk (hang h t)
hang_same h s t e = hang_walk h s ∙ ap (λ (l : List Key). l ++ tail h) e ∙ sym (hang_walk h t)

pub regrown_walk : (p : Path) (start : Grown) (t : Tree) → walk (regrown p start t).tree ≡ walk (graft p start.tree t)
regrown_walk Here start t = refl
regrown_walk (Below p) start Leaf = refl
regrown_walk (Below p) start (Down v t) = across_walk (Last v) (regrown p start t) ∙ regrown_walk p start t
regrown_walk (Below p) start (Entry key rest) = refl
regrown_walk (Below p) start (DownEntry v t key rest) = across_walk (Inner v key rest) (regrown p start t) ∙ hang_same (Inner v key rest) (regrown p start t).tree (graft p start.tree t) (regrown_walk p start t)
regrown_walk (Behind p) start Leaf = refl
regrown_walk (Behind p) start (Down v t) = refl
regrown_walk (Behind p) start (Entry key rest) = ap (λ (l : List Key). key ∷ l) (regrown_walk p start rest)
regrown_walk (Behind p) start (DownEntry v t key rest) = ap (λ (l : List Key). walk t ++ key ∷ l) (regrown_walk p start rest)

-- ---- numbers

pub cut_held : (x i : ℕ) (t : Tree) (c : Cut) → cut i t ≡ Some c → held x t ≡ held x c.left + held x c.right
cut_held x i Leaf c e = absurd cc
cut_held x i (Down v t) c e = absurd cc
cut_held x zero (Entry key rest) c e = subst (λ (d : Cut). held x rest ≡ held x d.left + held x d.right) (some_is _ _ e) (omega arith)
cut_held x zero (DownEntry v t key rest) c e = subst (λ (d : Cut). same x v + held x t + held x rest ≡ held x d.left + held x d.right) (some_is _ _ e) refl
cut_held x (suc i) (Entry key rest) c e =
    let b = behind_some (λ r. Entry key r) (cut i rest) c e in
    let below : held x rest ≡ held x b.0.left + held x b.0.right = cut_held x i rest b.0 b.1 in
    subst (λ (y : Cut). held x rest ≡ held x y.left + held x y.right) b.2 below
cut_held x (suc i) (DownEntry v t key rest) c e =
    let b = behind_some (λ r. DownEntry v t key r) (cut i rest) c e in
    let below : held x rest ≡ held x b.0.left + held x b.0.right = cut_held x i rest b.0 b.1 in
    subst (λ (y : Cut). same x v + held x t + held x rest ≡ held x y.left + held x y.right) b.2 (omega arith)

-- how often x stands beside a hook
abbrev pub beside : ℕ → Hook → ℕ
beside x (Last v) = 0
beside x (Inner v key rest) = held x rest

pub hang_held : (x : ℕ) (h : Hook) (t : Tree) → held x (hang h t) ≡ same x (vcn_of h) + held x t + beside x h
hang_held x (Last v) t = omega arith
hang_held x (Inner v key rest) t = refl

parted_held : (x : ℕ) (h : Hook) (g : Grown) (fresh : List ℕ) (o : Option Cut) → fresh ≡ g.fresh → ((c : Cut) → o ≡ Some c → held x g.tree ≡ held x c.left + held x c.right) → held x (parted h g fresh o).tree + times x (parted h g fresh o).fresh ≡ held x (hang h g.tree) + times x g.fresh
parted_held x h g [] o same_fresh is = refl
parted_held x h g (f ∷ fresh) None same_fresh is = refl
parted_held x h g (f ∷ fresh) (Some c) same_fresh is =
    let parts : held x g.tree ≡ held x c.left + held x c.right = is c refl in
    let one : held x (hang h c.right) ≡ same x (vcn_of h) + held x c.right + beside x h = hang_held x h c.right in
    let all : held x (hang h g.tree) ≡ same x (vcn_of h) + held x g.tree + beside x h = hang_held x h g.tree in
    let left : same x f + times x fresh ≡ times x g.fresh = ap (λ (l : List ℕ). times x l) same_fresh in
    omega arith

pub across_held : (x : ℕ) (h : Hook) (g : Grown) → held x (across h g).tree + times x (across h g).fresh ≡ held x (hang h g.tree) + times x g.fresh
across_held x h g = at g.changed (fits (raws_of g.tree))
  where
    at : (changed fit : Bool) → held x (across_by changed fit h g).tree + times x (across_by changed fit h g).fresh ≡ held x (hang h g.tree) + times x g.fresh
    at false fit = refl
    at true true = refl
    at true false = parted_held x h g g.fresh (cut (middle (raws_of g.tree)) g.tree) refl (λ c is. cut_held x (middle (raws_of g.tree)) g.tree c is)

pub regrown_held : (p : Path) (start : Grown) (t : Tree) (x : ℕ) → held x (regrown p start t).tree + times x (regrown p start t).fresh ≡ held x (graft p start.tree t) + times x start.fresh
regrown_held Here start t x = refl
regrown_held (Below p) start Leaf x = refl
regrown_held (Below p) start (Down v t) x =
    let top = across_held x (Last v) (regrown p start t) in
    let below = regrown_held p start t x in
    omega arith
regrown_held (Below p) start (Entry key rest) x = refl
regrown_held (Below p) start (DownEntry v t key rest) x =
    let top = across_held x (Inner v key rest) (regrown p start t) in
    let below = regrown_held p start t x in
    omega arith
regrown_held (Behind p) start Leaf x = refl
regrown_held (Behind p) start (Down v t) x = refl
regrown_held (Behind p) start (Entry key rest) x = regrown_held p start rest x
regrown_held (Behind p) start (DownEntry v t key rest) x =
    let below = regrown_held p start rest x in
    omega arith

-- ---- levels

pub level_one : (t : Tree) → 1 ≤ levels t
level_one Leaf = omega arith
level_one (Down v t) = omega arith
level_one (Entry key rest) = level_one rest
level_one (DownEntry v t key rest) = let r = level_one rest in omega arith

pub cut_levels : (i : ℕ) (t : Tree) (c : Cut) → cut i t ≡ Some c → (levels c.left ≤ levels t) × (levels c.right ≤ levels t)
cut_levels i Leaf c e = absurd cc
cut_levels i (Down v t) c e = absurd cc
cut_levels zero (Entry key rest) c e = let one = level_one rest in subst (λ (d : Cut). (levels d.left ≤ levels rest) × (levels d.right ≤ levels rest)) (some_is _ _ e) (omega arith, omega arith)
cut_levels zero (DownEntry v t key rest) c e = subst (λ (d : Cut). (levels d.left ≤ max (1 + levels t) (levels rest)) × (levels d.right ≤ max (1 + levels t) (levels rest))) (some_is _ _ e) (omega arith, omega arith)
cut_levels (suc i) (Entry key rest) c e =
    let b = behind_some (λ r. Entry key r) (cut i rest) c e in
    let below = cut_levels i rest b.0 b.1 in
    subst (λ (d : Cut). (levels d.left ≤ levels rest) × (levels d.right ≤ levels rest)) b.2 (omega arith, omega arith)
cut_levels (suc i) (DownEntry v t key rest) c e =
    let b = behind_some (λ r. DownEntry v t key r) (cut i rest) c e in
    let below = cut_levels i rest b.0 b.1 in
    subst (λ (d : Cut). (levels d.left ≤ max (1 + levels t) (levels rest)) × (levels d.right ≤ max (1 + levels t) (levels rest))) b.2 (omega arith, omega arith)

hang_levels : (h : Hook) (s t : Tree) → levels s ≤ levels t → (levels (hang h s) ≤ levels (hang h t)) × (1 + levels s ≤ levels (hang h t))
hang_levels (Last v) s t le = (omega arith, omega arith)
hang_levels (Inner v key rest) s t le = (omega arith, omega arith)

parted_levels : (h : Hook) (g : Grown) (fresh : List ℕ) (o : Option Cut) → ((c : Cut) → o ≡ Some c → (levels c.left ≤ levels g.tree) × (levels c.right ≤ levels g.tree)) → levels (parted h g fresh o).tree ≤ levels (hang h g.tree)
parted_levels h g [] o is = omega arith
parted_levels h g (f ∷ fresh) None is = omega arith
parted_levels h g (f ∷ fresh) (Some c) is =
    let parts = is c refl in
    let left = hang_levels h c.left g.tree parts.0 in
    let right = hang_levels h c.right g.tree parts.1 in
    omega arith

across_levels : (h : Hook) (g : Grown) → levels (across h g).tree ≤ levels (hang h g.tree)
across_levels h g = at g.changed (fits (raws_of g.tree))
  where
    at : (changed fit : Bool) → levels (across_by changed fit h g).tree ≤ levels (hang h g.tree)
    at false fit = omega arith
    at true true = omega arith
    at true false = parted_levels h g g.fresh (cut (middle (raws_of g.tree)) g.tree) (λ c is. cut_levels (middle (raws_of g.tree)) g.tree c is)

pub regrown_levels : (p : Path) (start : Grown) (t : Tree) → levels (regrown p start t).tree ≤ levels (graft p start.tree t)
regrown_levels Here start t = omega arith
regrown_levels (Below p) start Leaf = omega arith
regrown_levels (Below p) start (Down v t) =
    let top = across_levels (Last v) (regrown p start t) in
    let below = regrown_levels p start t in
    omega arith
regrown_levels (Below p) start (Entry key rest) = omega arith
regrown_levels (Below p) start (DownEntry v t key rest) =
    let top = across_levels (Inner v key rest) (regrown p start t) in
    let below = regrown_levels p start t in
    omega arith
regrown_levels (Behind p) start Leaf = omega arith
regrown_levels (Behind p) start (Down v t) = omega arith
regrown_levels (Behind p) start (Entry key rest) = regrown_levels p start rest
regrown_levels (Behind p) start (DownEntry v t key rest) =
    let below = regrown_levels p start rest in
    omega arith

-- ---- how many nodes are written, and how many of them are fresh

parted_count : (h : Hook) (g : Grown) (fresh : List ℕ) (o : Option Cut) → fresh ≡ g.fresh → (length (parted h g fresh o).writes ≤ length g.writes + 2) × (length g.fresh ≤ length (parted h g fresh o).fresh + 1)
parted_count h g [] o e = (omega arith, omega arith)
parted_count h g (f ∷ fresh) None e = (omega arith, omega arith)
parted_count h g (f ∷ fresh) (Some c) e = let l : length (f ∷ fresh) ≡ length g.fresh = ap (λ (x : List ℕ). length x) e in (omega arith, omega arith)

across_count : (h : Hook) (g : Grown) → (length (across h g).writes ≤ length g.writes + 2) × (length g.fresh ≤ length (across h g).fresh + 1)
across_count h g = at g.changed (fits (raws_of g.tree))
  where
    at : (changed fit : Bool) → (length (across_by changed fit h g).writes ≤ length g.writes + 2) × (length g.fresh ≤ length (across_by changed fit h g).fresh + 1)
    at false fit = (omega arith, omega arith)
    at true true = (omega arith, omega arith)
    at true false = parted_count h g g.fresh (cut (middle (raws_of g.tree)) g.tree) refl

pub regrown_count : (p : Path) (start : Grown) (t : Tree) → (length (regrown p start t).writes ≤ length start.writes + 2 * steps p) × (length start.fresh ≤ length (regrown p start t).fresh + steps p)
regrown_count Here start t = (omega arith, omega arith)
regrown_count (Below p) start Leaf = (omega arith, omega arith)
regrown_count (Below p) start (Down v t) =
    let top = across_count (Last v) (regrown p start t) in
    let below = regrown_count p start t in
    (omega arith, omega arith)
regrown_count (Below p) start (Entry key rest) = (omega arith, omega arith)
regrown_count (Below p) start (DownEntry v t key rest) =
    let top = across_count (Inner v key rest) (regrown p start t) in
    let below = regrown_count p start t in
    (omega arith, omega arith)
regrown_count (Behind p) start Leaf = (omega arith, omega arith)
regrown_count (Behind p) start (Down v t) = (omega arith, omega arith)
regrown_count (Behind p) start (Entry key rest) = regrown_count p start rest
regrown_count (Behind p) start (DownEntry v t key rest) = regrown_count p start rest
