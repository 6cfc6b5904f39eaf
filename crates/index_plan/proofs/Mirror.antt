-- The plan over lists is the grown tree.
use Rattle.std.proofs.Common.{◌≡◌, ℕ, zero, suc, ◌+◌, ◌≤◌, ◌<◌, Bool, true, false, List, [], ◌∷◌, Option, Some, None, refl, sym, ap, ◌∙◌, subst, arith, length, drop, insert, nat_lt, add-one, if◌then◌else◌, ltb-true}
use Rattle.std.proofs.lemmas.Bool.{lt-ltb}
use Rattle.index_model.specs.declared.key.Key.{Key}
use Rattle.record_model.specs.declared.entry.Entry.{Entry as Raw}
use Rattle.index_model.specs.Trees.{Tree, Leaf, Down, Entry, DownEntry, raw, raws_of}
use Rattle.index_plan.specs.Paths.{Path, Here, Below, Behind, subtree}
use Rattle.index_plan.specs.Growth.{Cut, cut, behind_front, Hook, Last, Inner, hang, vcn_of, Grown, rewritten, parted, across_by, across, regrown, fits, middle}
use Rattle.index_plan.specs.Removal.{fresh_start}
use Rattle.index_plan.specs.Plans.{Plan}
use Rattle.index_plan.specs.Lists.{Rise, entry_at, own_key, left_of, written, halved_if, settle, step_by, rise, place, way}
use Rattle.index_plan.proofs.Growing.{some_is, behind_some}
use Rattle.index_plan.proofs.Standing.{hang_raws}

-- ---- cuts

pub record CutLists (i : ℕ) (raws : List Raw) (c : Cut) : Type 0 where
  pub inside : i + 1 < length raws
  pub left : raws_of c.left ≡ left_of i raws
  pub key : c.key ≡ own_key (entry_at i raws)
  pub right : raws_of c.right ≡ drop (suc i) raws

pub raws_some : (t : Tree) → 0 < length (raws_of t)
raws_some Leaf = omega arith
raws_some (Down v t) = omega arith
raws_some (Entry key rest) = omega arith
raws_some (DownEntry v t key rest) = omega arith

cut_lists : (i : ℕ) (t : Tree) (c : Cut) → cut i t ≡ Some c → CutLists i (raws_of t) c
cut_lists i Leaf c e = absurd cc
cut_lists i (Down v t) c e = absurd cc
cut_lists zero (Entry key rest) c e = subst (λ (d : Cut). CutLists 0 (raws_of (Entry key rest)) d) (some_is _ _ e) (record { inside = let s = raws_some rest in omega arith; left = refl; key = refl; right = refl })
cut_lists zero (DownEntry v t key rest) c e = subst (λ (d : Cut). CutLists 0 (raws_of (DownEntry v t key rest)) d) (some_is _ _ e) (record { inside = let s = raws_some rest in omega arith; left = refl; key = refl; right = refl })
cut_lists (suc i) (Entry key rest) c e =
    let b = behind_some (λ r. Entry key r) (cut i rest) c e in
    let below = cut_lists i rest b.0 b.1 in
    subst (λ (d : Cut). CutLists (suc i) (raws_of (Entry key rest)) d) b.2 (record { inside = let s = below.inside in omega arith; left = ap (λ (l : List Raw). raw key None ∷ l) below.left; key = below.key; right = below.right })
cut_lists (suc i) (DownEntry v t key rest) c e =
    let b = behind_some (λ r. DownEntry v t key r) (cut i rest) c e in
    let below = cut_lists i rest b.0 b.1 in
    subst (λ (d : Cut). CutLists (suc i) (raws_of (DownEntry v t key rest)) d) b.2 (record { inside = let s = below.inside in omega arith; left = ap (λ (l : List Raw). raw key (Some v) ∷ l) below.left; key = below.key; right = below.right })

behind_none : (front : Tree → Tree) (o : Option Cut) → behind_front front o ≡ None → o ≡ None
behind_none front None e = refl
behind_none front (Some c) e = absurd cc

cut_none : (i : ℕ) (t : Tree) → cut i t ≡ None → length (raws_of t) ≤ i + 1
cut_none i Leaf e = omega arith
cut_none i (Down v t) e = omega arith
cut_none zero (Entry key rest) e = absurd cc
cut_none zero (DownEntry v t key rest) e = absurd cc
cut_none (suc i) (Entry key rest) e = let b = cut_none i rest (behind_none (λ r. Entry key r) (cut i rest) e) in omega arith
cut_none (suc i) (DownEntry v t key rest) e = let b = cut_none i rest (behind_none (λ r. DownEntry v t key r) (cut i rest) e) in omega arith

-- ---- one node

-- a node's part in the tree and in the lists: what it changed is one entry put into its place
abbrev pub Takes : Bool → List Raw → List Raw → ℕ → Option Raw → Type 0
Takes changed now raws at None = changed ≡ false
Takes changed now raws at (Some e) = (changed ≡ true) × (now ≡ insert raws at e)

pub record Mirrors (g : Grown) (raws : List Raw) (at : ℕ) (r : Rise) : Type 0 where
  pub plan : r.plan ≡ record { writes = g.writes; fresh = g.fresh }
  pub takes : Takes g.changed (raws_of g.tree) raws at r.pending

pub lt_test : (m n : ℕ) → m < n → nat_lt m n ≡ true
lt_test m n h = lt-ltb m n h

pub ge_test : (m n : ℕ) → n ≤ m → nat_lt m n ≡ false
ge_test m n h = at (nat_lt m n) refl
  where
    at : (b : Bool) → nat_lt m n ≡ b → nat_lt m n ≡ false
    at true is = let l : m < n = ltb-true m n is in absurd (omega arith)
    at false is = is

either : (g : Grown) (raws : List Raw) (b : Bool) (x : Rise) → Mirrors g raws 0 x → Mirrors g raws 0 (if b then x else x)
either g raws true x m = m
either g raws false x m = m

if_true : (g : Grown) (raws : List Raw) (b : Bool) (x y : Rise) → b ≡ true → Mirrors g raws 0 x → Mirrors g raws 0 (if b then x else y)
if_true g raws true x y e m = m
if_true g raws false x y e m = absurd cc

if_false : (g : Grown) (raws : List Raw) (b : Bool) (x y : Rise) → b ≡ false → Mirrors g raws 0 y → Mirrors g raws 0 (if b then x else y)
if_false g raws true x y e m = absurd cc
if_false g raws false x y e m = m

abbrev pub plan_of : Grown → Plan
plan_of g = record { writes = g.writes; fresh = g.fresh }

written_mirror : (h : Hook) (g : Grown) (raws : List Raw) → Mirrors (rewritten h g) raws 0 (written (vcn_of h) (raws_of g.tree) (plan_of g))
written_mirror h g raws = record { plan = refl; takes = refl }

parted_mirror : (h : Hook) (g : Grown) (t : Tree) (fresh : List ℕ) (o : Option Cut) → fresh ≡ g.fresh → cut (middle (raws_of g.tree)) g.tree ≡ o → Mirrors (parted h g fresh o) (raws_of (hang h t)) 0 (if nat_lt (middle (raws_of g.tree) + 1) (length (raws_of g.tree)) then halved_if (middle (raws_of g.tree)) (vcn_of h) (raws_of g.tree) (plan_of g) fresh else written (vcn_of h) (raws_of g.tree) (plan_of g))
parted_mirror h g t [] o e is = either (rewritten h g) (raws_of (hang h t)) (nat_lt (middle (raws_of g.tree) + 1) (length (raws_of g.tree))) (written (vcn_of h) (raws_of g.tree) (plan_of g)) (written_mirror h g (raws_of (hang h t)))
parted_mirror h g t (f ∷ fresh) None e is =
    if_false (rewritten h g) (raws_of (hang h t)) (nat_lt (middle (raws_of g.tree) + 1) (length (raws_of g.tree))) (halved_if (middle (raws_of g.tree)) (vcn_of h) (raws_of g.tree) (plan_of g) (f ∷ fresh)) (written (vcn_of h) (raws_of g.tree) (plan_of g))
    (ge_test (middle (raws_of g.tree) + 1) (length (raws_of g.tree)) (cut_none (middle (raws_of g.tree)) g.tree is))
    (written_mirror h g (raws_of (hang h t)))
parted_mirror h g t (f ∷ fresh) (Some c) e is =
    let i : ℕ = middle (raws_of g.tree) in
    let raws : List Raw = raws_of g.tree in
    let law : CutLists i raws c = cut_lists i g.tree c is in
    let right : raws_of c.right ≡ drop (i + 1) raws = law.right ∙ ap (λ (n : ℕ). drop n raws) (sym (add-one i)) in
    if_true (parted h g (f ∷ fresh) (Some c)) (raws_of (hang h t)) (nat_lt (i + 1) (length raws)) (halved_if i (vcn_of h) raws (plan_of g) (f ∷ fresh)) (written (vcn_of h) raws (plan_of g))
    (lt_test (i + 1) (length raws) law.inside)
    (record {
      plan = cc (law.left, right);
      takes = (refl, ap (λ (l : List Raw). raw c.key (Some f) ∷ l) (hang_raws h c.right t) ∙ ap (λ (k : Key). raw k (Some f) ∷ raws_of (hang h t)) law.key);
    })

-- from a node to the one above
pub across_mirror : (h : Hook) (g : Grown) (t : Tree) → g.changed ≡ true → Mirrors (across h g) (raws_of (hang h t)) 0 (settle (vcn_of h) (raws_of g.tree) (plan_of g))
unfolding settle
across_mirror h g t changed = subst (λ (b : Bool). Mirrors (across_by b (fits (raws_of g.tree)) h g) (raws_of (hang h t)) 0 (if fits (raws_of g.tree) then written (vcn_of h) (raws_of g.tree) (plan_of g) else (if nat_lt (middle (raws_of g.tree) + 1) (length (raws_of g.tree)) then halved_if (middle (raws_of g.tree)) (vcn_of h) (raws_of g.tree) (plan_of g) g.fresh else written (vcn_of h) (raws_of g.tree) (plan_of g)))) (sym changed) (at (fits (raws_of g.tree)))
  where
    at : (fit : Bool) → Mirrors (across_by true fit h g) (raws_of (hang h t)) 0 (if fit then written (vcn_of h) (raws_of g.tree) (plan_of g) else (if nat_lt (middle (raws_of g.tree) + 1) (length (raws_of g.tree)) then halved_if (middle (raws_of g.tree)) (vcn_of h) (raws_of g.tree) (plan_of g) g.fresh else written (vcn_of h) (raws_of g.tree) (plan_of g)))
    at true = written_mirror h g (raws_of (hang h t))
    at false = parted_mirror h g t g.fresh (cut (middle (raws_of g.tree)) g.tree) refl refl

-- a node on the way
pub step_mirror : (h : Hook) (g : Grown) (t : Tree) (at : ℕ) (pending : Option Raw) (plan : Plan) → plan ≡ plan_of g → Takes g.changed (raws_of g.tree) (raws_of t) at pending → Mirrors (across h g) (raws_of (hang h t)) 0 (step_by (record { vcn = vcn_of h; node = raws_of t; at = at }) plan pending)
step_mirror h g t at None plan is takes = subst (λ (b : Bool). Mirrors (across_by b (fits (raws_of g.tree)) h g) (raws_of (hang h t)) 0 (record { pending = None; plan = plan })) (sym takes) (record { plan = is; takes = refl })
step_mirror h g t at (Some e) plan is takes =
    subst (λ (p : Plan). Mirrors (across h g) (raws_of (hang h t)) 0 (settle (vcn_of h) (insert (raws_of t) at e) p)) (sym is)
    (subst (λ (l : List Raw). Mirrors (across h g) (raws_of (hang h t)) 0 (settle (vcn_of h) l (plan_of g))) takes.1 (across_mirror h g t takes.0))

-- ---- the way

pub behind_takes : (first : Raw) (changed : Bool) (now raws : List Raw) (at : ℕ) (o : Option Raw) → Takes changed now raws at o → Takes changed (first ∷ now) (first ∷ raws) (suc at) o
behind_takes first changed now raws at None takes = takes
behind_takes first changed now raws at (Some e) takes = (takes.0, ap (λ (l : List Raw). first ∷ l) takes.1)

pub mirrors : (p : Path) (new : Key) (fresh : List ℕ) (t s : Tree) → subtree p t ≡ Some s → Mirrors (regrown p (fresh_start (Entry new s) fresh) t) (raws_of t) (place p) (rise (way p t) (record { pending = Some (raw new None); plan = record { writes = []; fresh = fresh } }))
mirrors Here new fresh t s e = record { plan = refl; takes = (refl, ap (λ (x : Tree). raw new None ∷ raws_of x) (sym (some_is t s e))) }
mirrors (Below p) new fresh Leaf s e = absurd cc
mirrors (Below p) new fresh (Down v t) s e =
    let b = mirrors p new fresh t s e in
    let r : Rise = rise (way p t) (record { pending = Some (raw new None); plan = record { writes = []; fresh = fresh } }) in
    step_mirror (Last v) (regrown p (fresh_start (Entry new s) fresh) t) t (place p) r.pending r.plan b.plan b.takes
mirrors (Below p) new fresh (Entry key rest) s e = absurd cc
mirrors (Below p) new fresh (DownEntry v t key rest) s e =
    let b = mirrors p new fresh t s e in
    let r : Rise = rise (way p t) (record { pending = Some (raw new None); plan = record { writes = []; fresh = fresh } }) in
    step_mirror (Inner v key rest) (regrown p (fresh_start (Entry new s) fresh) t) t (place p) r.pending r.plan b.plan b.takes
mirrors (Behind p) new fresh Leaf s e = absurd cc
mirrors (Behind p) new fresh (Down v t) s e = absurd cc
mirrors (Behind p) new fresh (Entry key rest) s e =
    let b = mirrors p new fresh rest s e in
    let r : Rise = rise (way p rest) (record { pending = Some (raw new None); plan = record { writes = []; fresh = fresh } }) in
    record { plan = b.plan; takes = behind_takes (raw key None) (regrown p (fresh_start (Entry new s) fresh) rest).changed (raws_of (regrown p (fresh_start (Entry new s) fresh) rest).tree) (raws_of rest) (place p) r.pending b.takes }
mirrors (Behind p) new fresh (DownEntry v t key rest) s e =
    let b = mirrors p new fresh rest s e in
    let r : Rise = rise (way p rest) (record { pending = Some (raw new None); plan = record { writes = []; fresh = fresh } }) in
    record { plan = b.plan; takes = behind_takes (raw key (Some v)) (regrown p (fresh_start (Entry new s) fresh) rest).changed (raws_of (regrown p (fresh_start (Entry new s) fresh) rest).tree) (raws_of rest) (place p) r.pending b.takes }
