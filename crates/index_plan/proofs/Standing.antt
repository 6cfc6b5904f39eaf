-- The nodes after a plan's writes are those of the grown tree.
use Rattle.std.proofs.Common.{◌≡◌, ℕ, zero, suc, ◌+◌, ◌≤◌, ◌<◌, Bool, true, false, List, [], ◌∷◌, Option, Some, None, refl, sym, ap, ◌∙◌, subst, arith, nat_eq, eq-eqb}
use Rattle.index_model.specs.declared.key.Key.{Key}
use Rattle.record_model.specs.declared.entry.Entry.{Entry as Raw}
use Rattle.index_plan.specs.declared.write.Write.{Write}
use Rattle.index_model.specs.Trees.{Tree, Leaf, Down, Entry, DownEntry, raw, held, times, same, one_if, raws_of, Stands}
use Rattle.index_plan.specs.Paths.{chosen, over, Path, Here, Below, Behind, subtree, graft}
use Rattle.index_plan.specs.Growth.{Cut, cut, Hook, Last, Inner, hang, vcn_of, Grown, node, rewritten, parted, across_by, across, fronted, regrown, lifted, fits, middle}
use Rattle.index_plan.proofs.Growing.{some_is, behind_some, beside, hang_held, cut_held, regrown_held}

abbrev pub Nodes : Type 0
Nodes = ℕ → Option (List Raw)

pub same_self : (v : ℕ) → same v v ≡ 1
unfolding same
same_self v = ap one_if (eq-eqb v v refl)

pub over_here : (nodes : Nodes) (v : ℕ) (raws : List Raw) (writes : List Write) → over nodes (record { vcn = v; entries = raws } ∷ writes) v ≡ Some raws
over_here nodes v raws writes = ap (λ (b : Bool). chosen b raws (over nodes writes v)) (eq-eqb v v refl)

pub over_there : (nodes : Nodes) (x : ℕ) (w : Write) (writes : List Write) → same x w.vcn ≡ 0 → over nodes (w ∷ writes) x ≡ over nodes writes x
unfolding same
over_there nodes x w writes e = at (nat_eq x w.vcn) e
  where
    at : (b : Bool) → one_if b ≡ 0 → chosen b w.entries (over nodes writes x) ≡ over nodes writes x
    at true e' = absurd (omega arith)
    at false e' = refl

-- a tree depends on its own nodes alone
pub stands_frame : (nodes nodes' : Nodes) (t : Tree) → Stands nodes t → ((x : ℕ) → 0 < held x t → nodes' x ≡ nodes x) → Stands nodes' t
stands_frame nodes nodes' Leaf s keep = tt
stands_frame nodes nodes' (Down v t) s keep =
    let me = same_self v in
    (keep v (omega arith) ∙ s.0, stands_frame nodes nodes' t s.1 (λ x in_it. keep x (omega arith)))
stands_frame nodes nodes' (Entry key rest) s keep = stands_frame nodes nodes' rest s keep
stands_frame nodes nodes' (DownEntry v t key rest) s keep =
    let me = same_self v in
    (keep v (omega arith) ∙ s.0, stands_frame nodes nodes' t s.1 (λ x in_it. keep x (omega arith)), stands_frame nodes nodes' rest s.2 (λ x in_it. keep x (omega arith)))

pub cut_stands : (nodes : Nodes) (i : ℕ) (t : Tree) (c : Cut) → cut i t ≡ Some c → Stands nodes t → Stands nodes c.left × Stands nodes c.right
cut_stands nodes i Leaf c e s = absurd cc
cut_stands nodes i (Down v t) c e s = absurd cc
cut_stands nodes zero (Entry key rest) c e s = subst (λ (d : Cut). Stands nodes d.left × Stands nodes d.right) (some_is _ _ e) (tt, s)
cut_stands nodes zero (DownEntry v t key rest) c e s = subst (λ (d : Cut). Stands nodes d.left × Stands nodes d.right) (some_is _ _ e) ((s.0, s.1), s.2)
cut_stands nodes (suc i) (Entry key rest) c e s =
    let b = behind_some (λ r. Entry key r) (cut i rest) c e in
    let below = cut_stands nodes i rest b.0 b.1 s in
    subst (λ (d : Cut). Stands nodes d.left × Stands nodes d.right) b.2 (below.0, below.1)
cut_stands nodes (suc i) (DownEntry v t key rest) c e s =
    let b = behind_some (λ r. DownEntry v t key r) (cut i rest) c e in
    let below = cut_stands nodes i rest b.0 b.1 s.2 in
    subst (λ (d : Cut). Stands nodes d.left × Stands nodes d.right) b.2 ((s.0, s.1, below.0), below.1)

-- ---- hooks

abbrev pub StandsBeside : Nodes → Hook → Type 0
StandsBeside nodes (Last v) = Unit {0}
StandsBeside nodes (Inner v key rest) = Stands nodes rest

pub hang_stands : (nodes : Nodes) (h : Hook) (t : Tree) → nodes (vcn_of h) ≡ Some (raws_of t) → Stands nodes t → StandsBeside nodes h → Stands nodes (hang h t)
hang_stands nodes (Last v) t at s b = (at, s)
hang_stands nodes (Inner v key rest) t at s b = (at, s, b)

abbrev pub Hangs : Nodes → Hook → Tree → Type 0
Hangs nodes h t = (nodes (vcn_of h) ≡ Some (raws_of t)) × Stands nodes t × StandsBeside nodes h

pub hangs : (nodes : Nodes) (h : Hook) (t : Tree) → Stands nodes (hang h t) → Hangs nodes h t
hangs nodes (Last v) t s = (s.0, s.1, tt)
hangs nodes (Inner v key rest) t s = (s.0, s.1, s.2)

beside_frame : (nodes nodes' : Nodes) (h : Hook) → StandsBeside nodes h → ((x : ℕ) → 0 < beside x h → nodes' x ≡ nodes x) → StandsBeside nodes' h
beside_frame nodes nodes' (Last v) s keep = tt
beside_frame nodes nodes' (Inner v key rest) s keep = stands_frame nodes nodes' rest s keep

pub hang_raws : (h : Hook) (s t : Tree) → raws_of (hang h s) ≡ raws_of (hang h t)
hang_raws (Last v) s t = refl
hang_raws (Inner v key rest) s t = refl

-- ---- growth

-- what a grown part says of the nodes: they are its own, no other one changed, and its first node is as before where nothing changed there
pub record Sound (nodes : Nodes) (g : Grown) (t : Tree) : Type 0 where
  pub stands : Stands (over nodes g.writes) g.tree
  pub keeps : (x : ℕ) → held x g.tree ≡ 0 → over nodes g.writes x ≡ nodes x
  pub as_before : g.changed ≡ false → raws_of g.tree ≡ raws_of t

-- no number is used twice
abbrev pub Once : Tree → List ℕ → Type 0
Once t fresh = (x : ℕ) → held x t + times x fresh ≤ 1

pub rewritten_sound : (nodes : Nodes) (h : Hook) (g : Grown) (t : Tree) → Stands nodes (hang h t) → Sound nodes g t → Once (hang h g.tree) g.fresh → Sound nodes (rewritten h g) (hang h t)
rewritten_sound nodes h g t s so once = record {
  stands = hang_stands _ h g.tree (over_here nodes v (raws_of g.tree) g.writes)
      (stands_frame (over nodes g.writes) _ g.tree so.stands (λ x in_it. over_there nodes x (node v g.tree) g.writes (other x in_it)))
      (beside_frame nodes _ h (hangs nodes h t s).2 (λ x in_it. over_there nodes x (node v g.tree) g.writes (aside x in_it) ∙ so.keeps x (outside x in_it)));
  keeps = λ x none. over_there nodes x (node v g.tree) g.writes (gone x none) ∙ so.keeps x (gone_below x none);
  as_before = λ e. hang_raws h g.tree t;
}
  where
    v : ℕ
    v = vcn_of h

    other : (x : ℕ) → 0 < held x g.tree → same x (vcn_of h) ≡ 0
    other x in_it = let o = once x in let hh = hang_held x h g.tree in omega arith

    aside : (x : ℕ) → 0 < beside x h → same x (vcn_of h) ≡ 0
    aside x in_it = let o = once x in let hh = hang_held x h g.tree in omega arith

    outside : (x : ℕ) → 0 < beside x h → held x g.tree ≡ 0
    outside x in_it = let o = once x in let hh = hang_held x h g.tree in omega arith

    gone : (x : ℕ) → held x (hang h g.tree) ≡ 0 → same x (vcn_of h) ≡ 0
    gone x none = let hh = hang_held x h g.tree in omega arith

    gone_below : (x : ℕ) → held x (hang h g.tree) ≡ 0 → held x g.tree ≡ 0
    gone_below x none = let hh = hang_held x h g.tree in omega arith

-- a node cut in two
cut_sound : (nodes : Nodes) (h : Hook) (g : Grown) (t : Tree) (f : ℕ) (fresh : List ℕ) (c : Cut) → (f ∷ fresh) ≡ g.fresh → ((x : ℕ) → held x g.tree ≡ held x c.left + held x c.right) → ((n : Nodes) → Stands n g.tree → Stands n c.left × Stands n c.right) → Stands nodes (hang h t) → Sound nodes g t → Once (hang h g.tree) g.fresh → Sound nodes (parted h g (f ∷ fresh) (Some c)) (hang h t)
cut_sound nodes h g t f fresh c is_fresh parts halves s so once = record {
  stands = (
    over_here nodes f (raws_of c.left) (right_node ∷ g.writes),
    stands_frame (over nodes g.writes) _ c.left both.0 (λ x in_it. under x (left_f x in_it) (left_v x in_it)),
    hang_stands _ h c.right
        (over_there nodes v (node f c.left) (right_node ∷ g.writes) v_not_f ∙ over_here nodes v (raws_of c.right) g.writes)
        (stands_frame (over nodes g.writes) _ c.right both.1 (λ x in_it. under x (right_f x in_it) (right_v x in_it)))
        (beside_frame nodes _ h (hangs nodes h t s).2 (λ x in_it. under x (aside_f x in_it) (aside_v x in_it) ∙ so.keeps x (outside x in_it))),
  );
  keeps = λ x none. under x (none_f x none) (none_v x none) ∙ so.keeps x (none_below x none);
  as_before = λ e. absurd cc;
}
  where
    v : ℕ
    v = vcn_of h

    right_node : Write
    right_node = node (vcn_of h) c.right

    both : Stands (over nodes g.writes) c.left × Stands (over nodes g.writes) c.right
    both = halves (over nodes g.writes) so.stands

    under : (x : ℕ) → same x f ≡ 0 → same x (vcn_of h) ≡ 0 → over nodes (node f c.left ∷ node (vcn_of h) c.right ∷ g.writes) x ≡ over nodes g.writes x
    under x not_f not_v = over_there nodes x (node f c.left) (node (vcn_of h) c.right ∷ g.writes) not_f ∙ over_there nodes x (node (vcn_of h) c.right) g.writes not_v

    sums : (x : ℕ) → same x (vcn_of h) + held x c.left + held x c.right + beside x h + same x f + times x fresh ≤ 1
    sums x =
        let o = once x in
        let hh = hang_held x h g.tree in
        let p = parts x in
        let l : same x f + times x fresh ≡ times x g.fresh = ap (λ (l : List ℕ). times x l) is_fresh in
        omega arith

    v_not_f : same (vcn_of h) f ≡ 0
    v_not_f = let me = same_self (vcn_of h) in let o = sums (vcn_of h) in omega arith

    left_f : (x : ℕ) → 0 < held x c.left → same x f ≡ 0
    left_f x in_it = let o = sums x in omega arith

    left_v : (x : ℕ) → 0 < held x c.left → same x (vcn_of h) ≡ 0
    left_v x in_it = let o = sums x in omega arith

    right_f : (x : ℕ) → 0 < held x c.right → same x f ≡ 0
    right_f x in_it = let o = sums x in omega arith

    right_v : (x : ℕ) → 0 < held x c.right → same x (vcn_of h) ≡ 0
    right_v x in_it = let o = sums x in omega arith

    aside_f : (x : ℕ) → 0 < beside x h → same x f ≡ 0
    aside_f x in_it = let o = sums x in omega arith

    aside_v : (x : ℕ) → 0 < beside x h → same x (vcn_of h) ≡ 0
    aside_v x in_it = let o = sums x in omega arith

    outside : (x : ℕ) → 0 < beside x h → held x g.tree ≡ 0
    outside x in_it = let o = sums x in let p = parts x in omega arith

    whole : (x : ℕ) → held x (DownEntry f c.left c.key (hang h c.right)) ≡ 0 → (same x f ≡ 0) × (same x (vcn_of h) ≡ 0) × (held x g.tree ≡ 0)
    whole x none = let hh = hang_held x h c.right in let p = parts x in (omega arith, omega arith, omega arith)

    none_f : (x : ℕ) → held x (DownEntry f c.left c.key (hang h c.right)) ≡ 0 → same x f ≡ 0
    none_f x none = (whole x none).0

    none_v : (x : ℕ) → held x (DownEntry f c.left c.key (hang h c.right)) ≡ 0 → same x (vcn_of h) ≡ 0
    none_v x none = (whole x none).1

    none_below : (x : ℕ) → held x (DownEntry f c.left c.key (hang h c.right)) ≡ 0 → held x g.tree ≡ 0
    none_below x none = (whole x none).2

parted_sound : (nodes : Nodes) (h : Hook) (g : Grown) (t : Tree) (fresh : List ℕ) (o : Option Cut) → fresh ≡ g.fresh → ((c : Cut) → o ≡ Some c → (x : ℕ) → held x g.tree ≡ held x c.left + held x c.right) → ((c : Cut) → o ≡ Some c → (n : Nodes) → Stands n g.tree → Stands n c.left × Stands n c.right) → Stands nodes (hang h t) → Sound nodes g t → Once (hang h g.tree) g.fresh → Sound nodes (parted h g fresh o) (hang h t)
parted_sound nodes h g t [] o e parts halves s so once = rewritten_sound nodes h g t s so once
parted_sound nodes h g t (f ∷ fresh) None e parts halves s so once = rewritten_sound nodes h g t s so once
parted_sound nodes h g t (f ∷ fresh) (Some c) e parts halves s so once = cut_sound nodes h g t f fresh c e (parts c refl) (halves c refl) s so once

-- nothing changed here, and perhaps in nodes below
pub quiet_sound : (nodes : Nodes) (h : Hook) (g : Grown) (t : Tree) → g.changed ≡ false → Stands nodes (hang h t) → Sound nodes g t → Once (hang h g.tree) g.fresh → Sound nodes (record { tree = hang h g.tree; changed = false; writes = g.writes; fresh = g.fresh }) (hang h t)
quiet_sound nodes h g t unchanged s so once = record {
  stands = hang_stands _ h g.tree
      (so.keeps (vcn_of h) v_outside ∙ (hangs nodes h t s).0 ∙ ap (λ (r : List Raw). Some r) (sym (so.as_before unchanged)))
      so.stands
      (beside_frame nodes _ h (hangs nodes h t s).2 (λ x in_it. so.keeps x (outside x in_it)));
  keeps = λ x none. so.keeps x (gone_below x none);
  as_before = λ e. hang_raws h g.tree t;
}
  where
    v_outside : held (vcn_of h) g.tree ≡ 0
    v_outside = let me = same_self (vcn_of h) in let o = once (vcn_of h) in let hh = hang_held (vcn_of h) h g.tree in omega arith

    outside : (x : ℕ) → 0 < beside x h → held x g.tree ≡ 0
    outside x in_it = let o = once x in let hh = hang_held x h g.tree in omega arith

    gone_below : (x : ℕ) → held x (hang h g.tree) ≡ 0 → held x g.tree ≡ 0
    gone_below x none = let hh = hang_held x h g.tree in omega arith

pub across_sound : (nodes : Nodes) (h : Hook) (g : Grown) (t : Tree) → Stands nodes (hang h t) → Sound nodes g t → Once (hang h g.tree) g.fresh → Sound nodes (across h g) (hang h t)
across_sound nodes h g t s so once = at g.changed (fits (raws_of g.tree)) refl
  where
    at : (changed fit : Bool) → g.changed ≡ changed → Sound nodes (across_by changed fit h g) (hang h t)
    at false fit is = quiet_sound nodes h g t is s so once
    at true true is = rewritten_sound nodes h g t s so once
    at true false is = parted_sound nodes h g t g.fresh (cut (middle (raws_of g.tree)) g.tree) refl (λ c e x. cut_held x (middle (raws_of g.tree)) g.tree c e) (λ c e n sn. cut_stands n (middle (raws_of g.tree)) g.tree c e sn) s so once

-- new entries of a node, with nothing written below
pub start_sound : (nodes : Nodes) (new s : Tree) (fresh : List ℕ) → Stands nodes new → Sound nodes (record { tree = new; changed = true; writes = []; fresh = fresh }) s
start_sound nodes new s fresh st = record { stands = st; keeps = λ x none. refl; as_before = λ e. absurd cc }

pub settled_sound : (nodes : Nodes) (h : Hook) (g : Grown) (t : Tree) → Stands nodes (hang h t) → Sound nodes g t → Once (hang h g.tree) g.fresh → Sound nodes (across_by g.changed true h g) (hang h t)
settled_sound nodes h g t s so once = at g.changed refl
  where
    at : (changed : Bool) → g.changed ≡ changed → Sound nodes (across_by changed true h g) (hang h t)
    at false is = quiet_sound nodes h g t is s so once
    at true is = rewritten_sound nodes h g t s so once

pub entry_sound : (nodes : Nodes) (key : Key) (g : Grown) (rest : Tree) → Sound nodes g rest → Sound nodes (fronted (λ r. Entry key r) g) (Entry key rest)
entry_sound nodes key g rest so = record { stands = so.stands; keeps = so.keeps; as_before = λ q. ap (λ (l : List Raw). raw key None ∷ l) (so.as_before q) }

pub down_entry_sound : (nodes : Nodes) (v : ℕ) (t : Tree) (key : Key) (g : Grown) (rest : Tree) → Stands nodes (DownEntry v t key rest) → Sound nodes g rest → ((x : ℕ) → held x (DownEntry v t key g.tree) ≤ 1) → Sound nodes (fronted (λ r. DownEntry v t key r) g) (DownEntry v t key rest)
down_entry_sound nodes v t key g rest st so once = record {
  stands = (
    so.keeps v (let o = once v in let me = same_self v in omega arith) ∙ st.0,
    stands_frame nodes _ t st.1 (λ x in_it. so.keeps x (let o = once x in omega arith)),
    so.stands,
  );
  keeps = λ x none. so.keeps x (omega arith);
  as_before = λ q. ap (λ (l : List Raw). raw key (Some v) ∷ l) (so.as_before q);
}

pub regrown_sound : (nodes : Nodes) (p : Path) (start : Grown) (t s : Tree) → subtree p t ≡ Some s → Stands nodes t → Sound nodes start s → Once (graft p start.tree t) start.fresh → Sound nodes (regrown p start t) t
regrown_sound nodes Here start t s e st so once = subst (λ (x : Tree). Sound nodes start x) (sym (some_is t s e)) so
regrown_sound nodes (Below p) start Leaf s e st so once = absurd cc
regrown_sound nodes (Below p) start (Down v t) s e st so once =
    across_sound nodes (Last v) (regrown p start t) t st
    (regrown_sound nodes p start t s e st.1 so (λ x. let o = once x in omega arith))
    (λ x. let o = once x in let n = regrown_held p start t x in omega arith)
regrown_sound nodes (Below p) start (Entry key rest) s e st so once = absurd cc
regrown_sound nodes (Below p) start (DownEntry v t key rest) s e st so once =
    across_sound nodes (Inner v key rest) (regrown p start t) t st
    (regrown_sound nodes p start t s e st.1 so (λ x. let o = once x in omega arith))
    (λ x. let o = once x in let n = regrown_held p start t x in omega arith)
regrown_sound nodes (Behind p) start Leaf s e st so once = absurd cc
regrown_sound nodes (Behind p) start (Down v t) s e st so once = absurd cc
regrown_sound nodes (Behind p) start (Entry key rest) s e st so once = entry_sound nodes key (regrown p start rest) rest (regrown_sound nodes p start rest s e st so once)
regrown_sound nodes (Behind p) start (DownEntry v t key rest) s e st so once =
    down_entry_sound nodes v t key (regrown p start rest) rest st
    (regrown_sound nodes p start rest s e st.2 so (λ x. let o = once x in omega arith))
    (λ x. let o = once x in let n = regrown_held p start rest x in omega arith)

-- a level more
pub lifted_sound : (nodes : Nodes) (g : Grown) (t : Tree) (fresh : List ℕ) → fresh ≡ g.fresh → Sound nodes g t → Once g.tree g.fresh → Stands (over nodes (lifted g fresh).writes) (lifted g fresh).tree
lifted_sound nodes g t [] e so once = so.stands
lifted_sound nodes g t (f ∷ fresh) e so once = (
  over_here nodes f (raws_of g.tree) g.writes,
  stands_frame (over nodes g.writes) _ g.tree so.stands (λ x in_it. over_there nodes x (node f g.tree) g.writes (let o = once x in let l : same x f + times x fresh ≡ times x g.fresh = ap (λ (l : List ℕ). times x l) e in omega arith)),
)
