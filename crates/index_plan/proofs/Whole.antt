-- A whole plan, with the root.
use Rattle.std.proofs.Common.{◌≡◌, ℕ, suc, ◌+◌, ◌≤◌, Bool, true, false, List, [], ◌∷◌, ◌++◌, Option, Some, None, refl, sym, ap, ◌∙◌, subst, arith, length, insert, if◌then◌else◌, ◌⊎◌, inl, inr}
use Rattle.index_model.specs.declared.key.Key.{Key}
use Rattle.record_model.specs.declared.entry.Entry.{Entry as Raw}
use Rattle.record_model.specs.Nodes.{last_entry}
use Rattle.index_model.specs.Trees.{Tree, Leaf, Down, Entry, DownEntry, raw, walk, held, times, levels, raws_of, Stands}
use Rattle.index_plan.specs.Paths.{Path, Here, Below as Deeper, Behind, subtree}
use Rattle.index_plan.specs.Growth.{Grown, regrown, fits_in, Hook, Last, Inner, hang, vcn_of, across, fronted}
use Rattle.index_plan.specs.Takings.{Taken, Drawn, drawn, none_drawn, instead, key_of, plan_with, climbed, rooted_raws, removed, too_full, StartsWith, first_chain}
use Rattle.index_plan.specs.Removal.{fresh_start, Removed, without_first}
use Rattle.index_plan.specs.Search.{path_to, put, Rises}
use Rattle.index_plan.specs.Plans.{Plan, Spot}
use Rattle.index_plan.specs.Lists.{Rise, way, place, settle, rooted, rooted_by, topped, overfull, overfull_by}
use Rattle.index_plan.specs.Laws.{NewTree, Once, inserted_by}
use Rattle.index_plan.proofs.Standing.{Nodes, Sound, lifted_sound}
use Rattle.index_plan.proofs.Mirror.{Takes, Mirrors, mirrors, across_mirror, step_mirror, behind_takes}
use Rattle.index_plan.proofs.Planning.{insertion, removal}
use Rattle.index_plan.proofs.Growing.{some_is}
use Rattle.index_plan.proofs.Placing.{Placed, regrown_placed}
use Rattle.index_plan.proofs.Drawing.{first_out}

-- what is known before the root takes what is pending
pub record Below (nodes : Nodes) (t : Tree) (fresh : List ℕ) (keys : List Key) (freed : ℕ → ℕ) (g : Grown) : Type 0 where
  pub walked : walk g.tree ≡ keys
  pub sound : Sound nodes g t
  pub numbers : (x : ℕ) → held x g.tree + times x g.fresh + freed x ≡ held x t + times x fresh
  pub placed : Placed g
  pub height : levels g.tree ≤ levels t
  pub written : length g.writes ≤ 32
  pub taken : length fresh ≤ length g.fresh + 16
  pub once : Once t fresh

abbrev plan_of : Grown → Plan
plan_of g = record { writes = g.writes; fresh = g.fresh }

-- a node of one entry, which leads to another one
abbrev OneEntry : List Raw → Type 0
OneEntry root = (f : ℕ) × (root ≡ last_entry (Some f) ∷ [])

same_height : (nodes : Nodes) (t : Tree) (fresh : List ℕ) (keys : List Key) (freed : ℕ → ℕ) (g : Grown) (room : ℕ) (more : Bool) (root : List Raw) → root ≡ raws_of g.tree → (more ≡ false → (fits_in room root ≡ true) ⊎ (root ≡ raws_of t)) → (more ≡ true → 17 ≤ length fresh → OneEntry root) → Below nodes t fresh keys freed g → NewTree nodes t fresh keys freed room more (record { root = root; plan = plan_of g })
same_height nodes t fresh keys freed g room more root is fit one b = record {
  tree = g.tree;
  root = is;
  stands = b.sound.stands;
  walked = b.walked;
  numbers = b.numbers;
  placed = b.placed;
  height = let h = b.height in omega arith;
  has_room = fit;
  one_entry = one;
  written = let w = b.written in omega arith;
  taken = let w = b.taken in omega arith;
}

one_more : (nodes : Nodes) (t : Tree) (fresh : List ℕ) (keys : List Key) (freed : ℕ → ℕ) (g : Grown) (room : ℕ) (raws : List Raw) (left : List ℕ) → left ≡ g.fresh → raws ≡ raws_of g.tree → Below nodes t fresh keys freed g → NewTree nodes t fresh keys freed room true (topped raws (plan_of g) left)
one_more nodes t fresh keys freed g room raws [] e is b = same_height nodes t fresh keys freed g room true raws is (λ m. absurd cc) (λ m enough. let w = b.taken in let l : 0 ≡ length g.fresh = ap (λ (l : List ℕ). length l) e in absurd (omega arith)) b
one_more nodes t fresh keys freed g room raws (f ∷ left) e is b =
    subst (λ (l : List Raw). NewTree nodes t fresh keys freed room true (topped l (plan_of g) (f ∷ left))) (sym is) (record {
      tree = Down f g.tree;
      root = refl;
      stands = lifted_sound nodes g t (f ∷ left) e b.sound (λ x. let n = b.numbers x in let o = b.once x in omega arith);
      walked = b.walked;
      placed = λ x. let p = b.placed x in omega arith;
      numbers = λ x. let n = b.numbers x in let l : times x (f ∷ left) ≡ times x g.fresh = ap (times x) e in omega arith;
      height = let h = b.height in omega arith;
      has_room = λ m. absurd cc;
      one_entry = λ m enough. (f, refl);
      written = let w = b.written in omega arith;
      taken = let w = b.taken in let l : length (f ∷ left) ≡ length g.fresh = ap (λ (l : List ℕ). length l) e in omega arith;
    })

with_raws : (nodes : Nodes) (t : Tree) (fresh : List ℕ) (keys : List Key) (freed : ℕ → ℕ) (g : Grown) (room : ℕ) (raws : List Raw) → raws ≡ raws_of g.tree → Below nodes t fresh keys freed g → NewTree nodes t fresh keys freed room (if fits_in room raws then false else true) (rooted_raws room raws (plan_of g))
with_raws nodes t fresh keys freed g room raws is b = choose (fits_in room raws) refl
  where
    choose : (fit : Bool) → fits_in room raws ≡ fit → NewTree nodes t fresh keys freed room (if fit then false else true) (if fit then record { root = raws; plan = plan_of g } else topped raws (plan_of g) g.fresh)
    choose true e = same_height nodes t fresh keys freed g room false raws is (λ m. inl e) (λ m. absurd cc) b
    choose false e = one_more nodes t fresh keys freed g room raws g.fresh refl is b

with_root : (nodes : Nodes) (t : Tree) (fresh : List ℕ) (keys : List Key) (freed : ℕ → ℕ) (g : Grown) (room at : ℕ) (pending : Option Raw) → Takes g.changed (raws_of g.tree) (raws_of t) at pending → Below nodes t fresh keys freed g → NewTree nodes t fresh keys freed room (overfull_by room (raws_of t) at pending) (rooted_by room (raws_of t) at (plan_of g) pending)
with_root nodes t fresh keys freed g room at None takes b = same_height nodes t fresh keys freed g room false (raws_of t) (sym (b.sound.as_before takes)) (λ m. inr refl) (λ m. absurd cc) b
with_root nodes t fresh keys freed g room at (Some e) takes b = with_raws nodes t fresh keys freed g room (insert (raws_of t) at e) (sym takes.1) b

abbrev pub Whole : Nodes → Tree → List ℕ → List Key → (ℕ → ℕ) → ℕ → ℕ → Rise → Type 0
Whole nodes t fresh keys freed room at r = NewTree nodes t fresh keys freed room (overfull room (raws_of t) at r) (rooted room (raws_of t) at r)

pub whole : (nodes : Nodes) (t : Tree) (fresh : List ℕ) (keys : List Key) (freed : ℕ → ℕ) (g : Grown) (room at : ℕ) (r : Rise) → Mirrors g (raws_of t) at r → Below nodes t fresh keys freed g → Whole nodes t fresh keys freed room at r
unfolding rooted overfull
whole nodes t fresh keys freed g room at r m b = subst (λ (p : Plan). NewTree nodes t fresh keys freed room (overfull_by room (raws_of t) at r.pending) (rooted_by room (raws_of t) at p r.pending)) (sym m.plan) (with_root nodes t fresh keys freed g room at r.pending m.takes b)

pub insert_law : (nodes : Nodes) (goes : Key → Bool) (new : Key) (fresh : List ℕ) (t : Tree) (room : ℕ) → Stands nodes t → Once t fresh → Rises goes (walk t) → levels t ≤ 16 → Whole nodes t fresh (put goes new (walk t)) (λ x. 0) room (place (path_to goes t)) (inserted_by (path_to goes t) new fresh t)
insert_law nodes goes new fresh t room st once rises low =
    let i = insertion nodes goes new fresh t st once rises in
    let g : Grown = regrown (path_to goes t) (fresh_start (Entry new i.0) fresh) t in
    whole nodes t fresh (put goes new (walk t)) (λ x. 0) g room (place (path_to goes t)) (inserted_by (path_to goes t) new fresh t) (mirrors (path_to goes t) new fresh t i.0 i.1) (record {
      walked = i.2.keys;
      sound = i.2.meets.sound;
      numbers = i.2.meets.numbers;
      placed = regrown_placed (path_to goes t) (fresh_start (Entry new i.0) fresh) t (λ x. omega arith);
      height = i.2.meets.height;
      written = let w = i.2.meets.written in omega arith;
      taken = let w = i.2.meets.taken in omega arith;
      once = once;
    })

-- ---- removal

-- what a node's part has lost, in the tree and in the lists
abbrev pub OutIs : Option Key → Grown → Grown → List Raw → ℕ → List Spot → Type 0
OutIs tk start g raws at [] = (g.changed ≡ true) × (plan_of g ≡ plan_of start) × (raws_of g.tree ≡ instead at raws tk)
OutIs tk start g raws at (n ∷ spots) = Mirrors g raws at (climbed tk (plan_of start) n spots)

below_out : (tk : Option Key) (h : Hook) (start g : Grown) (t : Tree) (at : ℕ) (spots : List Spot) → OutIs tk start g (raws_of t) at spots → Mirrors (across h g) (raws_of (hang h t)) 0 (climbed tk (plan_of start) (record { vcn = vcn_of h; node = raws_of t; at = at }) spots)
below_out tk h start g t at [] out =
    subst (λ (l : List Raw). Mirrors (across h g) (raws_of (hang h t)) 0 (settle (vcn_of h) l (plan_of start))) out.2
    (subst (λ (q : Plan). Mirrors (across h g) (raws_of (hang h t)) 0 (settle (vcn_of h) (raws_of g.tree) q)) out.1 (across_mirror h g t out.0))
below_out tk h start g t at (n ∷ spots) out = let r : Rise = climbed tk (plan_of start) n spots in step_mirror h g t at r.pending r.plan out.plan out.takes

instead_behind : (first : Raw) (now raws : List Raw) (at : ℕ) (tk : Option Key) → now ≡ instead at raws tk → first ∷ now ≡ instead (suc at) (first ∷ raws) tk
instead_behind first now raws at None e = ap (λ (l : List Raw). first ∷ l) e
instead_behind first now raws at (Some k) e = ap (λ (l : List Raw). first ∷ l) e

behind_out : (tk : Option Key) (first : Raw) (front : Tree → Tree) (start g : Grown) (raws : List Raw) (at : ℕ) (spots : List Spot) → raws_of (front g.tree) ≡ first ∷ raws_of g.tree → OutIs tk start g raws at spots → OutIs tk start (fronted front g) (first ∷ raws) (suc at) spots
behind_out tk first front start g raws at [] fr out = (out.0, out.1, fr ∙ instead_behind first (raws_of g.tree) raws at tk out.2)
behind_out tk first front start g raws at (n ∷ spots) fr out =
    let r : Rise = climbed tk (plan_of start) n spots in
    record { plan = out.plan; takes = subst (λ (l : List Raw). Takes g.changed l (first ∷ raws) (suc at) r.pending) (sym fr) (behind_takes first g.changed (raws_of g.tree) raws at r.pending out.takes) }

out_is : (tk : Option Key) (p : Path) (start : Grown) (t s : Tree) → subtree p t ≡ Some s → start.changed ≡ true → raws_of start.tree ≡ instead 0 (raws_of s) tk → OutIs tk start (regrown p start t) (raws_of t) (place p) (way p t)
out_is tk Here start t s e ch raws = (ch, refl, raws ∙ ap (λ (x : Tree). instead 0 (raws_of x) tk) (sym (some_is t s e)))
out_is tk (Deeper p) start Leaf s e ch raws = absurd cc
out_is tk (Deeper p) start (Down v t) s e ch raws = below_out tk (Last v) start (regrown p start t) t (place p) (way p t) (out_is tk p start t s e ch raws)
out_is tk (Deeper p) start (Entry key rest) s e ch raws = absurd cc
out_is tk (Deeper p) start (DownEntry v t key rest) s e ch raws = below_out tk (Inner v key rest) start (regrown p start t) t (place p) (way p t) (out_is tk p start t s e ch raws)
out_is tk (Behind p) start Leaf s e ch raws = absurd cc
out_is tk (Behind p) start (Down v t) s e ch raws = absurd cc
out_is tk (Behind p) start (Entry key rest) s e ch raws = behind_out tk (raw key None) (λ r. Entry key r) start (regrown p start rest) (raws_of rest) (place p) (way p rest) refl (out_is tk p start rest s e ch raws)
out_is tk (Behind p) start (DownEntry v t key rest) s e ch raws = behind_out tk (raw key (Some v)) (λ r. DownEntry v t key r) start (regrown p start rest) (raws_of rest) (place p) (way p rest) refl (out_is tk p start rest s e ch raws)

whole_out : (nodes : Nodes) (t : Tree) (fresh : List ℕ) (keys : List Key) (freed : ℕ → ℕ) (start g : Grown) (room at : ℕ) (tk : Option Key) (spots : List Spot) → OutIs tk start g (raws_of t) at spots → Below nodes t fresh keys freed g → NewTree nodes t fresh keys freed room (too_full room (raws_of t) at spots tk (plan_of start)) (removed room (raws_of t) at spots tk (plan_of start))
unfolding removed too_full
whole_out nodes t fresh keys freed start g room at tk [] out b =
    subst (λ (q : Plan). NewTree nodes t fresh keys freed room (if fits_in room (instead at (raws_of t) tk) then false else true) (rooted_raws room (instead at (raws_of t) tk) q)) out.1
    (with_raws nodes t fresh keys freed g room (instead at (raws_of t) tk) (sym out.2) b)
whole_out nodes t fresh keys freed start g room at tk (n ∷ spots) out b = whole nodes t fresh keys freed g room at (climbed tk (plan_of start) n spots) out b

few_writes : (fresh : List ℕ) (tk : Option Taken) → length (plan_with (record { writes = []; fresh = fresh }) tk).writes ≤ 1
few_writes fresh None = omega arith
few_writes fresh (Some k) = omega arith

abbrev Removal : Nodes → Tree → List ℕ → Key → Path → Drawn → ℕ → Plan → Type 0
Removal nodes t fresh k p d room plan = (before : List Key) × (behind : List Key) × (walk t ≡ before ++ k ∷ behind) × NewTree nodes t fresh (before ++ behind) (λ x. times x d.freed) room (too_full room (raws_of t) (place p) (way p t) (key_of d.taken) plan) (removed room (raws_of t) (place p) (way p t) (key_of d.taken) plan)

pub remove_law : (nodes : Nodes) (k : Key) (fresh : List ℕ) (p : Path) (t s : Tree) (room : ℕ) → Stands nodes t → Once t fresh → levels t ≤ 16 → subtree p t ≡ Some s → StartsWith k s → Removal nodes t fresh k p (drawn none_drawn (first_chain s)) room (plan_with (record { writes = []; fresh = fresh }) (drawn none_drawn (first_chain s)).taken)
remove_law nodes k fresh p t s room st once low at starts =
    let d : Drawn = drawn none_drawn (first_chain s) in
    let r : Removed = without_first fresh s in
    let g : Grown = regrown p r.start t in
    let law = removal nodes k fresh p t s st once at starts in
    let first = first_out fresh k s starts in
    let few : length r.start.writes ≤ 1 = subst (λ (q : Plan). length q.writes ≤ 1) (sym first.1) (few_writes fresh d.taken) in (
      law.before,
      law.behind,
      law.had,
      subst (λ (q : Plan). NewTree nodes t fresh (law.before ++ law.behind) (λ x. times x d.freed) room (too_full room (raws_of t) (place p) (way p t) (key_of d.taken) q) (removed room (raws_of t) (place p) (way p t) (key_of d.taken) q)) first.1
          (whole_out nodes t fresh (law.before ++ law.behind) (λ x. times x d.freed) r.start g room (place p) (key_of d.taken) (way p t) (out_is (key_of d.taken) p r.start t s at first.0 first.2) (record {
            walked = law.has;
            sound = law.meets.sound;
            placed = law.placed;
            numbers = λ x. let n = law.meets.numbers x in let f : times x r.freed ≡ times x d.freed = ap (times x) first.3 in omega arith;
            height = law.meets.height;
            written = let w = law.meets.written in omega arith;
            taken = let w = law.meets.taken in omega arith;
            once = once;
          })),
    )
