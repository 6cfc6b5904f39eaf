-- An entry taken out.
use Rattle.std.proofs.Common.{◌≡◌, ℕ, ◌+◌, ◌≤◌, Bool, true, false, List, [], ◌∷◌, ◌++◌, Option, Some, None, refl, sym, ap, ◌∙◌, subst, arith, ◌⊎◌, inl, inr}
use Rattle.std.proofs.lemmas.List.{append_assoc}
use Rattle.index_model.specs.declared.key.Key.{Key}
use Rattle.index_model.specs.Trees.{Tree, Leaf, Down, Entry, DownEntry, walk, held, times, same, levels, Stands}
use Rattle.index_plan.specs.Growth.{Hook, Last, Inner, hang, Grown, across_by, fronted}
use Rattle.index_plan.specs.Removal.{vcns, fresh_start, Pulled, pulled_with, settled, or_pulled, and_pulled, pull, Removed, refilled, without_first}
use Rattle.index_plan.specs.Takings.{StartsWith}
use Rattle.index_plan.proofs.Growing.{some_is, level_one}
use Rattle.index_plan.proofs.Placing.{Placed, settled_placed}
use Rattle.index_plan.proofs.Standing.{Nodes, Sound, Once, start_sound, settled_sound, entry_sound, down_entry_sound}

times_append : (x : ℕ) (xs ys : List ℕ) → times x (xs ++ ys) ≡ times x xs + times x ys
times_append x [] ys = omega arith
times_append x (y ∷ xs) ys = let b = times_append x xs ys in omega arith

pub held_vcns : (x : ℕ) (t : Tree) → times x (vcns t) ≡ held x t
held_vcns x Leaf = refl
held_vcns x (Down v t) = ap (λ (n : ℕ). same x v + n) (held_vcns x t)
held_vcns x (Entry key rest) = held_vcns x rest
held_vcns x (DownEntry v t key rest) = let a = times_append x (vcns t) (vcns rest) in let b = held_vcns x t in let c = held_vcns x rest in omega arith

or_some : (change : Grown → Grown) (here : Pulled) (o : Option Pulled) (q : Pulled) → or_pulled change here o ≡ Some q → ((o ≡ None) × (here ≡ q)) ⊎ ((d : Pulled) × (o ≡ Some d) × (pulled_with change d ≡ q))
or_some change here None q e = inl (refl, some_is here q e)
or_some change here (Some d) q e = inr (d, refl, some_is (pulled_with change d) q e)

and_some : (change : Grown → Grown) (o : Option Pulled) (q : Pulled) → and_pulled change o ≡ Some q → (d : Pulled) × (o ≡ Some d) × (pulled_with change d ≡ q)
and_some change None q e = absurd cc
and_some change (Some d) q e = (d, refl, some_is (pulled_with change d) q e)

and_none : (change : Grown → Grown) (o : Option Pulled) → and_pulled change o ≡ None → o ≡ None
and_none change None e = refl
and_none change (Some d) e = absurd cc

or_none : (change : Grown → Grown) (here : Pulled) (o : Option Pulled) → or_pulled change here o ≡ None → ⊥
or_none change here None e = cc
or_none change here (Some d) e = cc

-- nothing to pull: no key
pub pull_none : (fresh : List ℕ) (t : Tree) → pull fresh t ≡ None → walk t ≡ []
pull_none fresh Leaf e = refl
pull_none fresh (Down v t) e = pull_none fresh t (and_none (settled (Last v)) (pull fresh t) e)
pull_none fresh (Entry key rest) e = absurd (or_none (fronted (λ r. Entry key r)) (record { grown = fresh_start Leaf fresh; key = key; freed = vcns rest }) (pull fresh rest) e)
pull_none fresh (DownEntry v t key rest) e = absurd (or_none (fronted (λ r. DownEntry v t key r)) (record { grown = fresh_start (Down v t) fresh; key = key; freed = vcns rest }) (pull fresh rest) e)

settled_tree : (h : Hook) (g : Grown) → (settled h g).tree ≡ hang h g.tree
settled_tree h g = at g.changed
  where
    at : (b : Bool) → (across_by b true h g).tree ≡ hang h g.tree
    at true = refl
    at false = refl

settled_fresh : (h : Hook) (g : Grown) → (settled h g).fresh ≡ g.fresh
settled_fresh h g = at g.changed
  where
    at : (b : Bool) → (across_by b true h g).fresh ≡ g.fresh
    at true = refl
    at false = refl

-- what a pull does to the keys, the numbers and the levels
pub record PullLaw (fresh : List ℕ) (t : Tree) (q : Pulled) : Type 0 where
  pub keys : walk t ≡ walk q.grown.tree ++ q.key ∷ []
  pub numbers : (x : ℕ) → held x t ≡ held x q.grown.tree + times x q.freed
  pub height : levels q.grown.tree ≤ levels t
  pub takes_none : q.grown.fresh ≡ fresh
  pub placed : Placed q.grown

pub pull_some : (fresh : List ℕ) (t : Tree) (q : Pulled) → pull fresh t ≡ Some q → PullLaw fresh t q
pull_some fresh Leaf q e = absurd cc
pull_some fresh (Down v t) q e =
    let b = and_some (settled (Last v)) (pull fresh t) q e in
    let r = pull_some fresh t b.0 b.1 in
    let tree : (settled (Last v) b.0.grown).tree ≡ Down v b.0.grown.tree = settled_tree (Last v) b.0.grown in
    subst (λ (y : Pulled). PullLaw fresh (Down v t) y) b.2 (record {
      keys = r.keys ∙ ap (λ (s : Tree). walk s ++ b.0.key ∷ []) (sym tree);
      numbers = λ x. let n = r.numbers x in let s : held x (settled (Last v) b.0.grown).tree ≡ same x v + held x b.0.grown.tree = ap (held x) tree in omega arith;
      height = let n = r.height in let s : levels (settled (Last v) b.0.grown).tree ≡ 1 + levels b.0.grown.tree = ap levels tree in omega arith;
      takes_none = settled_fresh (Last v) b.0.grown ∙ r.takes_none;
      placed = settled_placed (Last v) b.0.grown r.placed;
    })
pull_some fresh (Entry key rest) q e = at (or_some (fronted (λ r. Entry key r)) (record { grown = fresh_start Leaf fresh; key = key; freed = vcns rest }) (pull fresh rest) q e) (pull_some fresh rest)
  where
    at : ((pull fresh rest ≡ None) × (record { grown = fresh_start Leaf fresh; key = key; freed = vcns rest } ≡ q)) ⊎ ((d : Pulled) × (pull fresh rest ≡ Some d) × (pulled_with (fronted (λ r. Entry key r)) d ≡ q)) → ((d : Pulled) → pull fresh rest ≡ Some d → PullLaw fresh rest d) → PullLaw fresh (Entry key rest) q
    at (inl h) rec = subst (λ (y : Pulled). PullLaw fresh (Entry key rest) y) h.1 (let no_keys = pull_none fresh rest h.0 in record {
      keys = ap (λ (l : List Key). key ∷ l) no_keys;
      numbers = λ x. let n = held_vcns x rest in omega arith;
      height = let one = level_one rest in omega arith;
      takes_none = refl;
      placed = λ x. omega arith;
    })
    at (inr b) rec = let r = rec b.0 b.1 in subst (λ (y : Pulled). PullLaw fresh (Entry key rest) y) b.2 (record {
      keys = ap (λ (l : List Key). key ∷ l) r.keys;
      numbers = r.numbers;
      height = r.height;
      takes_none = r.takes_none;
      placed = r.placed;
    })
pull_some fresh (DownEntry v t key rest) q e = at (or_some (fronted (λ r. DownEntry v t key r)) (record { grown = fresh_start (Down v t) fresh; key = key; freed = vcns rest }) (pull fresh rest) q e) (pull_some fresh rest)
  where
    at : ((pull fresh rest ≡ None) × (record { grown = fresh_start (Down v t) fresh; key = key; freed = vcns rest } ≡ q)) ⊎ ((d : Pulled) × (pull fresh rest ≡ Some d) × (pulled_with (fronted (λ r. DownEntry v t key r)) d ≡ q)) → ((d : Pulled) → pull fresh rest ≡ Some d → PullLaw fresh rest d) → PullLaw fresh (DownEntry v t key rest) q
    at (inl h) rec = subst (λ (y : Pulled). PullLaw fresh (DownEntry v t key rest) y) h.1 (let no_keys = pull_none fresh rest h.0 in record {
      keys = ap (λ (l : List Key). walk t ++ key ∷ l) no_keys;
      numbers = λ x. let n = held_vcns x rest in omega arith;
      height = omega arith;
      takes_none = refl;
      placed = λ x. omega arith;
    })
    at (inr b) rec = let r = rec b.0 b.1 in subst (λ (y : Pulled). PullLaw fresh (DownEntry v t key rest) y) b.2 (record {
      keys = ap (λ (l : List Key). walk t ++ key ∷ l) r.keys ∙ sym (append_assoc (walk t) (key ∷ walk b.0.grown.tree) (b.0.key ∷ []));
      numbers = λ x. let n = r.numbers x in omega arith;
      height = let n = r.height in omega arith;
      takes_none = r.takes_none;
      placed = λ x. let p = r.placed x in omega arith;
    })

pub pull_sound : (nodes : Nodes) (fresh : List ℕ) (t : Tree) (q : Pulled) → pull fresh t ≡ Some q → Stands nodes t → Once t fresh → Sound nodes q.grown t
pull_sound nodes fresh Leaf q e st once = absurd cc
pull_sound nodes fresh (Down v t) q e st once =
    let b = and_some (settled (Last v)) (pull fresh t) q e in
    let law = pull_some fresh t b.0 b.1 in
    let below = pull_sound nodes fresh t b.0 b.1 st.1 (λ x. let o = once x in omega arith) in
    subst (λ (y : Pulled). Sound nodes y.grown (Down v t)) b.2
    (settled_sound nodes (Last v) b.0.grown t st below (λ x. let o = once x in let n = law.numbers x in let f : times x b.0.grown.fresh ≡ times x fresh = ap (times x) law.takes_none in omega arith))
pull_sound nodes fresh (Entry key rest) q e st once = at (or_some (fronted (λ r. Entry key r)) (record { grown = fresh_start Leaf fresh; key = key; freed = vcns rest }) (pull fresh rest) q e) (λ d is. pull_sound nodes fresh rest d is st once)
  where
    at : ((pull fresh rest ≡ None) × (record { grown = fresh_start Leaf fresh; key = key; freed = vcns rest } ≡ q)) ⊎ ((d : Pulled) × (pull fresh rest ≡ Some d) × (pulled_with (fronted (λ r. Entry key r)) d ≡ q)) → ((d : Pulled) → pull fresh rest ≡ Some d → Sound nodes d.grown rest) → Sound nodes q.grown (Entry key rest)
    at (inl h) rec = subst (λ (y : Pulled). Sound nodes y.grown (Entry key rest)) h.1 (start_sound nodes Leaf (Entry key rest) fresh tt)
    at (inr b) rec = subst (λ (y : Pulled). Sound nodes y.grown (Entry key rest)) b.2 (entry_sound nodes key b.0.grown rest (rec b.0 b.1))
pull_sound nodes fresh (DownEntry v t key rest) q e st once = at (or_some (fronted (λ r. DownEntry v t key r)) (record { grown = fresh_start (Down v t) fresh; key = key; freed = vcns rest }) (pull fresh rest) q e) (λ d is. pull_sound nodes fresh rest d is st.2 (λ x. let o = once x in omega arith))
  where
    at : ((pull fresh rest ≡ None) × (record { grown = fresh_start (Down v t) fresh; key = key; freed = vcns rest } ≡ q)) ⊎ ((d : Pulled) × (pull fresh rest ≡ Some d) × (pulled_with (fronted (λ r. DownEntry v t key r)) d ≡ q)) → ((d : Pulled) → pull fresh rest ≡ Some d → Sound nodes d.grown rest) → Sound nodes q.grown (DownEntry v t key rest)
    at (inl h) rec = subst (λ (y : Pulled). Sound nodes y.grown (DownEntry v t key rest)) h.1 (start_sound nodes (Down v t) (DownEntry v t key rest) fresh (st.0, st.1))
    at (inr b) rec = subst (λ (y : Pulled). Sound nodes y.grown (DownEntry v t key rest)) b.2
        (down_entry_sound nodes v t key b.0.grown rest st (rec b.0 b.1) (λ x. let o = once x in let n = (pull_some fresh rest b.0 b.1).numbers x in omega arith))

-- ---- an entry of a node

pub record FirstLaw (nodes : Nodes) (fresh : List ℕ) (k : Key) (s : Tree) (r : Removed) : Type 0 where
  pub before : List Key
  pub behind : List Key
  pub had : walk s ≡ before ++ k ∷ behind
  pub has : walk r.start.tree ≡ before ++ behind
  pub numbers : (x : ℕ) → held x s ≡ held x r.start.tree + times x r.freed
  pub height : levels r.start.tree ≤ levels s
  pub takes_none : r.start.fresh ≡ fresh
  pub placed : Placed r.start
  pub sound : Sound nodes r.start s

changed_sound : (nodes : Nodes) (g : Grown) (t s : Tree) → Sound nodes g t → Sound nodes (record { tree = g.tree; changed = true; writes = g.writes; fresh = g.fresh }) s
changed_sound nodes g t s so = record { stands = so.stands; keeps = so.keeps; as_before = λ e. absurd cc }

refill : (nodes : Nodes) (fresh : List ℕ) (v : ℕ) (t : Tree) (key : Key) (rest : Tree) (o : Option Pulled) → pull fresh t ≡ o → Stands nodes (DownEntry v t key rest) → Once (DownEntry v t key rest) fresh → FirstLaw nodes fresh key (DownEntry v t key rest) (refilled fresh v t rest o)
refill nodes fresh v t key rest None is st once = record {
  before = [];
  behind = walk rest;
  had = ap (λ (l : List Key). l ++ key ∷ walk rest) (pull_none fresh t is);
  has = refl;
  numbers = λ x. let n = held_vcns x t in omega arith;
  height = omega arith;
  takes_none = refl;
  placed = λ x. omega arith;
  sound = start_sound nodes rest (DownEntry v t key rest) fresh st.2;
}
refill nodes fresh v t key rest (Some q) is st once =
    let law = pull_some fresh t q is in
    let below = pull_sound nodes fresh t q is st.1 (λ x. let o = once x in omega arith) in
    let tree : (settled (Inner v q.key rest) q.grown).tree ≡ DownEntry v q.grown.tree q.key rest = settled_tree (Inner v q.key rest) q.grown in
    let no_fresh : (settled (Inner v q.key rest) q.grown).fresh ≡ q.grown.fresh = settled_fresh (Inner v q.key rest) q.grown in
    let so : Sound nodes (settled (Inner v q.key rest) q.grown) (DownEntry v t q.key rest) = settled_sound nodes (Inner v q.key rest) q.grown t st below (λ x. let o = once x in let n = law.numbers x in let f : times x q.grown.fresh ≡ times x fresh = ap (times x) law.takes_none in omega arith) in
    record {
      before = walk t;
      behind = walk rest;
      had = refl;
      has = ap walk tree ∙ sym (append_assoc (walk q.grown.tree) (q.key ∷ []) (walk rest)) ∙ ap (λ (l : List Key). l ++ walk rest) (sym law.keys);
      numbers = λ x. let n = law.numbers x in let s : held x (settled (Inner v q.key rest) q.grown).tree ≡ held x (DownEntry v q.grown.tree q.key rest) = ap (held x) tree in omega arith;
      height = let n = law.height in let s : levels (settled (Inner v q.key rest) q.grown).tree ≡ levels (DownEntry v q.grown.tree q.key rest) = ap levels tree in omega arith;
      takes_none = law.takes_none;
      placed = settled_placed (Inner v q.key rest) q.grown law.placed;
      sound = record { stands = so.stands; keeps = so.keeps; as_before = λ e. absurd cc };
    }

pub first_law : (nodes : Nodes) (fresh : List ℕ) (k : Key) (s : Tree) → StartsWith k s → Stands nodes s → Once s fresh → FirstLaw nodes fresh k s (without_first fresh s)
first_law nodes fresh k Leaf h st once = absurd h
first_law nodes fresh k (Down v t) h st once = absurd h
first_law nodes fresh k (Entry key rest) h st once = record {
  before = [];
  behind = walk rest;
  had = ap (λ (y : Key). y ∷ walk rest) h;
  has = refl;
  numbers = λ x. omega arith;
  height = omega arith;
  takes_none = refl;
  placed = λ x. omega arith;
  sound = start_sound nodes rest (Entry key rest) fresh st;
}
first_law nodes fresh k (DownEntry v t key rest) h st once =
    subst (λ (y : Key). FirstLaw nodes fresh y (DownEntry v t key rest) (without_first fresh (DownEntry v t key rest))) h (refill nodes fresh v t key rest (pull fresh t) refl st once)
