-- What is pulled out of a chain of nodes is what is pulled out of the tree.
use Rattle.std.proofs.Common.{◌≡◌, ℕ, zero, suc, ◌≤◌, Bool, true, false, List, [], ◌∷◌, Option, Some, None, refl, sym, ap, ◌∙◌, subst, arith, length, nat_lt, if◌then◌else◌}
use Rattle.std.proofs.lemmas.Bool.{ltb-true}
use Rattle.index_model.specs.declared.key.Key.{Key}
use Rattle.record_model.specs.declared.entry.Entry.{Entry as Raw}
use Rattle.record_model.specs.Nodes.{last_entry}
use Rattle.index_plan.specs.declared.write.Write.{Write}
use Rattle.index_model.specs.Trees.{Tree, Leaf, Down, Entry, DownEntry, raw, raws_of}
use Rattle.index_plan.specs.Growth.{Hook, Last, Inner, hang, Grown, across_by, fronted, rewritten}
use Rattle.index_plan.specs.Removal.{vcns, fresh_start, Pulled, settled, or_pulled, and_pulled, pull, Removed, refilled, without_first}
use Rattle.index_plan.specs.Plans.{Plan}
use Rattle.index_plan.proofs.Removing.{pull_some}
use Rattle.index_plan.specs.Lists.{own_key, entry_at, left_of}
use Rattle.index_plan.specs.Takings.{Taken, Drawn, last_place, taken_from, drawn_by, drawn, none_drawn, last_chain, instead, key_of, plan_with, StartsWith, first_chain}
use Rattle.index_plan.proofs.Mirror.{raws_some, lt_test}

abbrev pub Own : Bool → List Raw → List ℕ → List ℕ → Option Pulled → Type 0
Own true raws own freed None = ⊥
Own true raws own freed (Some q) = (q.grown.changed ≡ true) × (q.grown.writes ≡ []) × (raws_of q.grown.tree ≡ left_of (last_place raws) raws) × (q.key ≡ own_key (entry_at (last_place raws) raws)) × (q.freed ≡ freed)
Own false raws own freed None = own ≡ freed
Own false raws own freed (Some q) = ⊥

-- a pull of the tree, as the chain and the node's own entries give it
abbrev pub PullBy : Bool → List Raw → List ℕ → List ℕ → Option Taken → Option Pulled → Type 0
PullBy many raws own freed None o = Own many raws own freed o
PullBy many raws own freed (Some k) None = ⊥
PullBy many raws own freed (Some k) (Some q) = (q.grown.changed ≡ false) × (q.grown.writes ≡ k.write ∷ []) × (q.key ≡ k.key) × (q.freed ≡ freed)

many_of : (raws : List Raw) → nat_lt 1 (length raws) ≡ true → 2 ≤ length raws
many_of raws e = ltb-true 1 (length raws) e

few : (n : ℕ) → nat_lt 1 n ≡ false → n ≤ 1
few zero is = omega arith
few (suc zero) is = omega arith
few (suc (suc n)) is = let over : nat_lt 1 (suc (suc n)) ≡ true = lt_test 1 (suc (suc n)) (omega arith) in absurd cc

few_of : (raws : List Raw) → nat_lt 1 (length raws) ≡ false → length raws ≤ 1
few_of raws e = at (nat_lt 1 (length raws)) refl e
  where
    at : (b : Bool) → nat_lt 1 (length raws) ≡ b → b ≡ false → length raws ≤ 1
    at true is e' = absurd cc
    at false is e' = few (length raws) is

behind_is : (fresh : List ℕ) (front : Tree → Tree) (first : Raw) (short : Tree) (raws : List Raw) (own all freed : List ℕ) (tk : Option Taken) (o : Option Pulled) → ((x : Tree) → raws_of (front x) ≡ first ∷ raws_of x) → raws_of short ≡ last_entry first.down ∷ [] → (b : Bool) → nat_lt 1 (length raws) ≡ b → PullBy b raws own freed tk o → PullBy true (first ∷ raws) all freed tk (or_pulled (fronted front) (record { grown = fresh_start short fresh; key = own_key first; freed = own }) o)
behind_is fresh front first short raws own all freed (Some k) None fr sh b is p = absurd p
behind_is fresh front first short raws own all freed (Some k) (Some q) fr sh b is p = p
behind_is fresh front first short raws own all freed None None fr sh true is p = absurd p
behind_is fresh front first short raws own all freed None (Some q) fr sh true is p =
    let many = many_of raws is in
    let place : last_place (first ∷ raws) ≡ suc (last_place raws) = omega arith in
    (p.0, p.1, fr q.grown.tree ∙ ap (λ (l : List Raw). first ∷ l) p.2 ∙ ap (λ (i : ℕ). left_of i (first ∷ raws)) (sym place), p.3 ∙ ap (λ (i : ℕ). own_key (entry_at i (first ∷ raws))) (sym place), p.4)
behind_is fresh front first short raws own all freed None None fr sh false is p =
    let less = few_of raws is in
    let place : last_place (first ∷ raws) ≡ 0 = omega arith in
    (refl, refl, sh ∙ ap (λ (i : ℕ). left_of i (first ∷ raws)) (sym place), ap (λ (i : ℕ). own_key (entry_at i (first ∷ raws))) (sym place), p)
behind_is fresh front first short raws own all freed None (Some q) fr sh false is p = absurd p

abbrev if_drawn : Bool → Drawn → Drawn → Drawn
if_drawn b x y = if b then x else y

quiet : (h : Hook) (g : Grown) → g.changed ≡ false → settled h g ≡ record { tree = hang h g.tree; changed = false; writes = g.writes; fresh = g.fresh }
quiet h g e = ap (λ (b : Bool). across_by b true h g) e

loud : (h : Hook) (g : Grown) → g.changed ≡ true → settled h g ≡ rewritten h g
loud h g e = ap (λ (b : Bool). across_by b true h g) e

abbrev num : ℕ → Tree → Write
num v t = record { vcn = v; entries = raws_of t }

one_write : (v : ℕ) (g : Grown) (raws : List Raw) → g.writes ≡ [] → raws_of g.tree ≡ raws → num v g.tree ∷ g.writes ≡ record { vcn = v; entries = raws } ∷ []
one_write v g raws none is = ap (λ (l : List Raw). record { vcn = v; entries = l } ∷ g.writes) is ∙ ap (λ (w : List Write). record { vcn = v; entries = raws } ∷ w) none

below_is : (v : ℕ) (t : Tree) (freed : List ℕ) (tk : Option Taken) (o : Option Pulled) (b : Bool) → nat_lt 1 (length (raws_of t)) ≡ b → PullBy b (raws_of t) (vcns t) freed tk o → PullBy false (raws_of (Down v t)) (v ∷ vcns t) (drawn_by (record { vcn = v; entries = raws_of t }) freed tk).freed (drawn_by (record { vcn = v; entries = raws_of t }) freed tk).taken (and_pulled (settled (Last v)) o)
below_is v t freed (Some k) None b is p = absurd p
below_is v t freed (Some k) (Some q) b is p = let e = quiet (Last v) q.grown p.0 in (ap (λ (g : Grown). g.changed) e, ap (λ (g : Grown). g.writes) e ∙ p.1, p.2, p.3)
below_is v t freed None None true is p = absurd p
below_is v t freed None (Some q) true is p =
    let e = loud (Last v) q.grown p.0 in
    subst (λ (b : Bool). PullBy false (raws_of (Down v t)) (v ∷ vcns t) (if_drawn b (record { taken = Some (taken_from (num v t)); freed = freed }) (record { taken = None; freed = v ∷ freed })).freed (if_drawn b (record { taken = Some (taken_from (num v t)); freed = freed }) (record { taken = None; freed = v ∷ freed })).taken (and_pulled (settled (Last v)) (Some q))) (sym is)
    (ap (λ (g : Grown). g.changed) e, ap (λ (g : Grown). g.writes) e ∙ one_write v q.grown (left_of (last_place (raws_of t)) (raws_of t)) p.1 p.2, p.3, p.4)
below_is v t freed None None false is p =
    subst (λ (b : Bool). PullBy false (raws_of (Down v t)) (v ∷ vcns t) (if_drawn b (record { taken = Some (taken_from (num v t)); freed = freed }) (record { taken = None; freed = v ∷ freed })).freed (if_drawn b (record { taken = Some (taken_from (num v t)); freed = freed }) (record { taken = None; freed = v ∷ freed })).taken None) (sym is)
    (ap (λ (l : List ℕ). v ∷ l) p)
below_is v t freed None (Some q) false is p = absurd p

pub pull_is : (fresh : List ℕ) (t : Tree) → PullBy (nat_lt 1 (length (raws_of t))) (raws_of t) (vcns t) (drawn none_drawn (last_chain t)).freed (drawn none_drawn (last_chain t)).taken (pull fresh t)
pull_is fresh Leaf = refl
pull_is fresh (Down v t) = below_is v t (drawn none_drawn (last_chain t)).freed (drawn none_drawn (last_chain t)).taken (pull fresh t) (nat_lt 1 (length (raws_of t))) refl (pull_is fresh t)
pull_is fresh (Entry key rest) =
    let d : Drawn = drawn none_drawn (last_chain rest) in
    let some = raws_some rest in
    let many : nat_lt 1 (length (raws_of (Entry key rest))) ≡ true = lt_test 1 (length (raws_of (Entry key rest))) (omega arith) in
    subst (λ (b : Bool). PullBy b (raws_of (Entry key rest)) (vcns rest) d.freed d.taken (pull fresh (Entry key rest))) (sym many)
    (behind_is fresh (λ r. Entry key r) (raw key None) Leaf (raws_of rest) (vcns rest) (vcns rest) d.freed d.taken (pull fresh rest) (λ x. refl) refl (nat_lt 1 (length (raws_of rest))) refl (pull_is fresh rest))
pull_is fresh (DownEntry v t key rest) =
    let d : Drawn = drawn none_drawn (last_chain rest) in
    let some = raws_some rest in
    let many : nat_lt 1 (length (raws_of (DownEntry v t key rest))) ≡ true = lt_test 1 (length (raws_of (DownEntry v t key rest))) (omega arith) in
    subst (λ (b : Bool). PullBy b (raws_of (DownEntry v t key rest)) (vcns (DownEntry v t key rest)) d.freed d.taken (pull fresh (DownEntry v t key rest))) (sym many)
    (behind_is fresh (λ r. DownEntry v t key r) (raw key (Some v)) (Down v t) (raws_of rest) (vcns rest) (vcns (DownEntry v t key rest)) d.freed d.taken (pull fresh rest) (λ x. refl) refl (nat_lt 1 (length (raws_of rest))) refl (pull_is fresh rest))

-- ---- an entry of a node

-- what comes in an entry's place, with the entries behind it
abbrev pub in_place : ℕ → Tree → Option Taken → List Raw
in_place v rest None = raws_of rest
in_place v rest (Some k) = raw k.key (Some v) ∷ raws_of rest

pub record RefilledIs (fresh : List ℕ) (v : ℕ) (rest : Tree) (r : Removed) (d : Drawn) : Type 0 where
  pub changed : r.start.changed ≡ true
  pub plan : record { writes = r.start.writes; fresh = r.start.fresh } ≡ plan_with (record { writes = []; fresh = fresh }) d.taken
  pub raws : raws_of r.start.tree ≡ in_place v rest d.taken
  pub freed : r.freed ≡ d.freed

same_plan : (writes writes' : List Write) (fresh fresh' : List ℕ) → writes ≡ writes' → fresh ≡ fresh' → ◌≡◌ {A = Plan} (record { writes = writes; fresh = fresh }) (record { writes = writes'; fresh = fresh' })
same_plan writes writes' fresh fresh' e f = ap (λ (w : List Write). record { writes = w; fresh = fresh }) e ∙ ap (λ (l : List ℕ). record { writes = writes'; fresh = l }) f

refilled_is : (fresh : List ℕ) (v : ℕ) (t rest : Tree) (freed : List ℕ) (tk : Option Taken) (o : Option Pulled) (b : Bool) → ((q : Pulled) → o ≡ Some q → q.grown.fresh ≡ fresh) → nat_lt 1 (length (raws_of t)) ≡ b → PullBy b (raws_of t) (vcns t) freed tk o → RefilledIs fresh v rest (refilled fresh v t rest o) (drawn_by (num v t) freed tk)
refilled_is fresh v t rest freed (Some k) None b takes_none is p = absurd p
refilled_is fresh v t rest freed (Some k) (Some q) b takes_none is p =
    let e = quiet (Inner v q.key rest) q.grown p.0 in
    record {
      changed = refl;
      plan = same_plan _ _ _ _ (ap (λ (g : Grown). g.writes) e ∙ p.1) (takes_none q refl);
      raws = ap (λ (g : Grown). raws_of g.tree) e ∙ ap (λ (y : Key). raw y (Some v) ∷ raws_of rest) p.2;
      freed = p.3;
    }
refilled_is fresh v t rest freed None None true takes_none is p = absurd p
refilled_is fresh v t rest freed None (Some q) true takes_none is p =
    let e = loud (Inner v q.key rest) q.grown p.0 in
    subst (λ (b : Bool). RefilledIs fresh v rest (refilled fresh v t rest (Some q)) (if_drawn b (record { taken = Some (taken_from (num v t)); freed = freed }) (record { taken = None; freed = v ∷ freed }))) (sym is) (record {
      changed = refl;
      plan = same_plan _ _ _ _ (ap (λ (g : Grown). g.writes) e ∙ one_write v q.grown (left_of (last_place (raws_of t)) (raws_of t)) p.1 p.2) (takes_none q refl);
      raws = ap (λ (g : Grown). raws_of g.tree) e ∙ ap (λ (y : Key). raw y (Some v) ∷ raws_of rest) p.3;
      freed = p.4;
    })
refilled_is fresh v t rest freed None None false takes_none is p =
    subst (λ (b : Bool). RefilledIs fresh v rest (refilled fresh v t rest None) (if_drawn b (record { taken = Some (taken_from (num v t)); freed = freed }) (record { taken = None; freed = v ∷ freed }))) (sym is) (record {
      changed = refl;
      plan = refl;
      raws = refl;
      freed = ap (λ (l : List ℕ). v ∷ l) p;
    })
refilled_is fresh v t rest freed None (Some q) false takes_none is p = absurd p

-- the entries of a node after a part's first own entry was taken out
abbrev pub FirstOut : List ℕ → Tree → Removed → Drawn → Type 0
FirstOut fresh s r d = (r.start.changed ≡ true) × (record { writes = r.start.writes; fresh = r.start.fresh } ≡ plan_with (record { writes = []; fresh = fresh }) d.taken) × (raws_of r.start.tree ≡ instead 0 (raws_of s) (key_of d.taken)) × (r.freed ≡ d.freed)

in_place_is : (v : ℕ) (t : Tree) (key : Key) (rest : Tree) (tk : Option Taken) → in_place v rest tk ≡ instead 0 (raws_of (DownEntry v t key rest)) (key_of tk)
in_place_is v t key rest None = refl
in_place_is v t key rest (Some k) = refl

pub first_out : (fresh : List ℕ) (k : Key) (s : Tree) → StartsWith k s → FirstOut fresh s (without_first fresh s) (drawn none_drawn (first_chain s))
first_out fresh k Leaf h = absurd h
first_out fresh k (Down v t) h = absurd h
first_out fresh k (Entry key rest) h = (refl, refl, refl, refl)
first_out fresh k (DownEntry v t key rest) h =
    let d : Drawn = drawn none_drawn (last_chain t) in
    let r = refilled_is fresh v t rest d.freed d.taken (pull fresh t) (nat_lt 1 (length (raws_of t))) (λ q is. (pull_some fresh t q is).takes_none) refl (pull_is fresh t) in
    (r.changed, r.plan, r.raws ∙ in_place_is v t key rest (drawn_by (num v t) d.freed d.taken).taken, r.freed)
