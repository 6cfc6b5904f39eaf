-- Of the nodes that a search meets, those that are held, entry by entry.
use Rattle.std.proofs.Common.{◌≡◌, ℕ, zero, suc, ◌+◌, ◌-◌, ◌<◌, ◌≤◌, List, [], ◌∷◌, ◌++◌, length, get_or, drop, drop-cons, Option, Some, None, Result, Ok, Err, refl, sym, ap, ◌∙◌, subst, ◌⊎◌, inl, inr, add-one, arith}
use Rattle.std.specs.Prelude.{IfSome, IsSome, OnOk}
use Rattle.std.specs.BTreeMap.{BTreeMap}
use Rattle.std.proofs.lemmas.Bool.{cases_eq}
use Rattle.index_tree.proofs.host_base.Known.{both, one}
use Rattle.record_model.specs.disk_model.Content.{Content}
use Rattle.record_model.specs.declared.entry.Entry.{Entry}
use Rattle.record_model.specs.Nodes.{Node}
use Rattle.index_tree.specs.file_tree.declared.link.Link.{Link}
use Rattle.index_tree.specs.index_model.declared.side.Side.{Side}
use Rattle.index_tree.specs.index_model.declared.side.Side.TheVariants.{Unnamed, Before, Same, Behind}
use Rattle.index_tree.specs.index_model.Indexes.{entry_link}
use Rattle.index_tree.specs.index_model.Walks.{Event, Child, Deep, Faulty, Named, Found, below, beside, behind, found_event, entry_sought, kid_sought, sought_in, inside}
use Rattle.index_tree.specs.index_model.Breaks.{HasMet}
use Rattle.index_plan.specs.Reading.{NodeReads}
use Rattle.index_tree.specs.Faults.{IsRead}
use Rattle.index_tree.proofs.Searching.{side_at, met_at, sought_next, sought_end}
use Rattle.index_tree.proofs.Steps.{none_left}
use Rattle.index_change.specs.Holding.{IsHeld, StayHeld, AllHeld, HoldsMore}

abbrev Map : Type 0
Map = BTreeMap ℕ Node

-- ---- what is met in two lists of events

met_either : (x : ℕ) (a b : List Event) → HasMet x (a ++ b) → HasMet x a ⊎ HasMet x b
met_either x [] b h = inr h
met_either x (Child v child ∷ a) b h = elim h [ inl e ↦ inl (inl e) | inr g ↦ elim (met_either x a b g) [ inl f ↦ inl (inr f) | inr f ↦ inr f ] ]
met_either x (Deep v ∷ a) b h = met_either x a b h
met_either x (Faulty v rule ∷ a) b h = met_either x a b h
met_either x (Named v l ∷ a) b h = met_either x a b h
met_either x (Found l ∷ a) b h = met_either x a b h

not_found : (x : ℕ) (s : Side) (l : Option Link) → HasMet x (found_event s l) → ⊥
not_found x Unnamed None h = h
not_found x Before None h = h
not_found x Same None h = h
not_found x Behind None h = h
not_found x Unnamed (Some l) h = h
not_found x Before (Some l) h = h
not_found x Same (Some l) h = h
not_found x Behind (Some l) h = h

-- what follows from a fact that an Ok gives
pub onward : {T E : Type 0} (r : Result T E) (P Q : Type 0) → (P → Q) → OnOk r P → OnOk r Q
onward (Ok x) P Q f h = f h
onward (Err e) P Q f h = tt

-- ---- what stays held

pub more_stay : (k : ℕ) (node : Node) (old new : Map) → HoldsMore k node old new → StayHeld old new
more_stay k node old new h v had =
    elim (cases_eq k v) [
      | inl e ↦ subst (λ (x : ℕ). IsHeld x new) e (subst (λ (o : Option Node). IsSome o) (sym h.here) refl)
      | inr ne ↦ subst (λ (o : Option Node). IsSome o) (sym (h.others v ne)) had
    ]

pub stay_both : (a b d : Map) → StayHeld a b → StayHeld b d → StayHeld a d
stay_both a b d f g v h = g v (f v h)

all_stay : (read : NodeReads) (met : List Event) (a b : Map) → AllHeld read met a → StayHeld a b → AllHeld read met b
all_stay read met a b all stay v entries m is = stay v (all v entries m is)

-- ---- a child

abbrev KidHeld : List ℕ → List ℕ → (Content → NodeReads) → ℕ → ℕ → Map → Content → Type 0
KidHeld upper name f levels child held c = (above : ℕ) → AllHeld (f c) (kid_sought upper name (f c) levels above child) held

-- nothing hangs on level 17
pub deep_held : (known : Option Content) (upper name : List ℕ) (f : Content → NodeReads) (levels child : ℕ) (held : Map) → levels ≡ 0 → IfSome known (KidHeld upper name f levels child held)
deep_held None upper name f levels child held none = tt
deep_held (Some c) upper name f zero child held none = λ above v entries m is. absurd m
deep_held (Some c) upper name f (suc n) child held none = absurd cc

faulty_held : (upper name : List ℕ) (read : NodeReads) (levels child : ℕ) (held : Map) (r : Result (List Entry) ℕ) → IsRead r None → read child ≡ r → (above : ℕ) → AllHeld read (kid_sought upper name read levels above child) held
faulty_held upper name read levels child held (Ok entries) is e = absurd is
faulty_held upper name read zero child held (Err rule) is e = λ above v entries m ok. absurd m
faulty_held upper name read (suc n) child held (Err rule) is e = λ above v entries m ok.
    let here : HasMet v (inside child (sought_in upper name read n child) (Err rule)) → ⊥ = λ h. h in
    elim m [
      | inl same ↦ absurd (clash (read child) (read v) rule entries (ap read same) e ok)
      | inr inner ↦ absurd (here (subst (λ (x : Result (List Entry) ℕ). HasMet v (inside child (sought_in upper name read n child) x)) e inner))
    ]
  where
    clash : (a b : Result (List Entry) ℕ) (rule : ℕ) (entries : List Entry) → b ≡ a → a ≡ Err rule → b ≡ Ok entries → ⊥
    clash a b rule entries e f g = cc

-- a node that breaks a rule isn't owed
pub unread_held : (known now : Option Content) (upper name : List ℕ) (f : Content → NodeReads) (levels child : ℕ) (o : Option Node) (held : Map) → now ≡ known → o ≡ None → IfSome known (λ c. IsRead (f c child) o) → IfSome known (KidHeld upper name f levels child held)
unread_held None now upper name f levels child o held same is read = tt
unread_held (Some c) now upper name f levels child o held same is read = faulty_held upper name (f c) levels child held (f c child) (subst (IsRead (f c child)) is read) refl

node_held : (upper name : List ℕ) (read : NodeReads) (levels child : ℕ) (node : Node) (a b : Map) → 1 ≤ levels → read child ≡ Ok node.entries → ((above : ℕ) → AllHeld read (sought_in upper name read (levels - 1) above node.entries) a) → HoldsMore child node a b → (above : ℕ) → AllHeld read (kid_sought upper name read levels above child) b
node_held upper name read zero child node a b pos is inner more = absurd (omega arith)
node_held upper name read (suc n) child node a b pos is inner more = λ above v entries m ok.
    let count : suc n - 1 ≡ n = omega arith in
    elim m [
      | inl same ↦ subst (λ (x : ℕ). IsHeld x b) (sym same) (subst (λ (o : Option Node). IsSome o) (sym more.here) refl)
      | inr inner_met ↦
          let met : HasMet v (sought_in upper name read n child node.entries) = subst (λ (x : Result (List Entry) ℕ). HasMet v (inside child (sought_in upper name read n child) x)) is inner_met in
          more_stay child node a b more v (subst (λ (k : ℕ). AllHeld read (sought_in upper name read k child node.entries) a) count (inner child) v entries met ok)
    ]

abbrev InHeld : List ℕ → List ℕ → (Content → NodeReads) → ℕ → List Entry → Map → Content → Type 0
InHeld upper name f levels entries held c = (above : ℕ) → AllHeld (f c) (sought_in upper name (f c) levels above entries) held

-- a node, once those below it are held
pub child_held : (known now : Option Content) (upper name : List ℕ) (f : Content → NodeReads) (levels child : ℕ) (node : Node) (o : Option Node) (entries : List Entry) (a b : Map) → now ≡ known → 1 ≤ levels → o ≡ Some node → entries ≡ node.entries → IfSome known (λ c. IsRead (f c child) o) → IfSome now (InHeld upper name f (levels - 1) entries a) → HoldsMore child node a b → IfSome known (KidHeld upper name f levels child b)
child_held None now upper name f levels child node o entries a b same pos is those read inner more = tt
child_held (Some c) now upper name f levels child node o entries a b same pos is those read inner more =
    node_held upper name (f c) levels child node a b pos (subst (IsRead (f c child)) is read)
    (subst (λ (es : List Entry). InHeld upper name f (levels - 1) es a c) those (subst (λ (k : Option Content). IfSome k (InHeld upper name f (levels - 1) entries a)) same inner)) more

-- ---- what hangs below an entry

abbrev BelowHeld : List ℕ → List ℕ → (Content → NodeReads) → ℕ → Option ℕ → Map → Content → Type 0
BelowHeld upper name f levels down held c = (above : ℕ) → AllHeld (f c) (below (kid_sought upper name (f c) levels above) down) held

pub none_below : (known : Option Content) (upper name : List ℕ) (f : Content → NodeReads) (levels : ℕ) (down : Option ℕ) (held : Map) → down ≡ None → IfSome known (BelowHeld upper name f levels down held)
none_below None upper name f levels down held is = tt
none_below (Some c) upper name f levels None held is = λ above v entries m ok. absurd m
none_below (Some c) upper name f levels (Some child) held is = absurd cc

pub some_below : (known : Option Content) (upper name : List ℕ) (f : Content → NodeReads) (levels child : ℕ) (down : Option ℕ) (held : Map) → down ≡ Some child → IfSome known (KidHeld upper name f levels child held) → IfSome known (BelowHeld upper name f levels down held)
some_below known upper name f levels child down held is h = subst (λ (d : Option ℕ). IfSome known (BelowHeld upper name f levels d held)) (sym is) h

abbrev BesideHeld : List ℕ → List ℕ → (Content → NodeReads) → ℕ → Side → Option ℕ → Map → Content → Type 0
BesideHeld upper name f levels side down held c = (above : ℕ) → AllHeld (f c) (beside side (below (kid_sought upper name (f c) levels above) down)) held

-- nothing is met below an entry before the name
pub before_held : (known : Option Content) (upper name : List ℕ) (f : Content → NodeReads) (levels : ℕ) (side : Side) (down : Option ℕ) (held : Map) → side ≡ Before → IfSome known (BesideHeld upper name f levels side down held)
before_held None upper name f levels side down held is = tt
before_held (Some c) upper name f levels Unnamed down held is = absurd cc
before_held (Some c) upper name f levels Before down held is = λ above v entries m ok. absurd m
before_held (Some c) upper name f levels Same down held is = absurd cc
before_held (Some c) upper name f levels Behind down held is = absurd cc

beside_one : (x : ℕ) (side : Side) (events : List Event) → HasMet x (beside side events) → HasMet x events
beside_one x Unnamed events h = h
beside_one x Before events h = absurd h
beside_one x Same events h = h
beside_one x Behind events h = h

pub beside_held : (known : Option Content) (upper name : List ℕ) (f : Content → NodeReads) (levels : ℕ) (side : Side) (down : Option ℕ) (held : Map) → IfSome known (BelowHeld upper name f levels down held) → IfSome known (BesideHeld upper name f levels side down held)
beside_held known upper name f levels side down held h = one known _ _ (λ c all above v entries m ok. all above v entries (beside_one v side _ m) ok) h

-- ---- an entry

abbrev EntryHeld : List ℕ → List ℕ → (Content → NodeReads) → ℕ → Side → Option Link → Option ℕ → Map → Content → Type 0
EntryHeld upper name f levels side link down held c = (above : ℕ) → AllHeld (f c) (entry_sought side link (below (kid_sought upper name (f c) levels above) down)) held

-- a key is no node
pub entry_held : (known : Option Content) (upper name : List ℕ) (f : Content → NodeReads) (levels : ℕ) (side : Side) (link : Option Link) (down : Option ℕ) (held : Map) → IfSome known (BesideHeld upper name f levels side down held) → IfSome known (EntryHeld upper name f levels side link down held)
entry_held known upper name f levels side link down held h = one known _ _ (λ c all above v entries m ok. elim (met_either v (beside side (below (kid_sought upper name (f c) levels above) down)) (found_event side link) m) [ inl inner ↦ all above v entries inner ok | inr key ↦ absurd (not_found v side link key) ]) h

-- ---- the entries of a node

-- what all entries lead to is held, or the entries that are left lead there
abbrev pub HeldOrLeft : List ℕ → List ℕ → (Content → NodeReads) → ℕ → List Entry → List Entry → Map → Content → Type 0
HeldOrLeft upper name f levels all left held c = (above x : ℕ) (n : List Entry) → HasMet x (sought_in upper name (f c) levels above all) → f c x ≡ Ok n → HasMet x (sought_in upper name (f c) levels above left) ⊎ IsHeld x held

pub none_held : (known : Option Content) (upper name : List ℕ) (f : Content → NodeReads) (levels : ℕ) (entries left : List Entry) (held : Map) → left ≡ entries → IfSome known (HeldOrLeft upper name f levels entries left held)
none_held None upper name f levels entries left held same = tt
none_held (Some c) upper name f levels entries left held same = λ above x n m ok. inl (subst (λ (es : List Entry). HasMet x (sought_in upper name (f c) levels above es)) (sym same) m)

here_or_later : (upper name : List ℕ) (read : NodeReads) (levels v : ℕ) (entries : List Entry) (k : ℕ) (e : Entry) → k < length entries → e ≡ get_or entries k e → (x : ℕ) → HasMet x (sought_in upper name read levels v (drop k entries)) → HasMet x (met_at upper name read levels v e) ⊎ HasMet x (behind (side_at upper name e) (sought_in upper name read levels v (drop (k + 1) entries)))
here_or_later upper name read levels v entries k e inside is x m =
    let here : drop k entries ≡ e ∷ drop (k + 1) entries = rw (add-one) (drop-cons entries k e inside ∙ ap (λ y. y ∷ drop (suc k) entries) (sym is)) in
    met_either x (met_at upper name read levels v e) (behind (side_at upper name e) (sought_in upper name read levels v (drop (k + 1) entries))) (subst (λ (es : List Event). HasMet x es) (ap (λ (es : List Entry). sought_in upper name read levels v es) here ∙ sought_next upper name read levels v e (drop (k + 1) entries)) m)

behind_later : (x : ℕ) (s : Side) (later : List Event) → HasMet x (behind s later) → HasMet x later
behind_later x Unnamed later h = h
behind_later x Before later h = h
behind_later x Same later h = h
behind_later x Behind later h = absurd h

behind_none : (x : ℕ) (s : Side) (later : List Event) → s ≡ Behind → HasMet x (behind s later) → ⊥
behind_none x Unnamed later is h = absurd cc
behind_none x Before later is h = absurd cc
behind_none x Same later is h = absurd cc
behind_none x Behind later is h = h

-- one entry more
pub one_held : (known now : Option Content) (upper name : List ℕ) (f : Content → NodeReads) (levels : ℕ) (entries : List Entry) (k : ℕ) (e : Entry) (a b : Map) → now ≡ known → k < length entries → e ≡ get_or entries k e → StayHeld a b
    → IfSome known (HeldOrLeft upper name f levels entries (drop k entries) a)
    → IfSome now (EntryHeld upper name f levels (side_at upper name e) (entry_link e) e.down b)
    → IfSome known (HeldOrLeft upper name f levels entries (drop (k + 1) entries) b)
one_held known now upper name f levels entries k e a b same inside is stay rest here =
    both known _ _ _
    (λ c r h above x n m ok.
    elim (r above x n m ok) [
      | inl left ↦ elim (here_or_later upper name (f c) levels above entries k e inside is x left) [ inl now_met ↦ inr (h above x n now_met ok) | inr later ↦ inl (behind_later x (side_at upper name e) _ later) ]
      | inr had ↦ inr (stay x had)
    ])
    rest
    (subst (λ (o : Option Content). IfSome o (EntryHeld upper name f levels (side_at upper name e) (entry_link e) e.down b)) same here)

-- the last entry that a search comes to
pub last_held : (known now : Option Content) (upper name : List ℕ) (f : Content → NodeReads) (levels : ℕ) (entries : List Entry) (k : ℕ) (e : Entry) (a b : Map) → now ≡ known → k < length entries → e ≡ get_or entries k e → StayHeld a b → side_at upper name e ≡ Behind
    → IfSome known (HeldOrLeft upper name f levels entries (drop k entries) a)
    → IfSome now (EntryHeld upper name f levels (side_at upper name e) (entry_link e) e.down b)
    → IfSome known (InHeld upper name f levels entries b)
last_held known now upper name f levels entries k e a b same inside is stay ends rest here =
    both known _ _ _
    (λ c r h above x n m ok.
    elim (r above x n m ok) [
      | inl left ↦ elim (here_or_later upper name (f c) levels above entries k e inside is x left) [ inl now_met ↦ h above x n now_met ok | inr later ↦ absurd (behind_none x (side_at upper name e) _ ends later) ]
      | inr had ↦ stay x had
    ])
    rest
    (subst (λ (o : Option Content). IfSome o (EntryHeld upper name f levels (side_at upper name e) (entry_link e) e.down b)) same here)

-- no entry is left
pub whole_held : (known : Option Content) (upper name : List ℕ) (f : Content → NodeReads) (levels : ℕ) (entries : List Entry) (k : ℕ) (a : Map) → length entries ≤ k
    → IfSome known (HeldOrLeft upper name f levels entries (drop k entries) a)
    → IfSome known (InHeld upper name f levels entries a)
whole_held known upper name f levels entries k a end rest =
    one known _ _
    (λ c r above x n m ok.
    elim (r above x n m ok) [
      | inl left ↦ absurd (subst (λ (es : List Event). HasMet x es) (ap (λ (es : List Entry). sought_in upper name (f c) levels above es) (none_left entries k end) ∙ sought_end upper name (f c) levels above) left)
      | inr had ↦ had
    ])
    rest
