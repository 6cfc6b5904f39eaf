-- What is found by a search is in the tree, and what is not found isn't.
use Rattle.std.proofs.Common.{◌≡◌, ℕ, zero, suc, ◌+◌, ◌-◌, ◌≤◌, ◌<◌, length, List, [], ◌∷◌, ◌++◌, Option, Some, None, Result, Ok, refl, sym, ap, ◌∙◌, arith}
use Rattle.std.specs.Prelude.{All}
use Rattle.std.proofs.lemmas.List.Elements.{All-nil, All-cons, All-head, All-tail, All-append}
use Rattle.index_model.specs.host_base.Answers.{◌>>=◌}
use Rattle.record_model.specs.declared.entry.Entry.{Entry as Raw}
use Rattle.index_model.specs.declared.key.Key.{Key}
use Rattle.index_model.specs.Trees.{Tree, Leaf, Down, Entry, DownEntry, raw, walk, levels, raws_of, Stands}
use Rattle.index_model.specs.Walks.{Broken}
use Rattle.index_plan.specs.Paths.{Path, Here, Below, Behind, subtree}
use Rattle.index_plan.specs.declared.write.Write.{Write}
use Rattle.index_plan.specs.declared.side.KeySide.{KeySide}
use Rattle.index_plan.specs.declared.side.KeySide.TheVariants as sides
use Rattle.index_plan.specs.declared.look.Look.{Look}
use Rattle.index_plan.specs.declared.place.Place.{Place}
use Rattle.index_plan.specs.Plans.{Spot, Trail}
use Rattle.index_plan.specs.Lists.{entry_at, place, spot, way}
use Rattle.index_plan.specs.Takings.{StartsWith, first_chain, last_chain}
use Rattle.index_plan.specs.Reading.{NodeReads, nodes_of, read_by}
use Rattle.index_plan.specs.Seeking.{rank, InOrder, NoneHere, last_down, chain_down, look_at, after_look, seek_from, with_spot, seek_down}
use Rattle.index_plan.proofs.Growing.{level_one}
use Rattle.index_plan.proofs.Mirror.{raws_some}
use Rattle.index_plan.proofs.Ways.{known}
use Rattle.index_plan.proofs.Entries.{inner}

-- ---- the chain

last_cons : (r : Raw) (raws : List Raw) → 0 < length raws → last_down (r ∷ raws) ≡ last_down raws
last_cons r raws some = let e : length (r ∷ raws) - 1 ≡ suc (length raws - 1) = omega arith in ap (λ (j : ℕ). (entry_at j (r ∷ raws)).down) e

abbrev Chains : NodeReads → ℕ → ℕ → Tree → Type 0
Chains reads n above t = chain_down reads n above (last_down (raws_of t)) ≡ Ok (last_chain t)

chain_into : (reads : NodeReads) (n above v : ℕ) (t : Tree) → nodes_of reads v ≡ Some (raws_of t) → levels t ≤ n → ((m w : ℕ) → levels t ≤ suc m → Chains reads m w t) → chain_down reads n above (Some v) ≡ Ok (record { vcn = v; entries = raws_of t } ∷ last_chain t)
chain_into reads zero above v t at low rec = let one = level_one t in absurd (omega arith)
chain_into reads (suc m) above v t at low rec =
    ap (λ (r : Result (List Raw) ℕ). read_by above v r >>= λ node. chain_down reads m v (last_down node) >>= λ chain. Ok (record { vcn = v; entries = node } ∷ chain)) (known (reads v) (raws_of t) at)
    ∙ ap (λ (o : Result (List Write) Broken). o >>= λ chain. Ok (record { vcn = v; entries = raws_of t } ∷ chain)) (rec m v low)

chain_reads : (reads : NodeReads) (t : Tree) (n above : ℕ) → Stands (nodes_of reads) t → levels t ≤ suc n → Chains reads n above t
chain_reads reads Leaf n above st low = refl
chain_reads reads (Down v t) n above st low = chain_into reads n above v t st.0 (omega arith) (λ m w l. chain_reads reads t m w st.1 l)
chain_reads reads (Entry key rest) n above st low = ap (chain_down reads n above) (last_cons (raw key None) (raws_of rest) (raws_some rest)) ∙ chain_reads reads rest n above st low
chain_reads reads (DownEntry v t key rest) n above st low = ap (chain_down reads n above) (last_cons (raw key (Some v)) (raws_of rest) (raws_some rest)) ∙ chain_reads reads rest n above st.2 (omega arith)

-- ---- the order

all_at : (P : Key → Type 0) (xs : List Key) (k : Key) (ys : List Key) → All P (xs ++ k ∷ ys) → P k
all_at P [] k ys h = All-head P k ys h
all_at P (x ∷ xs) k ys h = all_at P xs k ys (All-tail P x (xs ++ k ∷ ys) h)

all_left : (P : Key → Type 0) (xs ys : List Key) → All P (xs ++ ys) → All P xs
all_left P [] ys h = All-nil P
all_left P (x ∷ xs) ys h = All-cons P x xs (All-head P x (xs ++ ys) h) (all_left P xs ys (All-tail P x (xs ++ ys) h))

all_map : (P Q : Key → Type 0) (xs : List Key) → ((k : Key) → P k → Q k) → All P xs → All Q xs
all_map P Q [] f h = All-nil Q
all_map P Q (x ∷ xs) f h = All-cons Q x xs (f x (All-head P x xs h)) (all_map P Q xs f (All-tail P x xs h))

order_left : (side : Key → KeySide) (xs ys : List Key) → InOrder side (xs ++ ys) → InOrder side xs
order_left side [] ys o = tt
order_left side (x ∷ xs) ys o = (all_left (λ k. rank (side x) ≤ rank (side k)) xs ys o.0, order_left side xs ys o.1)

order_right : (side : Key → KeySide) (xs ys : List Key) → InOrder side (xs ++ ys) → InOrder side ys
order_right side [] ys o = o
order_right side (x ∷ xs) ys o = order_right side xs ys o.1

abbrev NotHere : (Key → KeySide) → Key → Type 0
NotHere side k = side k ≡ sides.Here → ⊥

low_rank : (s : KeySide) → rank s ≤ 0 → s ≡ sides.Here → ⊥
low_rank sides.Behind h e = cc
low_rank sides.Beside h e = absurd (omega arith)
low_rank sides.Here h e = absurd (omega arith)
low_rank sides.Before h e = absurd (omega arith)

high_rank : (s : KeySide) → 2 ≤ rank s → s ≡ sides.Here → ⊥
high_rank sides.Behind h e = absurd (omega arith)
high_rank sides.Beside h e = absurd (omega arith)
high_rank sides.Here h e = absurd (omega arith)
high_rank sides.Before h e = cc

-- none that stands before a key that the sought one stands behind
behind_none : (side : Key → KeySide) (xs : List Key) (k : Key) (ys : List Key) → side k ≡ sides.Behind → InOrder side (xs ++ k ∷ ys) → NoneHere side xs
behind_none side [] k ys e o = All-nil (NotHere side)
behind_none side (x ∷ xs) k ys e o =
    let le = all_at (λ y. rank (side x) ≤ rank (side y)) xs k ys o.0 in
    let zero_rank : rank (side k) ≡ 0 = ap rank e in
    All-cons (NotHere side) x xs (low_rank (side x) (omega arith)) (behind_none side xs k ys e o.1)

-- none behind a key that the sought one stands before
before_none : (side : Key → KeySide) (k : Key) (ys : List Key) → side k ≡ sides.Before → InOrder side (k ∷ ys) → NoneHere side ys
before_none side k ys e o =
    let two : rank (side k) ≡ 2 = ap rank e in
    all_map (λ y. rank (side k) ≤ rank (side y)) (NotHere side) ys (λ y le. high_rank (side y) (omega arith)) o.0

-- ---- what a search finds

pub record TheHit (side : Key → KeySide) (t : Tree) (i : ℕ) (p : Place) : Type 0 where
  pub way_to : Path
  pub part : Tree
  pub key : Key
  pub leads : subtree way_to t ≡ Some part
  pub starts : StartsWith key part
  pub here : side key ≡ sides.Here
  pub at : p.at ≡ i + place way_to
  pub path : p.trail.path ≡ way way_to t
  pub chain : p.trail.chain ≡ first_chain part

abbrev pub Finds : (Key → KeySide) → Tree → ℕ → Option Place → Type 0
Finds side t i None = InOrder side (walk t) → NoneHere side (walk t)
Finds side t i (Some p) = TheHit side t i p

record TheTrail (side : Key → KeySide) (t : Tree) (v : ℕ) (l : Trail) : Type 0 where
  pub way_to : Path
  pub part : Tree
  pub key : Key
  pub leads : subtree way_to t ≡ Some part
  pub starts : StartsWith key part
  pub here : side key ≡ sides.Here
  pub path : l.path ≡ spot v t way_to ∷ way way_to t
  pub chain : l.chain ≡ first_chain part

abbrev FindsBelow : (Key → KeySide) → Tree → ℕ → Option Trail → Type 0
FindsBelow side t v None = InOrder side (walk t) → NoneHere side (walk t)
FindsBelow side t v (Some l) = TheTrail side t v l

abbrev pub Seeks : NodeReads → (Key → KeySide) → ℕ → ℕ → ℕ → Tree → Type 0
Seeks reads side n v i t = (o : Option Place) × (seek_from side (seek_down reads side n v) (chain_down reads n v) i (raws_of t) ≡ Ok o) × Finds side t i o

abbrev SeeksBelow : NodeReads → (Key → KeySide) → ℕ → ℕ → ℕ → Tree → Type 0
SeeksBelow reads side n above v t = (o : Option Trail) × (seek_down reads side n above (Some v) ≡ Ok o) × FindsBelow side t v o

spot_at : (v : ℕ) (t : Tree) (p : Path) (i : ℕ) (rest rest' : List Spot) → i ≡ 0 + place p → rest ≡ rest' → record { vcn = v; node = raws_of t; at = i } ∷ rest ≡ spot v t p ∷ rest'
spot_at v t p i rest rest' e f = let g : i ≡ place p = omega arith in cc

finds_below : (side : Key → KeySide) (t : Tree) (v : ℕ) (o : Option Place) → Finds side t 0 o → FindsBelow side t v (with_spot v (raws_of t) o)
finds_below side t v None f = f
finds_below side t v (Some p) f = record {
  way_to = f.way_to;
  part = f.part;
  key = f.key;
  leads = f.leads;
  starts = f.starts;
  here = f.here;
  path = spot_at v t f.way_to p.at p.trail.path (way f.way_to t) f.at f.path;
  chain = f.chain;
}

seek_into : (reads : NodeReads) (side : Key → KeySide) (n above v : ℕ) (t : Tree) → nodes_of reads v ≡ Some (raws_of t) → levels t ≤ n → ((m w : ℕ) → levels t ≤ suc m → Seeks reads side m w 0 t) → SeeksBelow reads side n above v t
seek_into reads side zero above v t at low rec = let one = level_one t in absurd (omega arith)
seek_into reads side (suc m) above v t at low rec =
    let r = rec m v low in (
      with_spot v (raws_of t) r.0,
      ap (λ (x : Result (List Raw) ℕ). read_by above v x >>= λ node. seek_from side (seek_down reads side m v) (chain_down reads m v) 0 node >>= λ o. Ok (with_spot v node o)) (known (reads v) (raws_of t) at)
          ∙ ap (λ (x : Result (Option Place) Broken). x >>= λ o. Ok (with_spot v (raws_of t) o)) r.1,
      finds_below side t v r.0 r.2,
    )

-- ---- one entry

behind_hit : (side : Key → KeySide) (front : Tree → Tree) (rest : Tree) (i : ℕ) (p : Place) → ((q : Path) → subtree (Behind q) (front rest) ≡ subtree q rest) → ((q : Path) → way (Behind q) (front rest) ≡ way q rest) → TheHit side rest (suc i) p → TheHit side (front rest) i p
behind_hit side front rest i p sub ways f = record {
  way_to = Behind f.way_to;
  part = f.part;
  key = f.key;
  leads = sub f.way_to ∙ f.leads;
  starts = f.starts;
  here = f.here;
  at = let a = f.at in omega arith;
  path = f.path ∙ sym (ways f.way_to);
  chain = f.chain;
}

-- the search goes on behind an entry
on_behind : (side : Key → KeySide) (front : Tree → Tree) (rest : Tree) (i : ℕ) (o : Option Place) → ((q : Path) → subtree (Behind q) (front rest) ≡ subtree q rest) → ((q : Path) → way (Behind q) (front rest) ≡ way q rest) → (InOrder side (walk (front rest)) → NoneHere side (walk rest) → NoneHere side (walk (front rest))) → (InOrder side (walk (front rest)) → InOrder side (walk rest)) → Finds side rest (suc i) o → Finds side (front rest) i o
on_behind side front rest i None sub ways none order f = λ o. none o (f (order o))
on_behind side front rest i (Some p) sub ways none order f = behind_hit side front rest i p sub ways f

abbrev Later : Type 0
Later = Result (Option Place) Broken

abbrev looked : ℕ → Later → Result Look Broken → Later
looked i later r = r >>= λ look. after_look i look later

entry_none : (side : Key → KeySide) (key : Key) (rest : Tree) → (side key ≡ sides.Here → ⊥) → NoneHere side (walk rest) → NoneHere side (walk (Entry key rest))
entry_none side key rest not none = All-cons (NotHere side) key (walk rest) not none

entry_seeks : (reads : NodeReads) (side : Key → KeySide) (n v i : ℕ) (key : Key) (rest : Tree) → Seeks reads side n v (suc i) rest → Seeks reads side n v i (Entry key rest)
entry_seeks reads side n v i key rest later = at (side key) refl
  where
    head : (s : KeySide) → side key ≡ s → seek_from side (seek_down reads side n v) (chain_down reads n v) i (raws_of (Entry key rest)) ≡ looked i (seek_from side (seek_down reads side n v) (chain_down reads n v) (suc i) (raws_of rest)) (look_at s (Ok None) (Ok []))
    head s e = ap (λ (x : KeySide). looked i (seek_from side (seek_down reads side n v) (chain_down reads n v) (suc i) (raws_of rest)) (look_at x (Ok None) (Ok []))) (inner side (raw key None) (raws_of rest) (raws_some rest) ∙ e)

    go_on : (side key ≡ sides.Here → ⊥) → Finds side (Entry key rest) i later.0
    go_on not = on_behind side (λ r. Entry key r) rest i later.0 (λ q. refl) (λ q. refl) (λ o none. entry_none side key rest not none) (λ o. o.1) later.2

    at : (s : KeySide) → side key ≡ s → Seeks reads side n v i (Entry key rest)
    at sides.Behind e = (later.0, head sides.Behind e ∙ later.1, go_on (λ h. cc))
    at sides.Beside e = (later.0, head sides.Beside e ∙ later.1, go_on (λ h. cc))
    at sides.Here e = (
      Some (record { at = i; trail = record { path = []; chain = [] } }),
      head sides.Here e,
      record {
        way_to = Here;
        part = Entry key rest;
        key = key;
        leads = refl;
        starts = refl;
        here = e;
        at = omega arith;
        path = refl;
        chain = refl;
      },
    )
    at sides.Before e = (None, head sides.Before e, λ o. entry_none side key rest (λ h. cc) (before_none side key (walk rest) e o))

down_none : (side : Key → KeySide) (v : ℕ) (t : Tree) (key : Key) (rest : Tree) → NoneHere side (walk t) → (side key ≡ sides.Here → ⊥) → NoneHere side (walk rest) → NoneHere side (walk (DownEntry v t key rest))
down_none side v t key rest below not none = All-append (NotHere side) (walk t) (key ∷ walk rest) below (All-cons (NotHere side) key (walk rest) not none)

down_seeks : (reads : NodeReads) (side : Key → KeySide) (n v i w : ℕ) (t : Tree) (key : Key) (rest : Tree) → SeeksBelow reads side n v w t → chain_down reads n v (Some w) ≡ Ok (first_chain (DownEntry w t key rest)) → Seeks reads side n v (suc i) rest → Seeks reads side n v i (DownEntry w t key rest)
down_seeks reads side n v i w t key rest below chain later = at (side key) refl
  where
    rest_is : Later
    rest_is = seek_from side (seek_down reads side n v) (chain_down reads n v) (suc i) (raws_of rest)

    head : (s : KeySide) → side key ≡ s → seek_from side (seek_down reads side n v) (chain_down reads n v) i (raws_of (DownEntry w t key rest)) ≡ looked i (seek_from side (seek_down reads side n v) (chain_down reads n v) (suc i) (raws_of rest)) (look_at s (Ok below.0) (Ok (first_chain (DownEntry w t key rest))))
    head s e =
        ap (λ (x : KeySide). looked i (seek_from side (seek_down reads side n v) (chain_down reads n v) (suc i) (raws_of rest)) (look_at x (seek_down reads side n v (Some w)) (chain_down reads n v (Some w)))) (inner side (raw key (Some w)) (raws_of rest) (raws_some rest) ∙ e)
        ∙ ap (λ (x : Result (Option Trail) Broken). looked i (seek_from side (seek_down reads side n v) (chain_down reads n v) (suc i) (raws_of rest)) (look_at s x (chain_down reads n v (Some w)))) below.1
        ∙ ap (λ (x : Result (List Write) Broken). looked i (seek_from side (seek_down reads side n v) (chain_down reads n v) (suc i) (raws_of rest)) (look_at s (Ok below.0) x)) chain

    go_on : (InOrder side (walk (DownEntry w t key rest)) → NoneHere side (walk t)) → (side key ≡ sides.Here → ⊥) → Finds side (DownEntry w t key rest) i later.0
    go_on none not = on_behind side (λ r. DownEntry w t key r) rest i later.0 (λ q. refl) (λ q. refl) (λ o n'. down_none side w t key rest (none o) not n') (λ o. (order_right side (walk t) (key ∷ walk rest) o).1) later.2

    -- the key is found below
    found_below : (l : Trail) → TheTrail side t w l → Finds side (DownEntry w t key rest) i (Some (record { at = i; trail = l }))
    found_below l f = record {
      way_to = Below f.way_to;
      part = f.part;
      key = f.key;
      leads = f.leads;
      starts = f.starts;
      here = f.here;
      at = omega arith;
      path = f.path;
      chain = f.chain;
    }

    not_below : FindsBelow side t w None → InOrder side (walk (DownEntry w t key rest)) → NoneHere side (walk t)
    not_below f o = f (order_left side (walk t) (key ∷ walk rest) o)

    at_other : (s : KeySide) → side key ≡ s → (o : Option Trail) → seek_from side (seek_down reads side n v) (chain_down reads n v) i (raws_of (DownEntry w t key rest)) ≡ looked i (seek_from side (seek_down reads side n v) (chain_down reads n v) (suc i) (raws_of rest)) (look_at s (Ok o) (Ok (first_chain (DownEntry w t key rest)))) → FindsBelow side t w o → Seeks reads side n v i (DownEntry w t key rest)
    at_other sides.Behind e o is f = (later.0, is ∙ later.1, go_on (behind_none side (walk t) key (walk rest) e) (λ h. cc))
    at_other sides.Beside e (Some l) is f = (Some (record { at = i; trail = l }), is, found_below l f)
    at_other sides.Here e (Some l) is f = (Some (record { at = i; trail = l }), is, found_below l f)
    at_other sides.Before e (Some l) is f = (Some (record { at = i; trail = l }), is, found_below l f)
    at_other sides.Beside e None is f = (later.0, is ∙ later.1, go_on (not_below f) (λ h. cc))
    at_other sides.Here e None is f = (
      Some (record { at = i; trail = record { path = []; chain = first_chain (DownEntry w t key rest) } }),
      is,
      record {
        way_to = Here;
        part = DownEntry w t key rest;
        key = key;
        leads = refl;
        starts = refl;
        here = e;
        at = omega arith;
        path = refl;
        chain = refl;
      },
    )
    at_other sides.Before e None is f = (None, is, λ o. down_none side w t key rest (not_below f o) (λ h. cc) (before_none side key (walk rest) e (order_right side (walk t) (key ∷ walk rest) o)))

    at : (s : KeySide) → side key ≡ s → Seeks reads side n v i (DownEntry w t key rest)
    at s e = at_other s e below.0 (head s e) below.2

-- the last entry: the search goes below it alone
last_seeks : (reads : NodeReads) (side : Key → KeySide) (n v i w : ℕ) (t : Tree) → SeeksBelow reads side n v w t → Seeks reads side n v i (Down w t)
last_seeks reads side n v i w t below = at below.0 (ap (λ (x : Result (Option Trail) Broken). looked i (Ok None) (look_at sides.Beside x (chain_down reads n v (Some w)))) below.1) below.2
  where
    at : (o : Option Trail) → seek_from side (seek_down reads side n v) (chain_down reads n v) i (raws_of (Down w t)) ≡ looked i (Ok None) (look_at sides.Beside (Ok o) (chain_down reads n v (Some w))) → FindsBelow side t w o → Seeks reads side n v i (Down w t)
    at None is f = (None, is, f)
    at (Some l) is f = (
      Some (record { at = i; trail = l }),
      is,
      record {
        way_to = Below f.way_to;
        part = f.part;
        key = f.key;
        leads = f.leads;
        starts = f.starts;
        here = f.here;
        at = omega arith;
        path = f.path;
        chain = f.chain;
      },
    )

pub seeks : (reads : NodeReads) (side : Key → KeySide) (t : Tree) (n v i : ℕ) → Stands (nodes_of reads) t → levels t ≤ suc n → Seeks reads side n v i t
seeks reads side Leaf n v i st low = (None, refl, λ o. All-nil (NotHere side))
seeks reads side (Down w t) n v i st low = last_seeks reads side n v i w t (seek_into reads side n v w t st.0 (omega arith) (λ m u l. seeks reads side t m u 0 st.1 l))
seeks reads side (Entry key rest) n v i st low = entry_seeks reads side n v i key rest (seeks reads side rest n v (suc i) st low)
seeks reads side (DownEntry w t key rest) n v i st low =
    down_seeks reads side n v i w t key rest
    (seek_into reads side n v w t st.0 (omega arith) (λ m u l. seeks reads side t m u 0 st.1 l))
    (chain_into reads n v w t st.0 (omega arith) (λ m u l. chain_reads reads t m u st.1 l))
    (seeks reads side rest n v (suc i) st.2 (omega arith))
