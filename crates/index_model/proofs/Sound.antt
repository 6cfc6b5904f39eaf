-- A walk that passes goes over an index.
use Rattle.std.proofs.Common.{◌≡◌, ℕ, zero, suc, ◌+◌, ◌≤◌, true, List, [], ◌∷◌, ◌++◌, Option, Some, None, Result, Ok, Err, refl, sym, ap, ◌∙◌, subst, arith}
use Rattle.std.specs.List.{cons_option}
use Rattle.std.specs.Prelude.{option_to_list}
use Rattle.std.proofs.lemmas.List.{append-nil, append_assoc}
use Rattle.std.proofs.lemmas.List.Elements.{filter_map-append}
use Rattle.state_model.specs.record_model.declared.entry.Entry.{Entry as Raw}
use Rattle.state_model.specs.record_model.Nodes.{last_entry}
use Rattle.state_model.specs.file_tree.declared.link.Link.{Link}
use Rattle.index_model.specs.declared.key.Key.{Key}
use Rattle.index_model.specs.Trees.{Tree, Leaf, Down, Entry, DownEntry, walk, one_if, same, held, levels as height, raw, raws_of, Stands}
use Rattle.index_model.specs.Indexes.{Place, some_entries, nodes_of, entry_link, key_link, links_of, rises}
use Rattle.index_model.specs.Walks.{Met, all_judged, entered, keyed, is_fresh, with_mark, with_link, final, follows, below, inside, named_event, entry_met, kid_met, met_in}
use Rattle.index_model.proofs.Orders.{rises_more}
use Rattle.index_model.proofs.Marks.{met_before, marked}
use Rattle.index_model.proofs.Shapes.{EndsLast, Shaped, last_link}
use Rattle.index_model.proofs.Steps.{bind_ok, needs_true, passed_both, met_in_next, met_in_end}

-- what was met over these keys and nodes
pub record Grown (p : Place) (upper : List ℕ) (m n : Met) (keys : List Link) (nodes : ℕ → ℕ) : Type 0 where
  pub links : n.links ≡ m.links ++ keys
  pub marks : (x : ℕ) → one_if (met_before p n x) ≡ one_if (met_before p m x) + nodes x
  pub rising : rises upper m.links ≡ true → rises upper n.links ≡ true

nothing_more : (p : Place) (upper : List ℕ) (m n : Met) → m ≡ n → Grown p upper m n [] (λ x. 0)
nothing_more p upper m n e =
    let P : Met → Type 0 = λ k. Grown p upper m k [] (λ x. 0) in
    subst P e (record { links = sym (append-nil m.links); marks = λ x. omega arith; rising = λ h. h })

joined : (p : Place) (upper : List ℕ) (m k n : Met) (xs ys : List Link) (f g : ℕ → ℕ) → Grown p upper m k xs f → Grown p upper k n ys g → Grown p upper m n (xs ++ ys) (λ x. f x + g x)
joined p upper m k n xs ys f g a b = record {
  links = b.links ∙ ap (λ l. l ++ ys) a.links ∙ append_assoc m.links xs ys;
  marks = λ x. omega (arith, a.marks x, b.marks x);
  rising = λ h. b.rising (a.rising h);
}

named_grown : (p : Place) (upper : List ℕ) (v : ℕ) (m n : Met) (link : Option Link) → all_judged p upper m (named_event v link) ≡ Ok n → Grown p upper m n (option_to_list link) (λ x. 0)
named_grown p upper v m n None e = nothing_more p upper m n cc
named_grown p upper v m n (Some l) e =
    let b = bind_ok (keyed upper m v l) (λ k. Ok k) n e in
    let f = needs_true (follows upper (final m.links) l) (record { vcn = v; rule = 8 }) (Ok (with_link m l)) b.0 b.1 in
    let is : with_link m l ≡ n = cc in
    let P : Met → Type 0 = λ k. Grown p upper m k (l ∷ []) (λ x. 0) in
    subst P is (record { links = refl; marks = λ x. omega arith; rising = λ h. rises_more upper m.links l h f.0 })

-- the tree below a child
pub record Hung (p : Place) (upper : List ℕ) (read : ℕ → Result (List Raw) ℕ) (most child : ℕ) (m n : Met) : Type 0 where
  pub tree : Tree
  pub node : nodes_of read child ≡ Some (raws_of tree)
  pub stands : Stands (nodes_of read) tree
  pub low : height tree ≤ most
  pub grown : Grown p upper m n (links_of (walk tree)) (λ x. same x child + held x tree)

-- the tree of a node's entries
pub record Walked (p : Place) (upper : List ℕ) (read : ℕ → Result (List Raw) ℕ) (most : ℕ) (entries : List Raw) (m n : Met) : Type 0 where
  pub tree : Tree
  pub entries_are : entries ≡ raws_of tree
  pub stands : Stands (nodes_of read) tree
  pub low : height tree ≤ most
  pub grown : Grown p upper m n (links_of (walk tree)) (λ x. held x tree)

abbrev HungBelow : Place → List ℕ → (ℕ → Result (List Raw) ℕ) → ℕ → Option ℕ → Met → Met → Type 0
HungBelow p upper read most None m n = m ≡ n
HungBelow p upper read most (Some child) m n = Hung p upper read most child m n

-- as it is said elsewhere
said : (p : Place) (upper : List ℕ) (m n : Met) (xs ys : List Link) (f g : ℕ → ℕ) → xs ≡ ys → ((x : ℕ) → f x ≡ g x) → Grown p upper m n xs f → Grown p upper m n ys g
said p upper m n xs ys f g e h a = record { links = a.links ∙ ap (λ l. m.links ++ l) e; marks = λ x. omega (arith, a.marks x, h x); rising = a.rising }

cons_is : (o : Option Link) (l : List Link) → option_to_list o ++ l ≡ cons_option o l
cons_is None l = refl
cons_is (Some x) l = refl

key_in : Raw → Key
key_in e = record { child = e.child; value = e.key }

link_is : (e : Raw) → entry_link e ≡ key_link (key_in e)
unfolding entry_link key_link key_in
link_is e = refl

raw_is : (e : Raw) (down : Option ℕ) → e.down ≡ down → e ≡ raw (key_in e) down
unfolding key_in
raw_is e down is = let f : Option ℕ → Raw = λ d. record { child = e.child; key = e.key; down = d } in ap f is

later_links : (e : Raw) (keys : List Key) → option_to_list (entry_link e) ++ links_of keys ≡ links_of (key_in e ∷ keys)
later_links e keys = cons_is (entry_link e) (links_of keys) ∙ ap (λ o. cons_option o (links_of keys)) (link_is e)

-- a last entry
last_walked : (p : Place) (upper : List ℕ) (read : ℕ → Result (List Raw) ℕ) (levels : ℕ) (down : Option ℕ) (m k n : Met) → HungBelow p upper read levels down m k → Grown p upper k n [] (λ x. 0) → Walked p upper read (suc levels) (last_entry down ∷ []) m n
last_walked p upper read levels None m k n h g = record {
  tree = Leaf;
  entries_are = refl;
  stands = tt;
  low = omega arith;
  grown = let P : Met → Type 0 = λ i. Grown p upper i n [] (λ x. 0) in subst P (sym h) g;
}
last_walked p upper read levels (Some child) m k n h g = record {
  tree = Down child h.tree;
  entries_are = refl;
  stands = (h.node, h.stands);
  low = let low = h.low in omega arith;
  grown = said p upper m n _ _ (λ x. (same x child + held x h.tree) + 0) (λ x. same x child + held x h.tree) (append-nil (links_of (walk h.tree))) (λ x. omega arith) (joined p upper m k n (links_of (walk h.tree)) [] (λ x. same x child + held x h.tree) (λ x. 0) h.grown g);
}

-- an entry before the last one
inner_walked : (p : Place) (upper : List ℕ) (read : ℕ → Result (List Raw) ℕ) (levels : ℕ) (e : Raw) (entries : List Raw) (down : Option ℕ) (m k j n : Met) → e.down ≡ down → HungBelow p upper read levels down m k → Grown p upper k j (option_to_list (entry_link e)) (λ x. 0)
    → Walked p upper read (suc levels) entries j n → Walked p upper read (suc levels) (e ∷ entries) m n
inner_walked p upper read levels e entries None m k j n is h g w =
    let P : Met → Type 0 = λ i. Grown p upper i j (option_to_list (entry_link e)) (λ x. 0) in
    record {
      tree = Entry (key_in e) w.tree;
      entries_are = ap (λ r. r ∷ entries) (raw_is e None is) ∙ ap (λ l. raw (key_in e) None ∷ l) w.entries_are;
      stands = w.stands;
      low = w.low;
      grown = said p upper m n _ _ (λ x. 0 + held x w.tree) (λ x. held x w.tree) (later_links e (walk w.tree)) (λ x. omega arith) (joined p upper m j n (option_to_list (entry_link e)) (links_of (walk w.tree)) (λ x. 0) (λ x. held x w.tree) (subst P (sym h) g) w.grown);
    }
inner_walked p upper read levels e entries (Some child) m k j n is h g w = record {
  tree = DownEntry child h.tree (key_in e) w.tree;
  entries_are = ap (λ r. r ∷ entries) (raw_is e (Some child) is) ∙ ap (λ l. raw (key_in e) (Some child) ∷ l) w.entries_are;
  stands = (h.node, h.stands, w.stands);
  low = let a = h.low in let b = w.low in omega arith;
  grown =
      said p upper m n _ _ (λ x. ((same x child + held x h.tree) + 0) + held x w.tree) (λ x. same x child + held x h.tree + held x w.tree)
      (append_assoc (links_of (walk h.tree)) (option_to_list (entry_link e)) (links_of (walk w.tree)) ∙ ap (λ l. links_of (walk h.tree) ++ l) (later_links e (walk w.tree)) ∙ sym (filter_map-append key_link (walk h.tree) (key_in e ∷ walk w.tree)))
      (λ x. omega arith)
      (joined p upper m j n _ (links_of (walk w.tree)) (λ x. (same x child + held x h.tree) + 0) (λ x. held x w.tree) (joined p upper m k j (links_of (walk h.tree)) (option_to_list (entry_link e)) (λ x. same x child + held x h.tree) (λ x. 0) h.grown g) w.grown);
}

-- the events of an entry, in turn
record Through (p : Place) (upper : List ℕ) (read : ℕ → Result (List Raw) ℕ) (levels v : ℕ) (e : Raw) (entries : List Raw) (m n : Met) : Type 0 where
  pub middle : Met
  pub later : Met
  pub hung : all_judged p upper m (below (kid_met read levels v) e.down) ≡ Ok middle
  pub named : Grown p upper middle later (option_to_list (entry_link e)) (λ x. 0)
  pub rest : all_judged p upper later (met_in read levels v entries) ≡ Ok n

through : (p : Place) (upper : List ℕ) (read : ℕ → Result (List Raw) ℕ) (levels v : ℕ) (e : Raw) (entries : List Raw) (m n : Met) → all_judged p upper m (met_in read levels v (e ∷ entries)) ≡ Ok n → Through p upper read levels v e entries m n
through p upper read levels v e entries m n h =
    let a = passed_both p upper m n (entry_met (kid_met read levels v) v e) (met_in read levels v entries) (ap (all_judged p upper m) (sym (met_in_next read levels v e entries)) ∙ h) in
    let b = passed_both p upper m a.0 (below (kid_met read levels v) e.down) (named_event v (entry_link e)) a.1 in
    record { middle = b.0; later = a.0; hung = b.1; named = named_grown p upper v b.0 a.0 (entry_link e) b.2; rest = a.2 }

abbrev Kids : Place → List ℕ → (ℕ → Result (List Raw) ℕ) → ℕ → ℕ → Type 0
Kids p upper read levels v = (child : ℕ) (m n : Met) → all_judged p upper m (kid_met read levels v child) ≡ Ok n → Hung p upper read levels child m n

hung_below : (p : Place) (upper : List ℕ) (read : ℕ → Result (List Raw) ℕ) (levels v : ℕ) → Kids p upper read levels v → (down : Option ℕ) (m n : Met) → all_judged p upper m (below (kid_met read levels v) down) ≡ Ok n → HungBelow p upper read levels down m n
hung_below p upper read levels v kids None m n e = cc
hung_below p upper read levels v kids (Some child) m n e = kids child m n e

walked_by : (p : Place) (upper : List ℕ) (read : ℕ → Result (List Raw) ℕ) (levels v : ℕ) → Kids p upper read levels v → (entries : List Raw) (m n : Met) → EndsLast entries → all_judged p upper m (met_in read levels v entries) ≡ Ok n → Walked p upper read (suc levels) entries m n
walked_by p upper read levels v kids [] m n ends h = absurd ends
walked_by p upper read levels v kids (e ∷ []) m n ends h =
    let t = through p upper read levels v e [] m n h in
    let none : entry_link e ≡ None = ap entry_link ends ∙ last_link e.down in
    let done : t.later ≡ n = let r = ap (all_judged p upper t.later) (sym (met_in_end read levels v)) ∙ t.rest in cc in
    let P : List Raw → Type 0 = λ es. Walked p upper read (suc levels) es m n in
    let Q : Met → Type 0 = λ i. Grown p upper t.middle i [] (λ x. 0) in
    let R : Option Link → Type 0 = λ o. Grown p upper t.middle t.later (option_to_list o) (λ x. 0) in
    subst P (ap (λ r. r ∷ []) (sym ends))
    (last_walked p upper read levels e.down m t.middle n (hung_below p upper read levels v kids e.down m t.middle t.hung) (subst Q done (subst R none t.named)))
walked_by p upper read levels v kids (e ∷ f ∷ entries) m n ends h =
    let t = through p upper read levels v e (f ∷ entries) m n h in
    inner_walked p upper read levels e (f ∷ entries) e.down m t.middle t.later n refl (hung_below p upper read levels v kids e.down m t.middle t.hung) t.named (walked_by p upper read levels v kids (f ∷ entries) t.later n ends t.rest)

-- a node that is read below a mark
read_below : (p : Place) (upper : List ℕ) (read : ℕ → Result (List Raw) ℕ) (levels v child : ℕ) → Shaped p read → Kids p upper read levels child → (m k n : Met) → is_fresh p m child ≡ true → with_mark p m child ≡ k → (r : Result (List Raw) ℕ) → read child ≡ r
    → all_judged p upper k (inside child (met_in read levels child) r) ≡ Ok n → Hung p upper read (suc levels) child m n
read_below p upper read levels v child shaped kids m k n fresh is (Ok entries) reads h =
    let w = walked_by p upper read levels child kids entries k n (shaped child entries reads).0 h in
    let P : Met → Type 0 = λ i. Grown p upper m i [] (λ x. same x child) in
    let first : Grown p upper m k [] (λ x. same x child) = subst P is (record { links = sym (append-nil m.links); marks = λ x. marked p m child x fresh; rising = λ r. r }) in
    record {
      tree = w.tree;
      node = ap some_entries reads ∙ ap (λ es. Some es) w.entries_are;
      stands = w.stands;
      low = w.low;
      grown = joined p upper m k n [] (links_of (walk w.tree)) (λ x. same x child) (λ x. held x w.tree) first w.grown;
    }
read_below p upper read levels v child shaped kids m k n fresh is (Err rule) reads h = absurd cc

kids_hang : (p : Place) (upper : List ℕ) (read : ℕ → Result (List Raw) ℕ) → Shaped p read → (levels v : ℕ) → Kids p upper read levels v
kids_hang p upper read shaped zero v child m n e = absurd cc
kids_hang p upper read shaped (suc levels) v child m n e =
    let b = bind_ok (entered p m v child) (λ k. all_judged p upper k (inside child (met_in read levels child) (read child))) n e in
    let f = needs_true (is_fresh p m child) (record { vcn = v; rule = 7 }) (Ok (with_mark p m child)) b.0 b.1 in
    let is : with_mark p m child ≡ b.0 = cc in
    read_below p upper read levels v child shaped (kids_hang p upper read shaped levels child) m b.0 n f.0 is (read child) refl b.2

pub walked : (p : Place) (upper : List ℕ) (read : ℕ → Result (List Raw) ℕ) → Shaped p read → (levels v : ℕ) (entries : List Raw) (m n : Met) → EndsLast entries → all_judged p upper m (met_in read levels v entries) ≡ Ok n → Walked p upper read (suc levels) entries m n
walked p upper read shaped levels v entries m n ends h = walked_by p upper read levels v (kids_hang p upper read shaped levels v) entries m n ends h
