-- A search over an index gives the links of the name.
use Rattle.std.proofs.Common.{◌≡◌, ℕ, zero, suc, ◌+◌, ◌≤◌, Bool, true, false, cond, List, [], ◌∷◌, ◌++◌, Option, Some, None, Result, Ok, Err, refl, sym, ap, ◌∙◌, arith}
use Rattle.std.specs.Prelude.{option_to_list}
use Rattle.std.specs.List.{filter}
use Rattle.std.proofs.lemmas.List.{append-nil, append_assoc}
use Rattle.std.proofs.lemmas.List.Elements.{filter-append, filter_map-append}
use Rattle.volume_model.specs.host_base.Answers.{◌>>=◌}
use Rattle.stream_map.specs.disk_model.Content.{Content}
use Rattle.stream_map.specs.record_model.declared.entry.Entry.{Entry as Raw}
use Rattle.stream_map.specs.record_model.Nodes.{last_entry}
use Rattle.volume_model.specs.file_tree.declared.link.Link.{Link}
use Rattle.volume_model.specs.file_tree.Names.{comes_before}
use Rattle.index_model.specs.Trees.{Tree, Leaf, Down, Entry, DownEntry, walk, one_if, same, held, levels as height, raw, raws_of, Stands}
use Rattle.index_model.specs.Indexes.{Place, some_entries, node_of_block, nodes_of, entry_link, key_link, links_of, rises}
use Rattle.index_model.specs.Walks.{Broken, Event, Met, all_judged, is_fresh, with_mark, with_link, below, inside, entry_sought, behind, side_of, kid_sought, sought_in, met_from, nothing_met, root_vcn, find_of, side_by, Found}
use Rattle.index_model.specs.Laws.{HoldsIndex}
use Rattle.index_model.proofs.Marks.{met_before, marked, may_meet, nothing_before}
use Rattle.index_model.proofs.Orders.{rises_front}
use Rattle.index_model.proofs.Shapes.{Shaped, block_ends, last_link}
use Rattle.index_model.proofs.Steps.{pass_both}
use Rattle.index_model.proofs.Complete.{Few, some_levels, node_inside, key_links}
use Rattle.index_tree.specs.Calls.{is_sought}
use Rattle.index_tree.proofs.Between.{rises_back, kept_behind, kept_before}
use Rattle.index_tree.proofs.Searching.{Reader, sought_next, sought_end}

-- these events are passed with these links, and at most these nodes
pub record Seeks (p : Place) (upper : List ℕ) (m : Met) (events : List Event) (found : List Link) (nodes : ℕ → ℕ) : Type 0 where
  pub after : Met
  pub passed : all_judged p upper m events ≡ Ok after
  pub links : after.links ≡ m.links ++ found
  pub marks : (x : ℕ) → one_if (met_before p after x) ≤ one_if (met_before p m x) + nodes x

seeks_none : (p : Place) (upper : List ℕ) (m : Met) (nodes : ℕ → ℕ) → Seeks p upper m [] [] nodes
seeks_none p upper m nodes = record { after = m; passed = refl; links = sym (append-nil m.links); marks = λ x. omega arith }

seeks_both : (p : Place) (upper : List ℕ) (m : Met) (xs ys : List Event) (ks ls : List Link) (f g : ℕ → ℕ) → (a : Seeks p upper m xs ks f) → Seeks p upper a.after ys ls g → Seeks p upper m (xs ++ ys) (ks ++ ls) (λ x. f x + g x)
seeks_both p upper m xs ys ks ls f g a b = record {
  after = b.after;
  passed = pass_both p upper m a.after b.after xs ys a.passed b.passed;
  links = b.links ∙ ap (λ l. l ++ ls) a.links ∙ append_assoc m.links ks ls;
  marks = λ x. omega (arith, a.marks x, b.marks x);
}

said : (p : Place) (upper : List ℕ) (m : Met) (events others : List Event) (xs ys : List Link) (f g : ℕ → ℕ) → events ≡ others → xs ≡ ys → ((x : ℕ) → f x ≤ g x) → Seeks p upper m events xs f → Seeks p upper m others ys g
said p upper m events others xs ys f g d e h a = record { after = a.after; passed = ap (all_judged p upper m) (sym d) ∙ a.passed; links = a.links ∙ ap (λ l. m.links ++ l) e; marks = λ x. omega (arith, a.marks x, h x) }

seeks_found : (p : Place) (upper : List ℕ) (m : Met) (l : Link) → Seeks p upper m (Found l ∷ []) (l ∷ []) (λ x. 0)
seeks_found p upper m l = record { after = with_link m l; passed = refl; links = refl; marks = λ x. omega arith }

-- the same from a later state
abbrev Later : Place → List ℕ → Met → List Event → List Link → (ℕ → ℕ) → (ℕ → ℕ) → Type 0
Later p upper m events found f g = (n : Met) → ((x : ℕ) → one_if (met_before p n x) ≤ one_if (met_before p m x) + f x) → Seeks p upper n events found g

no_events : (child later : List Event) → (child ++ []) ++ later ≡ child ++ later
no_events child later = ap (λ l. l ++ later) (append-nil child)

-- an entry by its side: what hangs below it, its key and what stands behind it
by_side : (p : Place) (upper name : List ℕ) (m : Met) (child later : List Event) (xs ys : List Link) (l : Link) (f g : ℕ → ℕ) → rises upper (xs ++ l ∷ ys) ≡ true
    → (a : Seeks p upper m child (filter (is_sought upper name) xs) f) → Later p upper m later (filter (is_sought upper name) ys) f g → (s b : Bool) → is_sought upper name l ≡ s → comes_before upper l.name name ≡ b
    → Seeks p upper m (entry_sought (side_by s b) (Some l) child ++ behind (side_by s b) later) (filter (is_sought upper name) (xs ++ l ∷ ys)) (λ x. f x + g x)
unfolding seeks_both seeks_found
by_side p upper name m child later xs ys l f g rise a b true before is low =
    let split : filter (is_sought upper name) (xs ++ l ∷ ys) ≡ filter (is_sought upper name) xs ++ l ∷ filter (is_sought upper name) ys = filter-append (is_sought upper name) xs (l ∷ ys) ∙ ap (λ s. filter (is_sought upper name) xs ++ cond s (l ∷ filter (is_sought upper name) ys) (filter (is_sought upper name) ys)) is in
    let one = seeks_both p upper m child (Found l ∷ []) (filter (is_sought upper name) xs) (l ∷ []) f (λ x. 0) a (seeks_found p upper a.after l) in
    let all = seeks_both p upper m (child ++ Found l ∷ []) later (filter (is_sought upper name) xs ++ l ∷ []) (filter (is_sought upper name) ys) (λ x. f x + 0) g one (b one.after (λ x. let k = a.marks x in omega arith)) in
    said p upper m _ _ _ _ (λ x. (f x + 0) + g x) (λ x. f x + g x) refl (append_assoc (filter (is_sought upper name) xs) (l ∷ []) (filter (is_sought upper name) ys) ∙ sym split) (λ x. omega arith) all
by_side p upper name m child later xs ys l f g rise a b false true is low =
    let split = filter-append (is_sought upper name) xs (l ∷ ys) in
    said p upper m later later _ _ g (λ x. f x + g x) refl (kept_behind upper name xs l ys split rise is low) (λ x. omega arith) (b m (λ x. omega arith))
by_side p upper name m child later xs ys l f g rise a b false false is low =
    let split = filter-append (is_sought upper name) xs (l ∷ ys) in
    said p upper m child _ _ _ f (λ x. f x + g x) (sym (append-nil (child ++ []) ∙ append-nil child)) (sym (append-nil (filter (is_sought upper name) xs)) ∙ kept_before upper name xs l ys split rise is low) (λ x. omega arith) a

by_link : (p : Place) (upper name : List ℕ) (m : Met) (child later : List Event) (xs ys : List Link) (o : Option Link) (f g : ℕ → ℕ) → rises upper (xs ++ (option_to_list o ++ ys)) ≡ true
    → (a : Seeks p upper m child (filter (is_sought upper name) xs) f) → Later p upper m later (filter (is_sought upper name) ys) f g
    → Seeks p upper m (entry_sought (side_of upper name o) o child ++ behind (side_of upper name o) later) (filter (is_sought upper name) (xs ++ (option_to_list o ++ ys))) (λ x. f x + g x)
by_link p upper name m child later xs ys None f g rise a b =
    said p upper m (child ++ later) _ _ _ (λ x. f x + g x) (λ x. f x + g x) (sym (no_events child later)) (sym (filter-append (is_sought upper name) xs ys)) (λ x. omega arith)
    (seeks_both p upper m child later (filter (is_sought upper name) xs) (filter (is_sought upper name) ys) f g a (b a.after a.marks))
by_link p upper name m child later xs ys (Some l) f g rise a b = by_side p upper name m child later xs ys l f g rise a b _ _ refl refl

-- a last entry
last_events : (upper name : List ℕ) (read : Reader) (levels v : ℕ) (down : Option ℕ) → sought_in upper name read levels v (last_entry down ∷ []) ≡ below (kid_sought upper name read levels v) down
last_events upper name read levels v down =
    let child = below (kid_sought upper name read levels v) down in
    sought_next upper name read levels v (last_entry down) []
    ∙ ap (λ o. entry_sought (side_of upper name o) o child ++ behind (side_of upper name o) (sought_in upper name read levels v [])) (last_link down)
    ∙ ap (λ l. (child ++ []) ++ l) (sought_end upper name read levels v)
    ∙ append-nil (child ++ []) ∙ append-nil child

-- a node that is read, met at its child
seeks_child : (p : Place) (upper name : List ℕ) (read : Reader) (levels v child : ℕ) (m : Met) (entries : List Raw) (found : List Link) (nodes : ℕ → ℕ) (r : Result (List Raw) ℕ) → read child ≡ r → some_entries r ≡ Some entries → is_fresh p m child ≡ true
    → Seeks p upper (with_mark p m child) (sought_in upper name read levels child entries) found nodes → Seeks p upper m (kid_sought upper name read (suc levels) v child) found (λ x. same x child + nodes x)
seeks_child p upper name read levels v child m entries found nodes (Ok others) reads is fresh a =
    let alike : others ≡ entries = cc in
    let inner : inside child (sought_in upper name read levels child) (read child) ≡ sought_in upper name read levels child entries = ap (inside child (sought_in upper name read levels child)) reads ∙ ap (sought_in upper name read levels child) alike in
    record {
      after = a.after;
      passed = rw fresh (ap (all_judged p upper (with_mark p m child)) inner ∙ a.passed);
      links = a.links;
      marks = λ x. omega (arith, a.marks x, marked p m child x fresh);
    }
seeks_child p upper name read levels v child m entries found nodes (Err rule) reads is fresh a = absurd cc

seeks_hung : (p : Place) (upper name : List ℕ) (read : Reader) → Shaped p read → (levels v child : ℕ) (t : Tree) (m : Met) → nodes_of read child ≡ Some (raws_of t) → one_if (met_before p m child) + same child child ≤ 1
    → (is_fresh p m child ≡ true → Seeks p upper (with_mark p m child) (sought_in upper name read levels child (raws_of t)) (filter (is_sought upper name) (links_of (walk t))) (λ x. held x t))
    → Seeks p upper m (kid_sought upper name read (suc levels) v child) (filter (is_sought upper name) (links_of (walk t))) (λ x. same x child + held x t)
seeks_hung p upper name read shaped levels v child t m node few below =
    let fresh = may_meet p m child (node_inside p read shaped child (raws_of t) (read child) refl node) few in
    seeks_child p upper name read levels v child m (raws_of t) _ (λ x. held x t) (read child) refl node fresh (below fresh)

pub seeks_tree : (p : Place) (upper name : List ℕ) (read : Reader) → Shaped p read → (t : Tree) (levels v : ℕ) (m : Met) → height t ≤ suc levels → Stands (nodes_of read) t → Few p m t
    → rises upper (links_of (walk t)) ≡ true → Seeks p upper m (sought_in upper name read levels v (raws_of t)) (filter (is_sought upper name) (links_of (walk t))) (λ x. held x t)
seeks_tree p upper name read shaped Leaf levels v m low stands few rise = said p upper m [] _ [] [] (λ x. 0) (λ x. 0) (sym (last_events upper name read levels v None)) refl (λ x. omega arith) (seeks_none p upper m (λ x. 0))
seeks_tree p upper name read shaped (Down child t) zero v m low stands few rise = absurd (let some = some_levels t in omega arith)
seeks_tree p upper name read shaped (Down child t) (suc levels) v m low stands few rise =
    said p upper m (kid_sought upper name read (suc levels) v child) _ _ _ (λ x. same x child + held x t) (λ x. same x child + held x t) (sym (last_events upper name read (suc levels) v (Some child))) refl (λ x. omega arith)
    (seeks_hung p upper name read shaped levels v child t m stands.0 (let f = few child in omega arith)
    (λ fresh. seeks_tree p upper name read shaped t levels child (with_mark p m child) (omega arith) stands.1 (λ x. let f = few x in let k = marked p m child x fresh in omega arith) rise))
seeks_tree p upper name read shaped (Entry key rest) levels v m low stands few rise =
    let link = entry_link (raw key None) in
    let later = links_of (walk rest) in
    let all : rises upper ([] ++ (option_to_list link ++ later)) ≡ true = ap (rises upper) (sym (key_links key None (walk rest))) ∙ rise in
    said p upper m _ _ _ _ (λ x. 0 + held x rest) (λ x. held x rest) (sym (sought_next upper name read levels v (raw key None) (raws_of rest))) (ap (filter (is_sought upper name)) (sym (key_links key None (walk rest)))) (λ x. omega arith)
    (by_link p upper name m [] (sought_in upper name read levels v (raws_of rest)) [] later link (λ x. 0) (λ x. held x rest) all (seeks_none p upper m (λ x. 0))
    (λ n h. seeks_tree p upper name read shaped rest levels v n low stands (λ x. let f = few x in let k = h x in omega arith) (rises_back upper (option_to_list link) later all)))
seeks_tree p upper name read shaped (DownEntry child t key rest) zero v m low stands few rise = absurd (let some = some_levels t in omega arith)
seeks_tree p upper name read shaped (DownEntry child t key rest) (suc levels) v m low stands few rise =
    let link = entry_link (raw key (Some child)) in
    let first = links_of (walk t) in
    let later = links_of (walk rest) in
    let whole : links_of (walk t ++ key ∷ walk rest) ≡ first ++ (option_to_list link ++ later) = filter_map-append key_link (walk t) (key ∷ walk rest) ∙ ap (λ l. first ++ l) (key_links key (Some child) (walk rest)) in
    let all : rises upper (first ++ (option_to_list link ++ later)) ≡ true = ap (rises upper) (sym whole) ∙ rise in
    let a =
    seeks_hung p upper name read shaped levels v child t m stands.0 (let f = few child in omega arith)
    (λ fresh. seeks_tree p upper name read shaped t levels child (with_mark p m child) (omega arith) stands.1 (λ x. let f = few x in let k = marked p m child x fresh in omega arith) (rises_front upper first (option_to_list link ++ later) all))
    in
    said p upper m _ _ _ _ (λ x. (same x child + held x t) + held x rest) (λ x. same x child + held x t + held x rest) (sym (sought_next upper name read (suc levels) v (raw key (Some child)) (raws_of rest))) (ap (filter (is_sought upper name)) (sym whole)) (λ x. omega arith)
    (by_link p upper name m (kid_sought upper name read (suc levels) v child) (sought_in upper name read (suc levels) v (raws_of rest)) first later link (λ x. same x child + held x t) (λ x. held x rest) all a
    (λ n h. seeks_tree p upper name read shaped rest (suc levels) v n (omega arith) stands.2 (λ x. let f = few x in let k = h x in omega arith) (rises_back upper (option_to_list link) later (rises_back upper first (option_to_list link ++ later) all))))

pub find_passes : (c : Content) (p : Place) (upper name value : List ℕ) (t : Tree) → HoldsIndex c p upper value t → find_of c p upper name value ≡ Ok (filter (is_sought upper name) (links_of (walk t)))
unfolding find_of
find_passes c p upper name value t h =
    let i = h.is_index in
    let a = seeks_tree p upper name (node_of_block c p) (block_ends c p) t 15 root_vcn (nothing_met p) i.height i.stands (λ x. let n = nothing_before p x in let o = i.once x in omega arith) i.ordered in
    ap (met_from p upper (sought_in upper name (node_of_block c p) 15 root_vcn)) h.root_read
    ∙ ap (λ es. all_judged p upper (nothing_met p) (sought_in upper name (node_of_block c p) 15 root_vcn es) >>= λ m. Ok m.links) i.root_is
    ∙ ap (λ (r : Result Met Broken). r >>= λ m. Ok m.links) a.passed
    ∙ ap (λ l. Ok l) a.links
