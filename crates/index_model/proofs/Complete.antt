-- A walk over an index passes.
use Rattle.std.proofs.Common.{◌≡◌, ℕ, zero, suc, ◌+◌, ◌≤◌, true, List, [], ◌∷◌, ◌++◌, Option, Some, None, Result, Ok, Err, refl, sym, ap, ◌∙◌, arith}
use Rattle.std.specs.List.{cons_option}
use Rattle.std.specs.Prelude.{option_to_list, is_some}
use Rattle.std.proofs.lemmas.List.{append-nil, append_assoc}
use Rattle.std.proofs.lemmas.List.Elements.{filter_map-append}
use Rattle.state_model.specs.record_model.declared.entry.Entry.{Entry as Raw}
use Rattle.state_model.specs.record_model.Nodes.{last_entry}
use Rattle.state_model.specs.file_tree.declared.link.Link.{Link}
use Rattle.index_model.specs.declared.key.Key.{Key}
use Rattle.index_model.specs.Trees.{Tree, Leaf, Down, Entry, DownEntry, walk, one_if, same, held, levels as height, raw, raws_of, Stands}
use Rattle.index_model.specs.Indexes.{Place, node_block, some_entries, nodes_of, entry_link, key_link, links_of, rises}
use Rattle.index_model.specs.Walks.{Event, Met, all_judged, is_fresh, with_mark, with_link, below, inside, named_event, entry_met, kid_met, met_in}
use Rattle.index_model.proofs.Orders.{rises_next}
use Rattle.index_model.proofs.Marks.{met_before, marked, may_meet}
use Rattle.index_model.proofs.Shapes.{Shaped, last_link}
use Rattle.index_model.proofs.Steps.{pass_both, met_in_next, met_in_end}

-- these events are passed, with these links and nodes
pub record Passes (p : Place) (upper : List ℕ) (m : Met) (events : List Event) (keys : List Link) (nodes : ℕ → ℕ) : Type 0 where
  pub after : Met
  pub passed : all_judged p upper m events ≡ Ok after
  pub links : after.links ≡ m.links ++ keys
  pub marks : (x : ℕ) → one_if (met_before p after x) ≡ one_if (met_before p m x) + nodes x

passes_none : (p : Place) (upper : List ℕ) (m : Met) → Passes p upper m [] [] (λ x. 0)
passes_none p upper m = record { after = m; passed = refl; links = sym (append-nil m.links); marks = λ x. omega arith }

passes_both : (p : Place) (upper : List ℕ) (m : Met) (xs ys : List Event) (ks ls : List Link) (f g : ℕ → ℕ) → (a : Passes p upper m xs ks f) → Passes p upper a.after ys ls g → Passes p upper m (xs ++ ys) (ks ++ ls) (λ x. f x + g x)
passes_both p upper m xs ys ks ls f g a b = record {
  after = b.after;
  passed = pass_both p upper m a.after b.after xs ys a.passed b.passed;
  links = b.links ∙ ap (λ l. l ++ ls) a.links ∙ append_assoc m.links ks ls;
  marks = λ x. omega (arith, a.marks x, b.marks x);
}

said : (p : Place) (upper : List ℕ) (m : Met) (events others : List Event) (xs ys : List Link) (f g : ℕ → ℕ) → events ≡ others → xs ≡ ys → ((x : ℕ) → f x ≡ g x) → Passes p upper m events xs f → Passes p upper m others ys g
said p upper m events others xs ys f g d e h a = record { after = a.after; passed = ap (all_judged p upper m) (sym d) ∙ a.passed; links = a.links ∙ ap (λ l. m.links ++ l) e; marks = λ x. omega (arith, a.marks x, h x) }

passes_named : (p : Place) (upper : List ℕ) (v : ℕ) (m : Met) (link : Option Link) (behind : List Link) → rises upper (m.links ++ (option_to_list link ++ behind)) ≡ true → Passes p upper m (named_event v link) (option_to_list link) (λ x. 0)
passes_named p upper v m None behind h = passes_none p upper m
passes_named p upper v m (Some l) behind h = record {
  after = with_link m l;
  passed = rw (rises_next upper m.links l behind h) refl;
  links = refl;
  marks = λ x. omega arith;
}

-- a node that is read, met at its child
passes_child : (p : Place) (upper : List ℕ) (read : ℕ → Result (List Raw) ℕ) (levels v child : ℕ) (m : Met) (entries : List Raw) (keys : List Link) (nodes : ℕ → ℕ) (r : Result (List Raw) ℕ) → read child ≡ r → some_entries r ≡ Some entries → is_fresh p m child ≡ true
    → Passes p upper (with_mark p m child) (met_in read levels child entries) keys nodes → Passes p upper m (kid_met read (suc levels) v child) keys (λ x. same x child + nodes x)
passes_child p upper read levels v child m entries keys nodes (Ok others) reads is fresh a =
    let alike : others ≡ entries = cc in
    let inner : inside child (met_in read levels child) (read child) ≡ met_in read levels child entries = ap (inside child (met_in read levels child)) reads ∙ ap (met_in read levels child) alike in
    record {
      after = a.after;
      passed = rw fresh (ap (all_judged p upper (with_mark p m child)) inner ∙ a.passed);
      links = a.links;
      marks = λ x. omega (arith, a.marks x, marked p m child x fresh);
    }
passes_child p upper read levels v child m entries keys nodes (Err rule) reads is fresh a = absurd cc

-- what lies in a node is inside the allocation
pub node_inside : (p : Place) (read : ℕ → Result (List Raw) ℕ) → Shaped p read → (child : ℕ) (entries : List Raw) (r : Result (List Raw) ℕ) → read child ≡ r → some_entries r ≡ Some entries → is_some (node_block p child) ≡ true
node_inside p read shaped child entries (Ok others) reads is = (shaped child others reads).1
node_inside p read shaped child entries (Err rule) reads is = absurd cc

cons_is : (o : Option Link) (l : List Link) → option_to_list o ++ l ≡ cons_option o l
cons_is None l = refl
cons_is (Some x) l = refl

raw_link : (k : Key) (down : Option ℕ) → entry_link (raw k down) ≡ key_link k
unfolding entry_link key_link
raw_link k down = refl

pub key_links : (k : Key) (down : Option ℕ) (keys : List Key) → links_of (k ∷ keys) ≡ option_to_list (entry_link (raw k down)) ++ links_of keys
key_links k down keys = ap (λ o. cons_option o (links_of keys)) (sym (raw_link k down)) ∙ sym (cons_is (entry_link (raw k down)) (links_of keys))

-- a last entry
last_events : (read : ℕ → Result (List Raw) ℕ) (levels v : ℕ) (down : Option ℕ) → met_in read levels v (last_entry down ∷ []) ≡ below (kid_met read levels v) down
last_events read levels v down =
    met_in_next read levels v (last_entry down) []
    ∙ ap (λ o. (below (kid_met read levels v) down ++ named_event v o) ++ met_in read levels v []) (last_link down)
    ∙ ap (λ l. (below (kid_met read levels v) down ++ []) ++ l) (met_in_end read levels v)
    ∙ append-nil (below (kid_met read levels v) down ++ []) ∙ append-nil (below (kid_met read levels v) down)

abbrev pub Few : Place → Met → Tree → Type 0
Few p m t = (x : ℕ) → one_if (met_before p m x) + held x t ≤ 1

pub some_levels : (t : Tree) → 1 ≤ height t
some_levels Leaf = omega arith
some_levels (Down v t) = omega arith
some_levels (Entry key rest) = some_levels rest
some_levels (DownEntry v t key rest) = let a = some_levels rest in omega arith

-- an entry before the last one, piece by piece
passes_entry : (p : Place) (upper : List ℕ) (read : ℕ → Result (List Raw) ℕ) (levels v : ℕ) (key : Key) (down : Option ℕ) (entries : List Raw) (keys : List Key) (m : Met) (ks : List Link) (f g : ℕ → ℕ)
    → (a : Passes p upper m (below (kid_met read levels v) down) ks f) → (b : Passes p upper a.after (named_event v (entry_link (raw key down))) (option_to_list (entry_link (raw key down))) (λ x. 0)) → Passes p upper b.after (met_in read levels v entries) (links_of keys) g
    → Passes p upper m (met_in read levels v (raw key down ∷ entries)) (ks ++ links_of (key ∷ keys)) (λ x. f x + g x)
unfolding passes_both
passes_entry p upper read levels v key down entries keys m ks f g a b c =
    let link = option_to_list (entry_link (raw key down)) in
    let one = passes_both p upper m (below (kid_met read levels v) down) (named_event v (entry_link (raw key down))) ks link f (λ x. 0) a b in
    let all = passes_both p upper m (entry_met (kid_met read levels v) v (raw key down)) (met_in read levels v entries) (ks ++ link) (links_of keys) (λ x. f x + 0) g one c in
    said p upper m _ (met_in read levels v (raw key down ∷ entries)) _ (ks ++ links_of (key ∷ keys)) (λ x. (f x + 0) + g x) (λ x. f x + g x) (sym (met_in_next read levels v (raw key down) entries))
    (append_assoc ks link (links_of keys) ∙ ap (λ l. ks ++ l) (sym (key_links key down keys))) (λ x. omega arith) all

-- where the pieces of a list rise
piece_one : (upper : List ℕ) (m a o r behind : List Link) → rises upper (m ++ ((a ++ (o ++ r)) ++ behind)) ≡ true → rises upper (m ++ (a ++ ((o ++ r) ++ behind))) ≡ true
piece_one upper m a o r behind h = ap (λ l. rises upper (m ++ l)) (sym (append_assoc a (o ++ r) behind)) ∙ h

piece_two : (upper : List ℕ) (m a o r behind : List Link) → rises upper (m ++ ((a ++ (o ++ r)) ++ behind)) ≡ true → rises upper ((m ++ a) ++ (o ++ (r ++ behind))) ≡ true
piece_two upper m a o r behind h =
    ap (rises upper) (append_assoc m a (o ++ (r ++ behind)) ∙ ap (λ l. m ++ (a ++ l)) (sym (append_assoc o r behind))) ∙ piece_one upper m a o r behind h

piece_three : (upper : List ℕ) (m a o r behind : List Link) → rises upper (m ++ ((a ++ (o ++ r)) ++ behind)) ≡ true → rises upper (((m ++ a) ++ o) ++ (r ++ behind)) ≡ true
piece_three upper m a o r behind h = ap (rises upper) (append_assoc (m ++ a) o (r ++ behind)) ∙ piece_two upper m a o r behind h

moved : (upper : List ℕ) (xs ys behind : List Link) → xs ≡ ys → rises upper (ys ++ behind) ≡ true → rises upper (xs ++ behind) ≡ true
moved upper xs ys behind e h = ap (λ l. rises upper (l ++ behind)) e ∙ h

-- the child of an entry, whose tree is passed from its mark on
passes_hung : (p : Place) (upper : List ℕ) (read : ℕ → Result (List Raw) ℕ) → Shaped p read → (levels v child : ℕ) (t : Tree) (m : Met) → nodes_of read child ≡ Some (raws_of t) → one_if (met_before p m child) + same child child ≤ 1
    → (is_fresh p m child ≡ true → Passes p upper (with_mark p m child) (met_in read levels child (raws_of t)) (links_of (walk t)) (λ x. held x t)) → Passes p upper m (kid_met read (suc levels) v child) (links_of (walk t)) (λ x. same x child + held x t)
passes_hung p upper read shaped levels v child t m node few below =
    let fresh = may_meet p m child (node_inside p read shaped child (raws_of t) (read child) refl node) few in
    passes_child p upper read levels v child m (raws_of t) (links_of (walk t)) (λ x. held x t) (read child) refl node fresh (below fresh)

pub passes_tree : (p : Place) (upper : List ℕ) (read : ℕ → Result (List Raw) ℕ) → Shaped p read → (t : Tree) (levels v : ℕ) (m : Met) (behind : List Link) → height t ≤ suc levels → Stands (nodes_of read) t → Few p m t
    → rises upper (m.links ++ (links_of (walk t) ++ behind)) ≡ true → Passes p upper m (met_in read levels v (raws_of t)) (links_of (walk t)) (λ x. held x t)
unfolding passes_none
passes_tree p upper read shaped Leaf levels v m behind low stands few rise = said p upper m [] _ [] [] (λ x. 0) (λ x. 0) (sym (last_events read levels v None)) refl (λ x. refl) (passes_none p upper m)
passes_tree p upper read shaped (Down child t) zero v m behind low stands few rise = absurd (let some = some_levels t in omega arith)
passes_tree p upper read shaped (Down child t) (suc levels) v m behind low stands few rise =
    said p upper m (kid_met read (suc levels) v child) _ _ _ (λ x. same x child + held x t) (λ x. same x child + held x t) (sym (last_events read (suc levels) v (Some child))) refl (λ x. refl)
    (passes_hung p upper read shaped levels v child t m stands.0 (let f = few child in omega arith)
    (λ fresh. passes_tree p upper read shaped t levels child (with_mark p m child) behind (omega arith) stands.1 (λ x. let f = few x in let k = marked p m child x fresh in omega arith) rise))
passes_tree p upper read shaped (Entry key rest) levels v m behind low stands few rise =
    let link = option_to_list (entry_link (raw key None)) in
    let later = links_of (walk rest) in
    let all : rises upper (m.links ++ ((link ++ later) ++ behind)) ≡ true = ap (λ l. rises upper (m.links ++ (l ++ behind))) (sym (key_links key None (walk rest))) ∙ rise in
    let b = passes_named p upper v m (entry_link (raw key None)) (later ++ behind) (ap (λ l. rises upper (m.links ++ l)) (sym (append_assoc link later behind)) ∙ all) in
    let c =
    passes_tree p upper read shaped rest levels v b.after behind low stands (λ x. let f = few x in let k = b.marks x in omega arith)
    (moved upper b.after.links (m.links ++ link) (later ++ behind) b.links (ap (rises upper) (append_assoc m.links link (later ++ behind) ∙ ap (λ l. m.links ++ l) (sym (append_assoc link later behind))) ∙ all))
    in
    said p upper m _ _ _ _ (λ x. 0 + held x rest) (λ x. held x rest) refl refl (λ x. omega arith) (passes_entry p upper read levels v key None (raws_of rest) (walk rest) m [] (λ x. 0) (λ x. held x rest) (passes_none p upper m) b c)
passes_tree p upper read shaped (DownEntry child t key rest) zero v m behind low stands few rise = absurd (let some = some_levels t in omega arith)
passes_tree p upper read shaped (DownEntry child t key rest) (suc levels) v m behind low stands few rise =
    let link = option_to_list (entry_link (raw key (Some child))) in
    let first = links_of (walk t) in
    let later = links_of (walk rest) in
    let whole : links_of (walk t ++ key ∷ walk rest) ≡ first ++ (link ++ later) = filter_map-append key_link (walk t) (key ∷ walk rest) ∙ ap (λ l. first ++ l) (key_links key (Some child) (walk rest)) in
    let all : rises upper (m.links ++ ((first ++ (link ++ later)) ++ behind)) ≡ true = ap (λ l. rises upper (m.links ++ (l ++ behind))) (sym whole) ∙ rise in
    let a =
    passes_hung p upper read shaped levels v child t m stands.0 (let f = few child in omega arith)
    (λ fresh. passes_tree p upper read shaped t levels child (with_mark p m child) ((link ++ later) ++ behind) (omega arith) stands.1 (λ x. let f = few x in let k = marked p m child x fresh in omega arith) (piece_one upper m.links first link later behind all))
    in
    let b = passes_named p upper v a.after (entry_link (raw key (Some child))) (later ++ behind) (moved upper a.after.links (m.links ++ first) (link ++ (later ++ behind)) a.links (piece_two upper m.links first link later behind all)) in
    let c =
    passes_tree p upper read shaped rest (suc levels) v b.after behind (omega arith) stands.2 (λ x. let f = few x in let k = a.marks x in let j = b.marks x in omega arith)
    (moved upper b.after.links ((m.links ++ first) ++ link) (later ++ behind) (b.links ∙ ap (λ l. l ++ link) a.links) (piece_three upper m.links first link later behind all))
    in
    said p upper m _ _ _ _ (λ x. (same x child + held x t) + held x rest) (λ x. same x child + held x t + held x rest) refl (sym (filter_map-append key_link (walk t) (key ∷ walk rest))) (λ x. refl)
    (passes_entry p upper read (suc levels) v key (Some child) (raws_of rest) (walk rest) m first (λ x. same x child + held x t) (λ x. held x rest) a b c)
