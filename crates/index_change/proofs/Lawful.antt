-- The keys of an index that a content holds are file-name values.
use Rattle.std.proofs.Common.{◌≡◌, ℕ, Bool, true, false, List, [], ◌∷◌, ◌++◌, Option, Some, None, Result, Ok, Err, refl, ap, subst}
use Rattle.std.specs.Prelude.{◌==◌, if◌then◌else◌}
use Rattle.std.specs.List.{AllByRecursion}
use Rattle.index_tree.specs.host_base.Answers.{◌>>=◌, needs}
use Rattle.record_model.specs.disk_model.declared.block.Block.{Block}
use Rattle.record_model.specs.disk_model.Numbers.{field}
use Rattle.record_model.specs.disk_model.Bodies.{BodyOf}
use Rattle.record_model.specs.disk_model.Content.{Content}
use Rattle.record_model.specs.declared.entry.Entry.{Entry as Raw}
use Rattle.record_model.specs.StdValues.{file_name_of, file_name_fields, file_name_fault}
use Rattle.record_model.specs.Values.{is_file_name, units_of}
use Rattle.record_model.specs.Nodes.{Node, node_at, root_at, SpellEntries}
use Rattle.record_model.proofs.NodeTables.{node_from_ok, root_from_ok}
use Rattle.index_tree.specs.index_model.declared.key.Key.{Key}
use Rattle.index_tree.specs.index_model.Trees.{Tree, Leaf, Down, Entry, DownEntry, walk, raw, raws_of, Stands}
use Rattle.index_tree.specs.index_model.Indexes.{Place, node_block, entries_of_node, is_index_body, node_of_body, node_of_part, node_of_block, nodes_of, some_entries, key_link}
use Rattle.index_tree.specs.state_model.Files.{named}
use Rattle.index_tree.specs.index_model.Laws.{HoldsIndex}
use Rattle.index_change.specs.Orders.{link_of}

-- each entry before the last has a file-name value as key
abbrev pub Lawful : List Raw → Type 0
Lawful [] = Unit {0}
Lawful (e ∷ []) = Unit {0}
Lawful (e ∷ f ∷ entries) = (is_file_name e.key ≡ true) × Lawful (f ∷ entries)

lawful_spelled : (spellings : List (List ℕ)) (entries : List Raw) → SpellEntries spellings entries → Lawful entries
lawful_spelled [] entries h = absurd h
lawful_spelled (s ∷ spellings) [] h = absurd h
lawful_spelled (s ∷ []) (e ∷ []) h = tt
lawful_spelled (s ∷ []) (e ∷ f ∷ entries) h = absurd h
lawful_spelled (s ∷ t ∷ spellings) (e ∷ []) h = absurd h
lawful_spelled (s ∷ t ∷ spellings) (e ∷ f ∷ entries) h = (h.0.lawful, lawful_spelled (t ∷ spellings) (f ∷ entries) h.1)

pub root_lawful : (value : List ℕ) (entries : List Raw) → root_at value ≡ Ok entries → Lawful entries
root_lawful value entries e = let h = root_from_ok value entries e in lawful_spelled h.holds.spellings entries h.holds.spelled

needs_ok : {A : Type 0} (b : Bool) (rule : ℕ) (r : Result A ℕ) (y : A) → (needs b rule >>= λ _. r) ≡ Ok y → r ≡ Ok y
needs_ok true rule r y h = h
needs_ok false rule r y h = absurd cc

entries_lawful : (body : List ℕ) (r : Result Node ℕ) (entries : List Raw) → node_at body ≡ r → entries_of_node r ≡ Ok entries → Lawful entries
entries_lawful body (Ok n) entries is e = let h = node_from_ok body n is in let same : n.entries ≡ entries = cc in subst Lawful same (lawful_spelled h.holds.spellings n.entries h.holds.spelled)
entries_lawful body (Err rule) entries is e = absurd cc

body_lawful : (v : ℕ) (b : BodyOf) (entries : List Raw) → node_of_body v b ≡ Ok entries → Lawful entries
unfolding node_of_body
body_lawful v b entries e =
    entries_lawful b.bytes (node_at b.bytes) entries refl
    (needs_ok (field 0x10 8 b.bytes == v) 2 (entries_of_node (node_at b.bytes)) entries (needs_ok (is_index_body b) 1 (needs (field 0x10 8 b.bytes == v) 2 >>= λ _. entries_of_node (node_at b.bytes)) entries e))

part_lawful : (c : Content) (v : ℕ) (o : Option Block) (entries : List Raw) → node_of_part c v o ≡ Ok entries → Lawful entries
part_lawful c v None entries e = absurd cc
part_lawful c v (Some b) entries e = body_lawful v (c b) entries e

-- nodes that are read are lawful
abbrev pub ReadsLawful : (ℕ → Result (List Raw) ℕ) → Type 0
ReadsLawful read = (v : ℕ) (entries : List Raw) → read v ≡ Ok entries → Lawful entries

pub block_lawful : (c : Content) (p : Place) → ReadsLawful (node_of_block c p)
unfolding node_of_block
block_lawful c p v entries e = part_lawful c v (node_block p v) entries e

pub some_read : (r : Result (List Raw) ℕ) (entries : List Raw) → some_entries r ≡ Some entries → r ≡ Ok entries
some_read (Ok x) entries e = cc
some_read (Err rule) entries e = absurd cc

-- ---- keys

abbrev pub AreNames : List Key → Type 0
AreNames keys = AllByRecursion (λ (k : Key). is_file_name k.value ≡ true) keys

more : (t : Tree) (e : Raw) → Lawful (e ∷ raws_of t) → (is_file_name e.key ≡ true) × Lawful (raws_of t)
more Leaf e h = h
more (Down v t) e h = h
more (Entry key rest) e h = h
more (DownEntry v t key rest) e h = h

names_both : (xs : List Key) (k : Key) (ys : List Key) → AreNames xs → is_file_name k.value ≡ true → AreNames ys → AreNames (xs ++ k ∷ ys)
names_both [] k ys a b d = (b, d)
names_both (x ∷ xs) k ys a b d = (a.0, names_both xs k ys a.1 b d)

tree_names : (read : ℕ → Result (List Raw) ℕ) → ReadsLawful read → (t : Tree) → Lawful (raws_of t) → Stands (nodes_of read) t → AreNames (walk t)
tree_names read each Leaf front st = tt
tree_names read each (Down v t) front st = tree_names read each t (each v (raws_of t) (some_read (read v) (raws_of t) st.0)) st.1
tree_names read each (Entry key rest) front st = let m = more rest (raw key None) front in (m.0, tree_names read each rest m.1 st)
tree_names read each (DownEntry v t key rest) front st =
    let m = more rest (raw key (Some v)) front in
    names_both (walk t) key (walk rest) (tree_names read each t (each v (raws_of t) (some_read (read v) (raws_of t) st.0)) st.1) m.0 (tree_names read each rest m.1 st.2)

-- the keys of an index are names
pub index_names : (c : Content) (p : Place) (upper value : List ℕ) (t : Tree) → HoldsIndex c p upper value t → AreNames (walk t)
index_names c p upper value t h = tree_names (node_of_block c p) (block_lawful c p) t (subst Lawful h.is_index.root_is (root_lawful value h.entries h.root_read)) h.is_index.stands

-- ---- links

pub link_name : (k : Key) → (link_of k).name ≡ units_of k.value
unfolding link_of
link_name k = refl

pub link_child : (k : Key) → (link_of k).child ≡ k.child
unfolding link_of
link_child k = refl

-- a key that is a name has its link
pub key_link_is : (k : Key) → is_file_name k.value ≡ true → key_link k ≡ Some (link_of k)
unfolding key_link file_name_of link_of file_name_fields
key_link_is k e = ap (λ (b : Bool). named k.child (if b then Ok (file_name_fields k.value) else Err (file_name_fault k.value))) e
