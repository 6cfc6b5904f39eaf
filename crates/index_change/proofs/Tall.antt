-- The levels that are counted are those of the tree.
use Rattle.std.proofs.Common.{◌≡◌, ℕ, zero, suc, ◌≤◌, List, Some, Result, Ok, sym, ap, ◌∙◌, arith}
use Rattle.record_model.specs.disk_model.Content.{Content}
use Rattle.record_model.specs.declared.entry.Entry.{Entry as Raw}
use Rattle.record_model.specs.Nodes.{root_at}
use Rattle.index_tree.specs.index_model.Trees.{Tree, Leaf, Down, Entry, DownEntry, levels, raws_of, Stands}
use Rattle.index_tree.specs.index_model.Indexes.{Place, node_of_block, nodes_of}
use Rattle.index_tree.specs.index_model.Laws.{HoldsIndex}
use Rattle.index_tree.proofs.index_model.Complete.{some_levels}
use Rattle.index_change.specs.Heights.{tallest, if_read, height_below, height_of}
use Rattle.index_change.proofs.Lawful.{some_read}

abbrev Read : Type 0
Read = ℕ → Result (List Raw) ℕ

tall_below : (read : Read) (n v : ℕ) (t : Tree) → tallest (height_below read n) (raws_of t) ≡ levels t → nodes_of read v ≡ Some (raws_of t) → height_below read (suc n) (Some v) ≡ levels t
tall_below read n v t is node = ap (if_read (tallest (height_below read n))) (some_read (read v) (raws_of t) node) ∙ is

pub tall : (read : Read) (n : ℕ) (t : Tree) → levels t ≤ suc n → Stands (nodes_of read) t → tallest (height_below read n) (raws_of t) ≡ levels t
tall read n Leaf low st = omega arith
tall read zero (Down v t) low st = let s = some_levels t in absurd (omega arith)
tall read (suc n) (Down v t) low st = let b = tall_below read n v t (tall read n t (omega arith) st.1) st.0 in omega (arith, b)
tall read n (Entry key rest) low st = let r = tall read n rest low st in let s = some_levels rest in omega (arith, r, s)
tall read zero (DownEntry v t key rest) low st = let s = some_levels t in absurd (omega arith)
tall read (suc n) (DownEntry v t key rest) low st =
    let b = tall_below read n v t (tall read n t (omega arith) st.1) st.0 in
    let r = tall read (suc n) rest (omega arith) st.2 in
    omega (arith, b, r)

ok_same : (r : Result (List Raw) ℕ) (x y : List Raw) → r ≡ Ok x → r ≡ Ok y → x ≡ y
ok_same r x y e f = let g : ◌≡◌ {A = Result (List Raw) ℕ} (Ok x) (Ok y) = sym e ∙ f in cc

pub root_raws : (c : Content) (p : Place) (upper value : List ℕ) (root : List Raw) (t : Tree) → root_at value ≡ Ok root → HoldsIndex c p upper value t → root ≡ raws_of t
root_raws c p upper value root t e h = ok_same (root_at value) root h.entries e h.root_read ∙ h.is_index.root_is

pub index_height : (c : Content) (p : Place) (upper value : List ℕ) (root : List Raw) (t : Tree) → root_at value ≡ Ok root → HoldsIndex c p upper value t → height_of (node_of_block c p) root ≡ levels t
index_height c p upper value root t e h =
    ap (height_of (node_of_block c p)) (root_raws c p upper value root t e h) ∙ tall (node_of_block c p) 15 t h.is_index.height h.is_index.stands
