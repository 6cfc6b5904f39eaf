-- The keys that are counted are those of the tree, and the blocks that are met are its nodes.
use Rattle.std.proofs.Common.{◌≡◌, ℕ, zero, suc, ◌≤◌, List, ◌∷◌, ◌++◌, length, length-append, append-nil, Some, Result, Ok, refl, ap, ◌∙◌, arith}
use Rattle.record_model.specs.disk_model.Content.{Content}
use Rattle.record_model.specs.declared.entry.Entry.{Entry as Raw}
use Rattle.record_model.specs.Nodes.{root_at}
use Rattle.index_tree.specs.index_model.Trees.{Tree, Leaf, Down, Entry, DownEntry, walk, levels, raws_of, Stands}
use Rattle.index_tree.specs.index_model.Indexes.{Place, node_of_block, nodes_of}
use Rattle.index_tree.specs.index_model.Laws.{HoldsIndex}
use Rattle.index_tree.proofs.index_model.Complete.{some_levels}
use Rattle.index_plan.specs.Removal.{vcns}
use Rattle.index_change.specs.Heights.{if_read}
use Rattle.index_change.specs.Amounts.{key_before, keys_in, keys_below, keys_of, blocks_in, block_and, blocks_below, blocks_of}
use Rattle.index_change.proofs.Lawful.{some_read}
use Rattle.index_change.proofs.Tall.{root_raws}

abbrev Read : Type 0
Read = ℕ → Result (List Raw) ℕ

key_first : (t : Tree) → key_before (raws_of t) ≡ 1
key_first Leaf = refl
key_first (Down v t) = refl
key_first (Entry key rest) = refl
key_first (DownEntry v t key rest) = refl

kid_keys : (read : Read) (n v : ℕ) (t : Tree) → keys_in (keys_below read n) (raws_of t) ≡ length (walk t) → nodes_of read v ≡ Some (raws_of t) → keys_below read (suc n) (Some v) ≡ length (walk t)
kid_keys read n v t is node = ap (if_read (keys_in (keys_below read n))) (some_read (read v) (raws_of t) node) ∙ is

pub tree_keys : (read : Read) (n : ℕ) (t : Tree) → levels t ≤ suc n → Stands (nodes_of read) t → keys_in (keys_below read n) (raws_of t) ≡ length (walk t)
tree_keys read n Leaf low st = omega arith
tree_keys read zero (Down v t) low st = let s = some_levels t in absurd (omega arith)
tree_keys read (suc n) (Down v t) low st = let b = kid_keys read n v t (tree_keys read n t (omega arith) st.1) st.0 in omega (arith, b)
tree_keys read n (Entry key rest) low st = let r = tree_keys read n rest low st in let f = key_first rest in omega (arith, r, f)
tree_keys read zero (DownEntry v t key rest) low st = let s = some_levels t in absurd (omega arith)
tree_keys read (suc n) (DownEntry v t key rest) low st =
    let b = kid_keys read n v t (tree_keys read n t (omega arith) st.1) st.0 in
    let r = tree_keys read (suc n) rest (omega arith) st.2 in
    let f = key_first rest in
    omega (arith, b, r, f, length-append (walk t) (key ∷ walk rest))

kid_blocks : (read : Read) (n v : ℕ) (t : Tree) → blocks_in (blocks_below read n) (raws_of t) ≡ vcns t → nodes_of read v ≡ Some (raws_of t) → blocks_below read (suc n) (Some v) ≡ v ∷ vcns t
kid_blocks read n v t is node = ap (block_and v (blocks_in (blocks_below read n))) (some_read (read v) (raws_of t) node) ∙ ap (λ (l : List ℕ). v ∷ l) is

pub tree_blocks : (read : Read) (n : ℕ) (t : Tree) → levels t ≤ suc n → Stands (nodes_of read) t → blocks_in (blocks_below read n) (raws_of t) ≡ vcns t
tree_blocks read n Leaf low st = refl
tree_blocks read zero (Down v t) low st = let s = some_levels t in absurd (omega arith)
tree_blocks read (suc n) (Down v t) low st = append-nil (blocks_below read (suc n) (Some v)) ∙ kid_blocks read n v t (tree_blocks read n t (omega arith) st.1) st.0
tree_blocks read n (Entry key rest) low st = tree_blocks read n rest low st
tree_blocks read zero (DownEntry v t key rest) low st = let s = some_levels t in absurd (omega arith)
tree_blocks read (suc n) (DownEntry v t key rest) low st =
    ap (λ (l : List ℕ). l ++ blocks_in (blocks_below read (suc n)) (raws_of rest)) (kid_blocks read n v t (tree_blocks read n t (omega arith) st.1) st.0)
    ∙ ap (λ (l : List ℕ). v ∷ (vcns t ++ l)) (tree_blocks read (suc n) rest (omega arith) st.2)

pub index_keys : (c : Content) (p : Place) (upper value : List ℕ) (root : List Raw) (t : Tree) → root_at value ≡ Ok root → HoldsIndex c p upper value t → keys_of (node_of_block c p) root ≡ length (walk t)
index_keys c p upper value root t e h =
    ap (keys_of (node_of_block c p)) (root_raws c p upper value root t e h) ∙ tree_keys (node_of_block c p) 15 t h.is_index.height h.is_index.stands

pub index_blocks : (c : Content) (p : Place) (upper value : List ℕ) (root : List Raw) (t : Tree) → root_at value ≡ Ok root → HoldsIndex c p upper value t → blocks_of (node_of_block c p) root ≡ vcns t
index_blocks c p upper value root t e h =
    ap (blocks_of (node_of_block c p)) (root_raws c p upper value root t e h) ∙ tree_blocks (node_of_block c p) 15 t h.is_index.height h.is_index.stands
