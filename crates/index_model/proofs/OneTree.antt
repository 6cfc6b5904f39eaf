-- Nodes and a root stand for one tree at most.
use Rattle.std.proofs.Common.{◌≡◌, ℕ, List, [], ◌∷◌, Option, Some, None, refl, sym, ap, ◌∙◌}
use Rattle.state_model.specs.record_model.declared.entry.Entry.{Entry as Raw}
use Rattle.state_model.specs.record_model.Nodes.{last_entry}
use Rattle.index_model.specs.declared.key.Key.{Key}
use Rattle.index_model.specs.Trees.{Tree, Leaf, Down, Entry, DownEntry, raw, raws_of, Stands}

first_same : (x y : Raw) (xs ys : List Raw) → x ∷ xs ≡ y ∷ ys → x ≡ y
first_same x y xs ys e = cc

rest_same : (x y : Raw) (xs ys : List Raw) → x ∷ xs ≡ y ∷ ys → xs ≡ ys
rest_same x y xs ys e = cc

pub some_entries : (t : Tree) → raws_of t ≡ [] → ⊥
some_entries Leaf e = cc
some_entries (Down v t) e = cc
some_entries (Entry key rest) e = cc
some_entries (DownEntry v t key rest) e = cc

down_of : Raw → Option ℕ
down_of r = r.down

key_of : Raw → Key
key_of r = record { child = r.child; value = r.key }

same_down : (x y : Raw) (xs ys : List Raw) → x ∷ xs ≡ y ∷ ys → x.down ≡ y.down
unfolding down_of
same_down x y xs ys e = ap down_of (first_same x y xs ys e)

same_key : (k l : Key) (d e : Option ℕ) (xs ys : List Raw) → raw k d ∷ xs ≡ raw l e ∷ ys → k ≡ l
unfolding key_of
same_key k l d e xs ys s = ap key_of (first_same (raw k d) (raw l e) xs ys s)

same_number : (v w : ℕ) → ◌≡◌ {A = Option ℕ} (Some v) (Some w) → v ≡ w
same_number v w e = cc

-- the node below is the same
same_node : (nodes : ℕ → Option (List Raw)) (v w : ℕ) (xs ys : List Raw) → v ≡ w → nodes v ≡ Some xs → nodes w ≡ Some ys → xs ≡ ys
same_node nodes v w xs ys e f g = let h : ◌≡◌ {A = Option (List Raw)} (Some xs) (Some ys) = sym f ∙ ap nodes e ∙ g in cc

pub same_tree : (nodes : ℕ → Option (List Raw)) (t s : Tree) → raws_of t ≡ raws_of s → Stands nodes t → Stands nodes s → t ≡ s
same_tree nodes Leaf Leaf e f g = refl
same_tree nodes Leaf (Down w s) e f g = absurd (let d = same_down (last_entry None) (last_entry (Some w)) [] [] e in cc)
same_tree nodes Leaf (Entry l more) e f g = absurd (some_entries more (sym (rest_same (last_entry None) (raw l None) [] (raws_of more) e)))
same_tree nodes Leaf (DownEntry w s l more) e f g = absurd (some_entries more (sym (rest_same (last_entry None) (raw l (Some w)) [] (raws_of more) e)))
same_tree nodes (Down v t) Leaf e f g = absurd (let d = same_down (last_entry (Some v)) (last_entry None) [] [] e in cc)
same_tree nodes (Down v t) (Down w s) e f g =
    let n : v ≡ w = same_number v w (same_down (last_entry (Some v)) (last_entry (Some w)) [] [] e) in
    let below : t ≡ s = same_tree nodes t s (same_node nodes v w (raws_of t) (raws_of s) n f.0 g.0) f.1 g.1 in
    cc
same_tree nodes (Down v t) (Entry l more) e f g = absurd (some_entries more (sym (rest_same (last_entry (Some v)) (raw l None) [] (raws_of more) e)))
same_tree nodes (Down v t) (DownEntry w s l more) e f g = absurd (some_entries more (sym (rest_same (last_entry (Some v)) (raw l (Some w)) [] (raws_of more) e)))
same_tree nodes (Entry k rest) Leaf e f g = absurd (some_entries rest (rest_same (raw k None) (last_entry None) (raws_of rest) [] e))
same_tree nodes (Entry k rest) (Down w s) e f g = absurd (some_entries rest (rest_same (raw k None) (last_entry (Some w)) (raws_of rest) [] e))
same_tree nodes (Entry k rest) (Entry l more) e f g =
    let key : k ≡ l = same_key k l None None (raws_of rest) (raws_of more) e in
    let later : rest ≡ more = same_tree nodes rest more (rest_same (raw k None) (raw l None) (raws_of rest) (raws_of more) e) f g in
    cc
same_tree nodes (Entry k rest) (DownEntry w s l more) e f g = absurd (let d = same_down (raw k None) (raw l (Some w)) (raws_of rest) (raws_of more) e in cc)
same_tree nodes (DownEntry v t k rest) Leaf e f g = absurd (some_entries rest (rest_same (raw k (Some v)) (last_entry None) (raws_of rest) [] e))
same_tree nodes (DownEntry v t k rest) (Down w s) e f g = absurd (some_entries rest (rest_same (raw k (Some v)) (last_entry (Some w)) (raws_of rest) [] e))
same_tree nodes (DownEntry v t k rest) (Entry l more) e f g = absurd (let d = same_down (raw k (Some v)) (raw l None) (raws_of rest) (raws_of more) e in cc)
same_tree nodes (DownEntry v t k rest) (DownEntry w s l more) e f g =
    let n : v ≡ w = same_number v w (same_down (raw k (Some v)) (raw l (Some w)) (raws_of rest) (raws_of more) e) in
    let key : k ≡ l = same_key k l (Some v) (Some w) (raws_of rest) (raws_of more) e in
    let below : t ≡ s = same_tree nodes t s (same_node nodes v w (raws_of t) (raws_of s) n f.0 g.0) f.1 g.1 in
    let later : rest ≡ more = same_tree nodes rest more (rest_same (raw k (Some v)) (raw l (Some w)) (raws_of rest) (raws_of more) e) f.2 g.2 in
    cc
