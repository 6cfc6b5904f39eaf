-- The way that is read is the way in the tree.
use Rattle.std.proofs.Common.{◌≡◌, ℕ, zero, suc, ◌≤◌, ◌<◌, length, Bool, true, false, List, [], ◌∷◌, ◌++◌, Option, Some, None, Result, Ok, Err, refl, sym, ap, ◌∙◌, subst, arith, if◌then◌else◌}
use Rattle.std.proofs.lemmas.List.{append-nil, append_assoc}
use Rattle.index_model.specs.declared.key.Key.{Key}
use Rattle.record_model.specs.declared.entry.Entry.{Entry as Raw}
use Rattle.index_model.specs.Trees.{Tree, Leaf, Down, Entry, DownEntry, raw, raws_of, levels, Stands}
use Rattle.index_model.specs.Walks.{Broken, root_vcn}
use Rattle.index_plan.specs.Paths.{Path, Here, Below, Behind}
use Rattle.index_plan.specs.Search.{path_to}
use Rattle.index_plan.specs.Plans.{Spot}
use Rattle.index_plan.specs.Lists.{own_key, entry_at, place, way}
use Rattle.std.specs.Prelude.{IfSome}
use Rattle.index_model.specs.host_base.Answers.{◌>>=◌, ExplainsOrFails}
use Rattle.index_model.proofs.host_base.Known.{one, both}
use Rattle.index_plan.specs.declared.fault.PlanFault.{PlanFault}
use Rattle.index_plan.specs.Faults.{way_cause}
use Rattle.index_plan.specs.Reading.{NodeReads, node_of, nodes_of, read_by, too_low, stop_at, first_stop, stop_down, way_down, way_of, with_front}
use Rattle.index_plan.proofs.Growing.{level_one, some_is}
use Rattle.index_plan.proofs.Steps.{ends}

stop_cons : (here : Bool) (later : ℕ) (rest : Tree) → stop_at (raws_of rest) here later ≡ (if here then 0 else suc later)
stop_cons here later Leaf = refl
stop_cons here later (Down v t) = refl
stop_cons here later (Entry key rest) = refl
stop_cons here later (DownEntry v t key rest) = refl

place_behind : (b : Bool) (p q : Path) (n : ℕ) → n ≡ place q → place p ≡ 0 → (if b then 0 else suc n) ≡ place (if b then p else Behind q)
place_behind true p q n e z = sym z
place_behind false p q n e z = ap suc e

pub first_place : (goes : Key → Bool) (t : Tree) → first_stop goes (raws_of t) ≡ place (path_to goes t)
first_place goes Leaf = refl
first_place goes (Down v t) = refl
first_place goes (Entry key rest) = stop_cons (goes key) (first_stop goes (raws_of rest)) rest ∙ place_behind (goes key) Here (path_to goes rest) (first_stop goes (raws_of rest)) (first_place goes rest) refl
first_place goes (DownEntry v t key rest) = stop_cons (goes key) (first_stop goes (raws_of rest)) rest ∙ place_behind (goes key) (Below (path_to goes t)) (path_to goes rest) (first_stop goes (raws_of rest)) (first_place goes rest) refl

-- a node that is known was read
pub known : (r : Result (List Raw) ℕ) (raws : List Raw) → node_of r ≡ Some raws → r ≡ Ok raws
known (Ok x) raws e = ap (λ (l : List Raw). Ok l) (some_is x raws e)
known (Err rule) raws e = absurd cc

abbrev Leads : NodeReads → (Key → Bool) → ℕ → ℕ → Tree → Type 0
Leads reads goes n above t = way_down reads goes n above (stop_down goes (raws_of t)) ≡ Ok (way (path_to goes t) t)

-- one node down
into : (reads : NodeReads) (goes : Key → Bool) (n above v : ℕ) (t : Tree) → nodes_of reads v ≡ Some (raws_of t) → levels t ≤ n → ((m w : ℕ) → levels t ≤ suc m → Leads reads goes m w t) → way_down reads goes n above (Some v) ≡ Ok (record { vcn = v; node = raws_of t; at = place (path_to goes t) } ∷ way (path_to goes t) t)
into reads goes zero above v t at low rec = let one = level_one t in absurd (omega arith)
into reads goes (suc m) above v t at low rec =
    ap (λ (r : Result (List Raw) ℕ). read_by above v r >>= λ node. way_down reads goes m v (stop_down goes node) >>= λ spots. Ok (record { vcn = v; node = node; at = first_stop goes node } ∷ spots)) (known (reads v) (raws_of t) at)
    ∙ ap (λ (o : Result (List Spot) Broken). o >>= λ spots. Ok (record { vcn = v; node = raws_of t; at = first_stop goes (raws_of t) } ∷ spots)) (rec m v low)
    ∙ ap (λ (k : ℕ). Ok (record { vcn = v; node = raws_of t; at = k } ∷ way (path_to goes t) t)) (first_place goes t)

pub leads : (reads : NodeReads) (goes : Key → Bool) (t : Tree) (n above : ℕ) → Stands (nodes_of reads) t → levels t ≤ suc n → Leads reads goes n above t
leads reads goes Leaf n above st low = refl
leads reads goes (Down v t) n above st low = into reads goes n above v t st.0 (omega arith) (λ m w l. leads reads goes t m w st.1 l)
leads reads goes (Entry key rest) n above st low =
    ap (λ (i : ℕ). way_down reads goes n above (entry_at i (raw key None ∷ raws_of rest)).down) (stop_cons (goes key) (first_stop goes (raws_of rest)) rest)
    ∙ at (goes key) (leads reads goes rest n above st low)
  where
    at : (b : Bool) → Leads reads goes n above rest → way_down reads goes n above (entry_at (if b then 0 else suc (first_stop goes (raws_of rest))) (raw key None ∷ raws_of rest)).down ≡ Ok (way (if b then Here else Behind (path_to goes rest)) (Entry key rest))
    at true r = refl
    at false r = r
leads reads goes (DownEntry v t key rest) n above st low =
    ap (λ (i : ℕ). way_down reads goes n above (entry_at i (raw key (Some v) ∷ raws_of rest)).down) (stop_cons (goes key) (first_stop goes (raws_of rest)) rest)
    ∙ at (goes key) (into reads goes n above v t st.0 (omega arith) (λ m w l. leads reads goes t m w st.1 l)) (leads reads goes rest n above st.2 (omega arith))
  where
    at : (b : Bool) → way_down reads goes n above (Some v) ≡ Ok (record { vcn = v; node = raws_of t; at = place (path_to goes t) } ∷ way (path_to goes t) t) → Leads reads goes n above rest → way_down reads goes n above (entry_at (if b then 0 else suc (first_stop goes (raws_of rest))) (raw key (Some v) ∷ raws_of rest)).down ≡ Ok (way (if b then Below (path_to goes t) else Behind (path_to goes rest)) (DownEntry v t key rest))
    at true into_it r = into_it
    at false into_it r = r

-- the way read from the root
pub read_way : (reads : NodeReads) (goes : Key → Bool) (t : Tree) → Stands (nodes_of reads) t → levels t ≤ 16 → way_of reads goes (raws_of t) ≡ Ok (way (path_to goes t) t)
read_way reads goes t st low = leads reads goes t 15 root_vcn st low

pub front_all : (r : Result (List Spot) Broken) → with_front [] r ≡ r
front_all (Ok spots) = refl
front_all (Err broken) = refl

pub front_none : (path : List Spot) → with_front path (Ok []) ≡ Ok path
front_none path = ap (λ (l : List Spot). Ok l) (append-nil path)

front_two : (path : List Spot) (s : Spot) (r : Result (List Spot) Broken) → with_front path (r >>= λ spots. Ok (s ∷ spots)) ≡ with_front (path ++ s ∷ []) r
front_two path s (Ok spots) = ap (λ (l : List Spot). Ok l) (sym (append_assoc path (s ∷ []) spots))
front_two path s (Err broken) = refl

-- one node more on the way
pub way_step : (reads : NodeReads) (goes : Key → Bool) (k above v : ℕ) (node : List Raw) (path : List Spot) → read_by above v (reads v) ≡ Ok node → with_front path (way_down reads goes (suc k) above (Some v)) ≡ with_front (path ++ record { vcn = v; node = node; at = first_stop goes node } ∷ []) (way_down reads goes k v (stop_down goes node))
way_step reads goes k above v node path is =
    ap (λ (r : Result (List Raw) Broken). with_front path (r >>= λ n. way_down reads goes k v (stop_down goes n) >>= λ spots. Ok (record { vcn = v; node = n; at = first_stop goes n } ∷ spots))) is
    ∙ front_two path (record { vcn = v; node = node; at = first_stop goes node }) (way_down reads goes k v (stop_down goes node))

-- a node on the way that is broken
pub way_ends : (reads : NodeReads) (goes : Key → Bool) (k above v : ℕ) (broken : Broken) (path : List Spot) → read_by above v (reads v) ≡ Err broken → with_front path (way_down reads goes (suc k) above (Some v)) ≡ Err broken
way_ends reads goes k above v broken path is = ap (λ (r : Result (List Raw) Broken). with_front path (r >>= λ n. way_down reads goes k v (stop_down goes n) >>= λ spots. Ok (record { vcn = v; node = n; at = first_stop goes n } ∷ spots))) is

pub stop_inside : (goes : Key → Bool) (raws : List Raw) → 0 < length raws → first_stop goes raws < length raws
stop_inside goes [] h = h
stop_inside goes (r ∷ []) h = omega arith
stop_inside goes (r ∷ s ∷ raws) h = at (goes (own_key r)) (stop_inside goes (s ∷ raws) (omega arith))
  where
    at : (b : Bool) → first_stop goes (s ∷ raws) < length (s ∷ raws) → (if b then 0 else suc (first_stop goes (s ∷ raws))) < suc (length (s ∷ raws))
    at true lt = omega arith
    at false lt = omega arith

-- ---- over nodes that may be known

one_more : (reads : NodeReads) (goes : Key → Bool) (n k above v at : ℕ) (node : List Raw) (path path' : List Spot) (down down' : Option ℕ) (total : Result (List Spot) Broken) → n ≡ suc k → down ≡ Some v → read_by above v (reads v) ≡ Ok node → at ≡ first_stop goes node → down' ≡ (entry_at at node).down → path' ≡ path ++ record { vcn = v; node = node; at = at } ∷ [] → with_front path (way_down reads goes n above down) ≡ total → with_front path' (way_down reads goes k v down') ≡ total
one_more reads goes n k above v at node path path' down down' total is_suc is_down is_node is_at is_next is_path before =
    ap (λ (d : Option ℕ). with_front path' (way_down reads goes k v d)) (is_next ∙ ap (λ (i : ℕ). (entry_at i node).down) is_at)
    ∙ ap (λ (l : List Spot). with_front l (way_down reads goes k v (stop_down goes node))) (is_path ∙ ap (λ (i : ℕ). path ++ record { vcn = v; node = node; at = i } ∷ []) is_at)
    ∙ sym (way_step reads goes k above v node path is_node)
    ∙ ap (λ (m : ℕ). with_front path (way_down reads goes m above (Some v))) (sym is_suc)
    ∙ ap (λ (d : Option ℕ). with_front path (way_down reads goes n above d)) (sym is_down)
    ∙ before

-- the way so far, and what is left of it
abbrev pub WayIs : Option NodeReads → (Key → Bool) → List Raw → List Spot → ℕ → ℕ → Option ℕ → Type 0
WayIs known goes root path n above down = IfSome known (λ reads. with_front path (way_down reads goes n above down) ≡ way_of reads goes root)

pub more_known : (known known' : Option NodeReads) (goes : Key → Bool) (root : List Raw) (n k above v at : ℕ) (node : List Raw) (path path' : List Spot) (down down' : Option ℕ) → known' ≡ known → n ≡ suc k → down ≡ Some v → IfSome known' (λ r. read_by above v (r v) ≡ Ok node) → at ≡ first_stop goes node → down' ≡ (entry_at at node).down → path' ≡ path ++ record { vcn = v; node = node; at = at } ∷ [] → WayIs known goes root path n above down → WayIs known goes root path' k v down'
more_known known known' goes root n k above v at node path path' down down' same is_suc is_down is_node is_at is_next is_path before =
    both known (λ r. read_by above v (r v) ≡ Ok node) (λ reads. with_front path (way_down reads goes n above down) ≡ way_of reads goes root) (λ reads. with_front path' (way_down reads goes k v down') ≡ way_of reads goes root)
    (λ reads is b. one_more reads goes n k above v at node path path' down down' (way_of reads goes root) is_suc is_down is is_at is_next is_path b)
    (subst (λ (o : Option NodeReads). IfSome o (λ r. read_by above v (r v) ≡ Ok node)) same is_node) before

-- a node on the way was not read
pub err_known : (known known' : Option NodeReads) (goes : Key → Bool) (root : List Raw) (n k above v : ℕ) (path : List Spot) (down : Option ℕ) (e : PlanFault) → known' ≡ known → n ≡ suc k → down ≡ Some v → IfSome known' (λ r. ExplainsOrFails (way_cause e) (read_by above v (r v))) → WayIs known goes root path n above down → IfSome known (λ reads. ExplainsOrFails (way_cause e) (way_of reads goes root))
err_known known known' goes root n k above v path down e same is_suc is_down is_err before =
    both known (λ r. ExplainsOrFails (way_cause e) (read_by above v (r v))) (λ reads. with_front path (way_down reads goes n above down) ≡ way_of reads goes root) (λ reads. ExplainsOrFails (way_cause e) (way_of reads goes root))
    (λ reads h b. ends e (read_by above v (reads v)) (way_of reads goes root) (λ broken is.
    sym b ∙ ap (λ (d : Option ℕ). with_front path (way_down reads goes n above d)) is_down ∙ ap (λ (m : ℕ). with_front path (way_down reads goes m above (Some v))) is_suc ∙ way_ends reads goes k above v broken path is) h)
    (subst (λ (o : Option NodeReads). IfSome o (λ r. ExplainsOrFails (way_cause e) (read_by above v (r v)))) same is_err) before

-- the way leads below the sixteenth level
pub low_known : (known : Option NodeReads) (goes : Key → Bool) (root : List Raw) (n above v : ℕ) (path : List Spot) (down : Option ℕ) → n ≡ 0 → down ≡ Some v → WayIs known goes root path n above down → IfSome known (λ reads. way_of reads goes root ≡ Err (too_low above))
low_known known goes root n above v path down is_zero is_down before =
    one known (λ reads. with_front path (way_down reads goes n above down) ≡ way_of reads goes root) (λ reads. way_of reads goes root ≡ Err (too_low above))
    (λ reads b. sym b ∙ ap (λ (d : Option ℕ). with_front path (way_down reads goes n above d)) is_down ∙ ap (λ (m : ℕ). with_front path (way_down reads goes m above (Some v))) is_zero) before
