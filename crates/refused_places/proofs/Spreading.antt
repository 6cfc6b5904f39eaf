-- The index by a plan of its nodes that needs no level is spread as an operation may, and it has the blocks from before and those that are taken.
use Rattle.std.proofs.Common.{◌≡◌, ◌⊎◌, ℕ, ◌+◌, true, false, List, [], ◌∷◌, ◌++◌, length, drop, reverse, Option, sym, ap, subst, ◌∙◌, inl, inr, arith}
use Rattle.std.specs.Prelude.{nat_eq}
use Rattle.std.specs.List.{AllByRecursion}
use Rattle.std.proofs.lemmas.List.{length-take, length-drop, reverse-append}
use Rattle.disk_model.specs.Content.{Content}
use Rattle.record_model.specs.declared.entry.Entry.{Entry as Raw}
use Rattle.index_model.specs.declared.key.Key.{Key}
use Rattle.index_model.specs.Trees.{Tree, one_if, raws_of}
use Rattle.index_model.specs.Indexes.{Place, node_of_block, nodes_of}
use Rattle.index_plan.specs.declared.write.Write.{Write}
use Rattle.index_plan.specs.Growth.{fits_in}
use Rattle.index_plan.specs.Laws.{Once}
use Rattle.index_plan.specs.Paths.{over}
use Rattle.index_change.specs.declared.nodes_plan.NodesPlan.{NodesPlan}
use Rattle.index_change.specs.NodePlans.{NewNodes, TakesFront}
use Rattle.index_change.specs.Plans.{root_room, seventeen, needs_level}
use Rattle.node_spreads.specs.Nodes.{WritesFit}
use Rattle.node_spreads.proofs.Counting.{blocks_counted}
use Rattle.node_spreads.proofs.Fitting.{Fits, Known, one_fits, all_fit}
use Rattle.place_makes.specs.made_trees.step_model.Spreads.{blocks_in, IsSpread, RootMay}

-- ---- what is written

all_onto : (xs ys : List Write) → AllByRecursion Fits xs → AllByRecursion Fits ys → AllByRecursion Fits (xs ++ ys)
all_onto [] ys all more = more
all_onto (x ∷ xs) ys all more = (all.0, all_onto xs ys all.1 more)

all_reversed : (xs : List Write) → AllByRecursion Fits xs → AllByRecursion Fits (reverse xs)
all_reversed [] all = tt
all_reversed (x ∷ xs) all = subst (AllByRecursion Fits) (sym (reverse-append (x ∷ []) xs)) (all_onto (reverse xs) (x ∷ []) (all_reversed xs all.1) (all.0, tt))

writes_known : (nodes : ℕ → Option (List Raw)) (v : ℕ) (writes : List Write) → AllByRecursion Fits writes → Known nodes v (over nodes writes v)
writes_known nodes v [] all = λ entries here. inl here
writes_known nodes v (w ∷ writes) all = one_fits nodes v w (over nodes writes v) (nat_eq v w.vcn) all.0 (writes_known nodes v writes all.1)

-- ---- the index

root_may : (room : ℕ) (key : Key) (t s : Tree) (root : List Raw) → root ≡ raws_of s → (fits_in room root ≡ true) ⊎ (root ≡ raws_of t) → RootMay false room key t s
root_may room key t s root is (inl fits) = inr (inl (subst (λ (l : List Raw). fits_in room l ≡ true) is fits))
root_may room key t s root is (inr stays) = inl (sym is ∙ stays)

module _ (c : Content) (p : Place) (upper value : List ℕ) (used : ℕ) (key : Key) (fresh : List ℕ) (t : Tree) (n : NodesPlan) (new : NewNodes c p upper value used key fresh t n) (fit : WritesFit n) (front : TakesFront fresh n) (once : Once t (seventeen fresh))
    (flat : needs_level upper (root_room used value) key (seventeen fresh) t ≡ false) where
  abbrev s : Tree
  s = new.becomes.tree

  abbrev more : ℕ
  more = length n.taken.items

  pub blocks : blocks_in s ≡ blocks_in t + more
  blocks =
      let count = blocks_counted s t (drop (length n.taken.items) (seventeen fresh)) (seventeen fresh) (λ v. (let all = new.becomes.numbers v in omega (arith, all))) in
      let same = ap (λ (l : List ℕ). length l) front in
      let taken = length-take more (seventeen fresh) in
      let left = length-drop more (seventeen fresh) in
      omega (arith, count, same, taken, left)

  pub spread : IsSpread (nodes_of (node_of_block c p)) upper (root_room used value) key t false s more
  spread =
      let height = new.becomes.height in
      let few = new.few in
      let none = ap one_if flat in
      let count = blocks in
      record {
        keys = new.becomes.walked;
        once = λ v. (let all = new.becomes.numbers v in let most = once v in omega (arith, all, most));
        fit = all_fit (nodes_of (node_of_block c p)) (over (nodes_of (node_of_block c p)) (reverse n.writes.items)) s new.becomes.stands (λ v. writes_known (nodes_of (node_of_block c p)) v (reverse n.writes.items) (all_reversed n.writes.items fit));
        root = root_may (root_room used value) key t s n.root new.becomes.root (new.becomes.has_room flat);
        height = omega (arith, height, none);
        fresh = omega (arith, count, few, none);
        behind = omega (arith, count);
      }
