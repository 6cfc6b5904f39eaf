-- The nodes after a plan stood there before, or are written and have room.
use Rattle.std.proofs.Common.{◌≡◌, inl, inr, ℕ, ◌+◌, ◌≤◌, Bool, true, false, List, [], ◌∷◌, ◌++◌, length, take, drop, Option, Some, refl, sym, ap, ◌∙◌, subst, arith, length-append, ◌⊎◌}
use Rattle.std.specs.Prelude.{reverse, nat_eq}
use Rattle.std.specs.List.{AllByRecursion}
use Rattle.std.proofs.lemmas.List.{reverse-append, take-append-drop, length-take-le}
use Rattle.plan_model.specs.record_model.declared.entry.Entry.{Entry as Raw}
use Rattle.plan_model.specs.record_model.Nodes.{node_used, node_room, last_entry}
use Rattle.plan_model.specs.index_model.declared.key.Key.{Key}
use Rattle.plan_model.specs.index_model.Trees.{Tree, Leaf, Down, Entry, DownEntry, walk, raws_of, Stands}
use Rattle.plan_model.specs.index_model.Indexes.{node_of_block, nodes_of}
use Rattle.plan_model.specs.index_plan.declared.write.Write.{Write}
use Rattle.plan_model.specs.index_plan.Growth.{fits_in}
use Rattle.plan_model.specs.index_plan.Laws.{NewTree}
use Rattle.plan_model.specs.index_plan.Paths.{over, chosen}
use Rattle.plan_model.specs.index_plan.Search.{put}
use Rattle.plan_model.specs.index_change.NodePlans.{rooted_of}
use Rattle.plan_model.specs.index_change.Orders.{goes, link_of}
use Rattle.plan_model.specs.index_change.Plans.{root_room, seventeen, needs_level}
use Rattle.step_model.specs.Spreads.{blocks_in, FitsBlock, FitBlocks, RootMay}
use Rattle.node_spreads.specs.Nodes.{NodesAreSpread}
use Rattle.node_spreads.proofs.Counting.{blocks_counted}

-- what is known of a node's entries
abbrev pub Known : (ℕ → Option (List Raw)) → ℕ → Option (List Raw) → Type 0
Known nodes v o = (entries : List Raw) → o ≡ Some entries → FitsBlock nodes v entries

abbrev pub Fits : Write → Type 0
Fits w = node_used w.entries ≤ node_room

pub one_fits : (nodes : ℕ → Option (List Raw)) (v : ℕ) (w : Write) (o : Option (List Raw)) (b : Bool) → Fits w → Known nodes v o → Known nodes v (chosen b w.entries o)
one_fits nodes v w o true fits known entries is = inr (subst (λ (l : List Raw). node_used l ≤ node_room) (let e : w.entries ≡ entries = cc in e) fits)
one_fits nodes v w o false fits known entries is = known entries is

over_append : (nodes : ℕ → Option (List Raw)) (xs ys : List Write) (v : ℕ) → over nodes (xs ++ ys) v ≡ over (over nodes ys) xs v
over_append nodes [] ys v = refl
over_append nodes (x ∷ xs) ys v = ap (chosen (nat_eq v x.vcn) x.entries) (over_append nodes xs ys v)

-- what a node was before, and what the writes put there
over_fits : (nodes before : ℕ → Option (List Raw)) (v : ℕ) (writes : List Write) → AllByRecursion Fits writes → Known nodes v (before v) → Known nodes v (over before (reverse writes) v)
over_fits nodes before v [] all known = known
over_fits nodes before v (w ∷ writes) all known = λ entries is.
    over_fits nodes (over before (w ∷ [])) v writes all.1 (one_fits nodes v w (before v) (nat_eq v w.vcn) all.0 known) entries
    (sym (over_append before (reverse writes) (w ∷ []) v) ∙ ap (λ (l : List Write). over before l v) (sym (reverse-append (w ∷ []) writes)) ∙ is)

pub all_fit : (nodes after : ℕ → Option (List Raw)) (s : Tree) → Stands after s → ((v : ℕ) → Known nodes v (after v)) → FitBlocks nodes s
all_fit nodes after Leaf stands known = tt
all_fit nodes after (Down v t) stands known = (known v (raws_of t) stands.0, all_fit nodes after t stands.1 known)
all_fit nodes after (Entry key rest) stands known = all_fit nodes after rest stands known
all_fit nodes after (DownEntry v t key rest) stands known = (known v (raws_of t) stands.0, all_fit nodes after t stands.1 known, all_fit nodes after rest stands.2 known)

root_may : (level : Bool) (room : ℕ) (key : Key) (t s : Tree) → (level ≡ false → (fits_in room (raws_of s) ≡ true) ⊎ (raws_of s ≡ raws_of t)) → (level ≡ true → (f : ℕ) × (raws_of s ≡ last_entry (Some f) ∷ [])) → RootMay level room key t s
root_may true room key t s flat raised = raised refl
root_may false room key t s flat raised = elim (flat refl) [
  | inl fits ↦ inr (inl fits)
  | inr stays ↦ inl stays
]

-- ---- the fresh numbers

parted : (n : ℕ) (xs : List ℕ) → length (take n xs) + length (drop n xs) ≡ length xs
parted n xs = sym (length-append (take n xs) (drop n xs)) ∙ ap (λ (l : List ℕ). length l) (take-append-drop n xs)

pub nodes_spread : NodesAreSpread
nodes_spread c p upper value used key fresh t n new fit front long once =
    let level : Bool = needs_level upper (root_room used value) key (seventeen fresh) t in
    let nodes : ℕ → Option (List Raw) = nodes_of (node_of_block c p) in
    let k : NewTree nodes t (seventeen fresh) (put (goes upper (link_of key).name) key (walk t)) (λ x. 0) (root_room used value) level (rooted_of (seventeen fresh) n) = new.becomes in
    let s : Tree = k.tree in
    let count = blocks_counted s t (drop (length n.taken.items) (seventeen fresh)) (seventeen fresh) (λ v. (let all = k.numbers v in omega (arith, all))) in
    let same = ap (λ (l : List ℕ). length l) front in
    let parts = parted (length n.taken.items) (seventeen fresh) in
    let blocks : blocks_in s ≡ blocks_in t + length n.taken.items = omega (arith, count, same, parts) in
    let full : 17 ≤ length (seventeen fresh) = (let is = length-take-le 17 fresh long in omega (arith, is)) in
    let few = new.few in
    record {
      tree = s;
      root = k.root;
      blocks = blocks;
      spread = λ behind inside. record {
        keys = k.walked;
        once = λ v. (let all = k.numbers v in let most = once v in omega (arith, all, most));
        fit = all_fit nodes (over nodes (reverse n.writes.items)) s k.stands (λ v. over_fits nodes nodes v n.writes.items fit (λ entries here. inl here));
        root = root_may level (root_room used value) key t s
            (λ flat. elim (k.has_room flat) [
              | inl fits ↦ inl (subst (λ (l : List Raw). fits_in (root_room used value) l ≡ true) k.root fits)
              | inr stays ↦ inr (sym k.root ∙ stays)
            ])
            (λ up. (let one = k.one_entry up full in (one.0, sym k.root ∙ one.1)));
        height = k.height;
        fresh = omega (arith, blocks, few);
        behind = omega (arith, blocks, inside);
      };
    }
