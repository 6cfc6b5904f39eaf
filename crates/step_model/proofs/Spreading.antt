-- A plan of a directory's index spreads it as an operation may.
use Rattle.std.proofs.Common.{◌≡◌, inl, inr, ℕ, suc, ◌+◌, ◌-◌, ◌<◌, ◌≤◌, Bool, true, false, List, [], ◌∷◌, ◌++◌, length, Option, Some, refl, sym, ap, ◌∙◌, subst, arith, length-append, ◌⊎◌}
use Rattle.std.specs.Prelude.{reverse, nat_eq}
use Rattle.std.proofs.lemmas.Bool.{cases_eq}
use Rattle.std.proofs.lemmas.List.{reverse-append}
use Rattle.record_writer.specs.disk_model.Content.{Content, HasSizes}
use Rattle.record_writer.specs.disk_model.declared.block.Change.{Change}
use Rattle.plan_model.specs.record_model.declared.entry.Entry.{Entry as Raw}
use Rattle.plan_model.specs.record_model.Nodes.{node_used, node_room, last_entry}
use Rattle.plan_model.specs.file_tree.declared.link.Link.{Link}
use Rattle.plan_model.specs.index_model.declared.key.Key.{Key}
use Rattle.plan_model.specs.index_model.Trees.{Tree, Leaf, Down, Entry, DownEntry, walk, held, times, same, one_if, raws_of, Stands, levels}
use Rattle.plan_model.specs.index_model.Indexes.{Place, node_of_block, nodes_of}
use Rattle.plan_model.proofs.index_model.Marks.{same_not}
use Rattle.plan_model.specs.index_plan.declared.write.Write.{Write}
use Rattle.plan_model.specs.index_plan.Paths.{over, chosen, written_vcns}
use Rattle.plan_model.specs.index_plan.Growth.{fits_in}
use Rattle.plan_model.specs.index_plan.Room.{tight_count}
use Rattle.plan_model.specs.index_plan.Search.{put}
use Rattle.plan_model.proofs.index_plan.Standing.{same_self}
use Rattle.plan_model.specs.block_view.Changes.{content_after}
use Rattle.plan_model.specs.index_change.declared.plan.DirPlan.{DirPlan}
use Rattle.plan_model.specs.index_change.Changing.{IsLaidOut, uses, PutsNode, PutNodes}
use Rattle.plan_model.specs.index_change.Orders.{goes, link_of}
use Rattle.plan_model.specs.index_change.Plans.{root_room, seventeen, needs_level, NewIndex}
use Rattle.plan_model.proofs.index_change.Laid.{AreUsed, nodes_after}
use Rattle.step_model.specs.Spreads.{blocks_in, FitsBlock, FitBlocks, way_of, RootMay, IsSpread}
use Rattle.step_model.specs.SpreadLaws.{PlansSpread}

-- ---- how many blocks

-- the numbers of an index's blocks
vcns_in : Tree → List ℕ
vcns_in Leaf = []
vcns_in (Down v t) = v ∷ vcns_in t
vcns_in (Entry key rest) = vcns_in rest
vcns_in (DownEntry v t key rest) = v ∷ (vcns_in t ++ vcns_in rest)

times_both : (x : ℕ) (xs ys : List ℕ) → times x (xs ++ ys) ≡ times x xs + times x ys
times_both x [] ys = omega arith
times_both x (y ∷ xs) ys = omega (arith, times_both x xs ys)

as_held : (x : ℕ) (t : Tree) → times x (vcns_in t) ≡ held x t
unfolding vcns_in
as_held x Leaf = refl
as_held x (Down v t) = ap (λ n. same x v + n) (as_held x t)
as_held x (Entry key rest) = as_held x rest
as_held x (DownEntry v t key rest) = omega (arith, times_both x (vcns_in t) (vcns_in rest), as_held x t, as_held x rest)

as_many : (t : Tree) → length (vcns_in t) ≡ blocks_in t
unfolding vcns_in
as_many Leaf = refl
as_many (Down v t) = omega (arith, as_many t)
as_many (Entry key rest) = as_many rest
as_many (DownEntry v t key rest) = omega (arith, length-append (vcns_in t) (vcns_in rest), as_many t, as_many rest)

-- a list without one place of a number that it has
record IsOut (x : ℕ) (ys left : List ℕ) : Type 0 where
  fewer : length ys ≡ suc (length left)
  others : (z : ℕ) → times z ys ≡ same z x + times z left

out_of : (x : ℕ) (ys : List ℕ) → 0 < times x ys → (left : List ℕ) × IsOut x ys left
out_of x [] some = absurd (omega arith)
out_of x (y ∷ ys) some = elim (cases_eq x y) [
  | inl here ↦ (ys, record { fewer = refl; others = λ z. ap (λ n. same z n + times z ys) (sym here) })
  | inr other ↦
      (let none = same_not x y other in
      let out = out_of x ys (omega (arith, none, some)) in
      (y ∷ out.0, record { fewer = ap suc out.1.fewer; others = λ z. omega (arith, out.1.others z) }))
]

-- lists that have each number as often are as long
same_length : (xs ys : List ℕ) → ((z : ℕ) → times z xs ≡ times z ys) → length xs ≡ length ys
same_length [] [] equal = refl
same_length [] (y ∷ ys) equal = absurd (omega (arith, equal y, same_self y))
same_length (x ∷ xs) ys equal =
    let out = out_of x ys (omega (arith, equal x, same_self x)) in
    omega (arith, out.1.fewer, same_length xs out.0 (λ z. omega (arith, equal z, out.1.others z)))

blocks_taken : (s t : Tree) (freed taken : List ℕ) → ((v : ℕ) → held v s + times v freed ≡ held v t + times v taken) → blocks_in s + length freed ≡ blocks_in t + length taken
blocks_taken s t freed taken numbers =
    let equal = same_length (vcns_in s ++ freed) (vcns_in t ++ taken) (λ z. omega (arith, times_both z (vcns_in s) freed, times_both z (vcns_in t) taken, as_held z s, as_held z t, numbers z)) in
    omega (arith, equal, length-append (vcns_in s) freed, length-append (vcns_in t) taken, as_many s, as_many t)

-- ---- their entries

-- what is known of a node's entries
abbrev Known : (ℕ → Option (List Raw)) → ℕ → Option (List Raw) → Type 0
Known nodes v o = (entries : List Raw) → o ≡ Some entries → FitsBlock nodes v entries

written_fits : (nodes : ℕ → Option (List Raw)) (v : ℕ) (p : Place) (w : Write) (c : Change) (o : Option (List Raw)) (b : Bool) → PutsNode p w c → Known nodes v o → Known nodes v (chosen b w.entries o)
written_fits nodes v p w c o true puts known entries is = inr (subst (λ (l : List Raw). node_used l ≤ node_room) (let e : w.entries ≡ entries = cc in e) puts.fits.used)
written_fits nodes v p w c o false puts known entries is = known entries is

over_append : (nodes : ℕ → Option (List Raw)) (xs ys : List Write) (v : ℕ) → over nodes (xs ++ ys) v ≡ over (over nodes ys) xs v
over_append nodes [] ys v = refl
over_append nodes (x ∷ xs) ys v = ap (chosen (nat_eq v x.vcn) x.entries) (over_append nodes xs ys v)

-- what a node was before, and what the writes put there
after_fits : (nodes before : ℕ → Option (List Raw)) (v : ℕ) (p : Place) (writes : List Write) (changes : List Change) → PutNodes p writes changes → Known nodes v (before v) → Known nodes v (over before (reverse writes) v)
after_fits nodes before v p [] [] puts known = known
after_fits nodes before v p [] (c ∷ changes) puts known = absurd puts
after_fits nodes before v p (w ∷ writes) [] puts known = absurd puts
after_fits nodes before v p (w ∷ writes) (c ∷ changes) puts known = λ entries is.
    after_fits nodes (over before (w ∷ [])) v p writes changes puts.1 (written_fits nodes v p w c (before v) (nat_eq v w.vcn) puts.0 known) entries
    (sym (over_append before (reverse writes) (w ∷ []) v) ∙ ap (λ (l : List Write). over before l v) (sym (reverse-append (w ∷ []) writes)) ∙ is)

all_fit : (nodes after : ℕ → Option (List Raw)) (s : Tree) → Stands after s → ((v : ℕ) → 0 < held v s → Known nodes v (after v)) → FitBlocks nodes s
all_fit nodes after Leaf stands known = tt
all_fit nodes after (Down v t) stands known = (known v (let me = same_self v in omega arith) (raws_of t) stands.0, all_fit nodes after t stands.1 (λ x here. known x (omega (arith, here))))
all_fit nodes after (Entry key rest) stands known = all_fit nodes after rest stands known
all_fit nodes after (DownEntry v t key rest) stands known =
    (known v (let me = same_self v in omega arith) (raws_of t) stands.0, all_fit nodes after t stands.1 (λ x here. known x (omega (arith, here))), all_fit nodes after rest stands.2 (λ x here. known x (omega (arith, here))))

-- nodes that are written are used, where they are written no more often than that
are_used : (n : ℕ → ℕ) (writes : List Write) → ((v : ℕ) → times v (written_vcns writes) ≤ n v) → AreUsed n writes
are_used n [] each = tt
are_used n (w ∷ writes) each = ((let me = same_self w.vcn in let e = each w.vcn in omega arith), are_used n writes (λ v. let e = each v in omega arith))

root_may : (level : Bool) (room : ℕ) (key : Key) (t s : Tree) → (level ≡ false → (fits_in room (raws_of s) ≡ true) ⊎ (raws_of s ≡ raws_of t)) → (level ≡ true → (levels t < 16) × ((f : ℕ) × (raws_of s ≡ last_entry (Some f) ∷ []))) → RootMay level room key t s
root_may true room key t s flat raised = (raised refl).1
root_may false room key t s flat raised = elim (flat refl) [
  | inl fits ↦ inr (inl fits)
  | inr stays ↦ inl stays
]

-- ---- the plan

plans_spread_by : (c : Content) (p : Place) (upper value : List ℕ) (used : ℕ) (t : Tree) (fresh : List ℕ) (key : Key) (more : Bool) (meant : List Link) (plan : DirPlan) (behind : ℕ) → HasSizes c → IsLaidOut p (uses t fresh)
    → (n : NewIndex c p upper value used t fresh more (put (goes upper (link_of key).name) key (walk t)) meant plan) → length plan.taken.items ≤ tight_count (way_of upper key t) + one_if more → behind ≤ blocks_in n.tree - blocks_in t
    → IsSpread (nodes_of (node_of_block c p)) upper (root_room used value) key t more n.tree behind
plans_spread_by c p upper value used t fresh key more meant plan behind sized laid n few inside =
    let s : Tree = n.tree in
    let used_here : (v : ℕ) → 0 < held v s → 0 < uses t fresh v = (λ v here. omega (arith, here, n.numbers v, n.among v)) in
    let each : AreUsed (uses t fresh) n.writes = are_used (uses t fresh) n.writes (λ v. omega (arith, n.placed v, n.numbers v, n.among v)) in
    let known : (v : ℕ) → 0 < held v s → Known (nodes_of (node_of_block c p)) v (nodes_of (node_of_block (content_after plan.changes.items c) p) v) =
    (λ v here entries is. after_fits (nodes_of (node_of_block c p)) (nodes_of (node_of_block c p)) v p n.writes plan.changes.items n.puts (λ more here. inl here) entries (sym (nodes_after p (uses t fresh) c n.writes plan.changes.items laid each sized n.puts v (used_here v here)) ∙ is)) in
    let blocks = blocks_taken s t plan.freed.items plan.taken.items n.numbers in
    record {
      keys = n.has_keys;
      once = n.holds.is_index.once;
      fit = all_fit (nodes_of (node_of_block c p)) (nodes_of (node_of_block (content_after plan.changes.items c) p)) s n.holds.is_index.stands known;
      root = root_may more (root_room used value) key t s n.has_room n.one_entry;
      height = n.height;
      fresh = omega (arith, blocks, few);
      behind = inside;
    }

pub plans_spread : PlansSpread
plans_spread c p upper value used t fresh key meant plan behind sized laid n little inside =
    plans_spread_by c p upper value used t fresh key (needs_level upper (root_room used value) key (seventeen fresh) t) meant plan behind sized laid n little.taken inside
