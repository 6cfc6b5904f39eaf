-- Plans of nodes that are made over one content and place, and laid out over others.
use Rattle.std.proofs.Common.{◌≡◌, ℕ, ◌+◌, ◌%◌, ◌<◌, ◌≤◌, Bool, true, false, List, [], ◌∷◌, ◌++◌, length, take, drop, Option, Some, None, Ok, refl, sym, ap, ◌∙◌, subst, arith}
use Rattle.std.specs.Prelude.{◌&&◌, ◌==◌, nat_lt, nat_eq, reverse, if◌then◌else◌, IfSome}
use Rattle.std.specs.List.{slice_get}
use Rattle.std.proofs.Math.Seq.{take-append_seam, drop-append_seam}
use Rattle.std.proofs.lemmas.List.{length-append, take-append-drop, get_or_append_left}
use Rattle.std.proofs.lemmas.Option.{slice_get_within, slice_get-get_or, get_or_from_slice_get}
use Rattle.record_model.specs.disk_model.declared.block.Block.{Block}
use Rattle.record_model.specs.disk_model.Content.{Content, HasSizes}
use Rattle.record_model.specs.declared.entry.Entry.{Entry as Raw}
use Rattle.record_model.specs.Values.{is_file_name}
use Rattle.index_tree.specs.index_model.declared.key.Key.{Key}
use Rattle.index_tree.specs.index_model.Trees.{Tree, Leaf, Down, Entry, DownEntry, walk, held, times, raws_of, Stands}
use Rattle.index_tree.specs.index_model.Indexes.{Place, number_of, node_block, node_of_body, node_of_part, node_of_block, nodes_of, some_entries, links_of}
use Rattle.index_tree.specs.index_model.Laws.{HoldsIndex}
use Rattle.index_plan.specs.declared.plan.Rooted.{Rooted}
use Rattle.index_plan.specs.declared.write.Write.{Write}
use Rattle.index_plan.specs.Laws.{NewTree, Once}
use Rattle.index_plan.specs.Paths.{chosen, over}
use Rattle.index_plan.specs.Reading.{node_of, nodes_of as plan_nodes}
use Rattle.index_plan.specs.Search.{put}
use Rattle.index_plan.proofs.Standing.{same_self}
use Rattle.index_change.specs.declared.nodes_plan.NodesPlan.{NodesPlan}
use Rattle.index_change.specs.declared.plan.DirPlan.{DirPlan}
use Rattle.index_node.specs.Roots.{root_spelling, HaveSpelling}
use Rattle.index_change.specs.Changing.{IsLaidOut, uses, PutNodes}
use Rattle.index_change.specs.NodePlans.{TakesFront, rooted_of, IsDrawn, NewNodes, PlansNew, PlansNodes, LaysOut, KeepsNodes, PlansJoin, GoesOn, GrownKeeps}
use Rattle.index_change.specs.Orders.{goes, link_of, put_link}
use Rattle.index_change.specs.Plans.{clusters_of, root_room, seventeen, needs_level, IsMade, InsertGives, NewIndex, TakesLittle}
use Rattle.index_change.proofs.Counting.{once_fewer}
use Rattle.index_change.proofs.Lawful.{some_read}
use Rattle.index_change.proofs.NewIndexes.{alike, inserted}

abbrev Nodes : Type 0
Nodes = ℕ → Option (List Raw)

-- ---- the forms of a plan of nodes

made : List Raw → List Write → List ℕ → Rooted
made root writes left = record { root = root; plan = record { writes = writes; fresh = left } }

pub drawn_is : (fresh : List ℕ) (r : Rooted) (n : NodesPlan) → IsDrawn fresh r n → r ≡ rooted_of fresh n
unfolding made
drawn_is fresh r n d =
    let left : r.plan.fresh ≡ drop (length n.taken.items) fresh = sym (drop-append_seam n.taken.items r.plan.fresh) ∙ ap (drop (length n.taken.items)) d.taken in
    ap (λ (root : List Raw). made root r.plan.writes r.plan.fresh) (sym d.root) ∙ ap (λ (writes : List Write). made n.root writes r.plan.fresh) (sym d.order) ∙ ap (made n.root (reverse n.writes.items)) left

-- a list that is followed by others is their front
pub front_is : (xs ys all : List ℕ) → xs ++ ys ≡ all → xs ≡ take (length xs) all
front_is xs ys all is = sym (take-append_seam xs ys) ∙ ap (take (length xs)) is

pub drawn_front : (fresh : List ℕ) (r : Rooted) (n : NodesPlan) → IsDrawn fresh r n → n.taken.items ≡ take (length n.taken.items) fresh
drawn_front fresh r n d = front_is n.taken.items r.plan.fresh fresh d.taken

-- a plan that is laid out is made of its nodes
pub laid_made : (p : Place) (clusters : ℕ) (fresh : List ℕ) (n : NodesPlan) (plan : DirPlan) → n.taken.items ≡ take (length n.taken.items) fresh → LaysOut p clusters n plan → IsMade p clusters fresh [] (rooted_of fresh n) plan
laid_made p clusters fresh n plan front laid = record {
  writes = n.writes.items;
  order = refl;
  puts = laid.puts;
  spelled = laid.spelled;
  root = laid.root;
  taken = ap (λ (l : List ℕ). l ++ drop (length n.taken.items) fresh) (laid.taken ∙ front) ∙ take-append-drop (length n.taken.items) fresh;
  freed = laid.freed;
}

-- a plan that is laid out, with blocks that are gone
pub gone_made : (p : Place) (clusters : ℕ) (fresh gone : List ℕ) (r : Rooted) (n : NodesPlan) (laid plan : DirPlan) → IsDrawn fresh r n → LaysOut p clusters n laid → plan.root ≡ laid.root → plan.changes.items ≡ laid.changes.items → plan.taken.items ≡ laid.taken.items → plan.freed.items ≡ gone → IsMade p clusters fresh gone r plan
gone_made p clusters fresh gone r n laid plan drawn l root changes taken freed = record {
  writes = n.writes.items;
  order = drawn.order;
  puts = subst (PutNodes p n.writes.items) (sym changes) l.puts;
  spelled = subst HaveSpelling drawn.root l.spelled;
  root = root ∙ l.root ∙ ap (root_spelling clusters) drawn.root;
  taken = ap (λ (x : List ℕ). x ++ r.plan.fresh) (taken ∙ l.taken) ∙ drawn.taken;
  freed = freed;
}

-- ---- nodes that are kept

stands_kept : (nodes others : Nodes) (t : Tree) → ((v : ℕ) (raws : List Raw) → 0 < held v t → nodes v ≡ Some raws → others v ≡ Some raws) → Stands nodes t → Stands others t
stands_kept nodes others Leaf keep st = tt
stands_kept nodes others (Down v t) keep st = (keep v (raws_of t) (let me = same_self v in omega arith) st.0, stands_kept nodes others t (λ x raws h. keep x raws (omega arith)) st.1)
stands_kept nodes others (Entry key rest) keep st = stands_kept nodes others rest keep st
stands_kept nodes others (DownEntry v t key rest) keep st =
    (keep v (raws_of t) (let me = same_self v in omega arith) st.0, stands_kept nodes others t (λ x raws h. keep x raws (omega arith)) st.1, stands_kept nodes others rest (λ x raws h. keep x raws (omega arith)) st.2)

over_kept : (nodes others : Nodes) (writes : List Write) (v : ℕ) (raws : List Raw) → (nodes v ≡ Some raws → others v ≡ Some raws) → over nodes writes v ≡ Some raws → over others writes v ≡ Some raws
over_kept nodes others [] v raws keep is = keep is
over_kept nodes others (w ∷ writes) v raws keep is = choose (nat_eq v w.vcn) (over_kept nodes others writes v raws keep) is
  where
    choose : (b : Bool) → (over nodes writes v ≡ Some raws → over others writes v ≡ Some raws) → chosen b w.entries (over nodes writes v) ≡ Some raws → chosen b w.entries (over others writes v) ≡ Some raws
    choose true later e = e
    choose false later e = later e

tree_kept : (nodes others : Nodes) (t : Tree) (fresh : List ℕ) (keys : List Key) (freed : ℕ → ℕ) (room : ℕ) (more : Bool) (r : Rooted) → ((v : ℕ) (raws : List Raw) → 0 < held v t + times v fresh → nodes v ≡ Some raws → others v ≡ Some raws) → NewTree nodes t fresh keys freed room more r → NewTree others t fresh keys freed room more r
tree_kept nodes others t fresh keys freed room more r keep n = record {
  tree = n.tree;
  root = n.root;
  stands = stands_kept (over nodes r.plan.writes) (over others r.plan.writes) n.tree (λ v raws here is. over_kept nodes others r.plan.writes v raws (keep v raws (let e = n.numbers v in omega arith)) is) n.stands;
  walked = n.walked;
  numbers = n.numbers;
  placed = n.placed;
  height = n.height;
  has_room = n.has_room;
  one_entry = n.one_entry;
  written = n.written;
  taken = n.taken;
}

kept_plan : (c d : Content) (p q : Place) (count : ℕ → ℕ) → KeepsNodes c p d q count → (v : ℕ) (raws : List Raw) → 0 < count v → plan_nodes (node_of_block c p) v ≡ Some raws → plan_nodes (node_of_block d q) v ≡ Some raws
kept_plan c d p q count keep v raws here is = ap node_of (keep v raws here (some_read (node_of_block c p v) raws (sym (alike (node_of_block c p v)) ∙ is)))

kept_node : (c d : Content) (p q : Place) (count : ℕ → ℕ) → KeepsNodes c p d q count → (v : ℕ) (raws : List Raw) → 0 < count v → nodes_of (node_of_block c p) v ≡ Some raws → nodes_of (node_of_block d q) v ≡ Some raws
kept_node c d p q count keep v raws here is = ap some_entries (keep v raws here (some_read (node_of_block c p v) raws is))

index_kept : (c d : Content) (p q : Place) (upper value fresh : List ℕ) (t : Tree) → KeepsNodes c p d q (uses t fresh) → HoldsIndex c p upper value t → HoldsIndex d q upper value t
index_kept c d p q upper value fresh t keep h = record {
  entries = h.entries;
  root_read = h.root_read;
  is_index = record {
    root_is = h.is_index.root_is;
    stands = stands_kept (nodes_of (node_of_block c p)) (nodes_of (node_of_block d q)) t (λ v raws here is. kept_node c d p q (uses t fresh) keep v raws (omega arith) is) h.is_index.stands;
    once = h.is_index.once;
    height = h.is_index.height;
    ordered = h.is_index.ordered;
  };
}

-- ---- the law

pub joins : (c d : Content) (p q : Place) (upper value : List ℕ) (used : ℕ) (key : Key) (fresh : List ℕ) (n : NodesPlan) (plan : DirPlan) (t : Tree)
    → HasSizes d → is_file_name key.value ≡ true → 17 ≤ length fresh → PlansNew c p upper value used key fresh (Ok n) → TakesFront fresh n → LaysOut q (clusters_of value) n plan
    → HoldsIndex c p upper value t → Once t fresh → KeepsNodes c p d q (uses t (seventeen fresh)) → IsLaidOut q (uses t fresh)
    → HoldsIndex d q upper value t × NewIndex d q upper value used t fresh (needs_level upper (root_room used value) key (seventeen fresh) t) (put (goes upper (link_of key).name) key (walk t)) (put_link upper (link_of key) (links_of (walk t))) plan × TakesLittle upper value used key fresh t plan
joins c d p q upper value used key fresh n plan t sized lawful enough plans front laid h once keep places =
    let new : NewNodes c p upper value used key fresh t n = plans t h (once_fewer t 17 fresh once) in
    let there : HoldsIndex d q upper value t = index_kept c d p q upper value (seventeen fresh) t keep h in
    let becomes = tree_kept (plan_nodes (node_of_block c p)) (plan_nodes (node_of_block d q)) t (seventeen fresh) (put (goes upper (link_of key).name) key (walk t)) (λ x. 0) (root_room used value) (needs_level upper (root_room used value) key (seventeen fresh) t) (rooted_of (seventeen fresh) n)
    (λ v raws here is. kept_plan c d p q (uses t (seventeen fresh)) keep v raws here is) new.becomes in (
      there,
      inserted d q upper value used key fresh (rooted_of (seventeen fresh) n) plan t sized enough lawful (laid_made q (clusters_of value) (seventeen fresh) n plan front laid) becomes there new.low once places,
      record { level = new.level; taken = omega (arith, new.few, ap length laid.taken) },
    )

pub plans_join : PlansJoin
plans_join c d p q upper value used key fresh n plan t sized lawful enough plans front laid h once keep places = joins c d p q upper value used key fresh n plan t sized lawful enough plans.1 front laid h once keep places

-- what stays where it is is kept
pub keeps_self : (c : Content) (p : Place) (count : ℕ → ℕ) → KeepsNodes c p c p count
keeps_self c p count v entries here is = is

-- an insertion is a plan of nodes that is laid out where it was made
pub insert_laid : (known : Option Content) (p : Place) (upper value : List ℕ) (used : ℕ) (key : Key) (fresh : List ℕ) (n : NodesPlan) (plan : DirPlan)
    → IfSome known HasSizes → is_file_name key.value ≡ true → 17 ≤ length fresh → IfSome known (λ c. PlansNodes c p upper value used key fresh (Ok n)) → TakesFront fresh n → LaysOut p (clusters_of value) n plan → IfSome known (λ c. InsertGives c p upper value used key fresh (Ok plan))
insert_laid None p upper value used key fresh n plan sized lawful enough plans front laid = tt
insert_laid (Some c) p upper value used key fresh n plan sized lawful enough plans front laid = (
  plans.0,
  λ t h once places. let j = joins c c p p upper value used key fresh n plan t sized lawful enough plans.1 front laid h once (keeps_self c p (uses t (seventeen fresh))) places in (j.1, j.2),
)

-- ---- a place that grows

get_front : (xs ys : List Block) (i : ℕ) (b : Block) → slice_get xs i ≡ Some b → slice_get (xs ++ ys) i ≡ Some b
get_front xs ys i b is =
    let within = slice_get_within xs i b is in
    let first : ◌≡◌ {A = Block} _ b = get_or_append_left xs ys b i within ∙ get_or_from_slice_get xs i b b is in
    slice_get-get_or (xs ++ ys) i b (omega (arith, within, length-append xs ys)) ∙ ap Some first

passed : (test : Bool) (o : Option Block) (b : Block) → (if test then o else None) ≡ Some b → (test ≡ true) × (o ≡ Some b)
passed true o b is = (refl, is)
passed false o b is = absurd cc

place : List Block → ℕ → Place
place blocks step = record { blocks = blocks; step = step }

block_kept : (p q : Place) (v : ℕ) (b : Block) → GoesOn p q → node_block p v ≡ Some b → (slice_get p.blocks (number_of p v) ≡ Some b) × (node_block q v ≡ Some b)
unfolding node_block place
block_kept p q v b goes is =
    let parts = passed (nat_lt 0 p.step && v % p.step == 0) (slice_get p.blocks (number_of p v)) b is in
    let moved : node_block q v ≡ node_block (place (p.blocks ++ goes.more) p.step) v = ap (λ (s : ℕ). node_block (place q.blocks s) v) goes.step ∙ ap (λ (blocks : List Block). node_block (place blocks p.step) v) goes.blocks in
    (parts.1, moved ∙ ap (λ (test : Bool). if test then slice_get (p.blocks ++ goes.more) (number_of p v) else None) parts.0 ∙ get_front p.blocks goes.more (number_of p v) b parts.1)

pub grown_keeps : GrownKeeps
unfolding node_of_block
grown_keeps c d p q count goes same v entries here is = by (node_block p v) refl is
  where
    by : (o : Option Block) → node_block p v ≡ o → node_of_part c v o ≡ Ok entries → node_of_part d v (node_block q v) ≡ Ok entries
    by None e is' = absurd cc
    by (Some b) e is' = let k = block_kept p q v b goes e in ap (node_of_part d v) k.1 ∙ ap (node_of_body v) (same (number_of p v) b k.0) ∙ is'
