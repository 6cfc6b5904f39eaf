-- The index after an insertion.
use Rattle.std.proofs.Common.{◌≡◌, ℕ, suc, ◌+◌, ◌<◌, ◌≤◌, Bool, true, List, [], ◌∷◌, length, Option, Some, Result, Ok, Err, refl, sym, ap, ◌∙◌, ◌⊎◌, inl, inr, arith}
use Rattle.std.specs.Prelude.{reverse, nat_eq}
use Rattle.std.proofs.lemmas.List.{length-append, length-reverse, length-take}
use Rattle.record_model.specs.disk_model.declared.block.Change.{Change}
use Rattle.record_model.specs.disk_model.Content.{Content, HasSizes}
use Rattle.index_tree.specs.block_view.Changes.{content_after}
use Rattle.record_model.specs.declared.entry.Entry.{Entry as Raw}
use Rattle.record_model.specs.Nodes.{root_at, last_entry}
use Rattle.record_model.specs.Values.{is_file_name}
use Rattle.index_tree.specs.file_tree.declared.link.Link.{Link}
use Rattle.index_tree.specs.index_model.declared.key.Key.{Key}
use Rattle.index_tree.specs.index_model.Trees.{Tree, Leaf, Down, Entry, DownEntry, walk, held, times, levels, one_if, raws_of, Stands}
use Rattle.index_tree.specs.index_model.Indexes.{Place, node_of_block, nodes_of, some_entries, links_of, rises}
use Rattle.index_tree.specs.index_model.Walks.{Broken}
use Rattle.index_tree.specs.index_model.Laws.{HoldsIndex}
use Rattle.index_tree.proofs.index_model.WalkLaw.{walk_passes}
use Rattle.index_node.proofs.RootSpelled.{root_law}
use Rattle.index_plan.specs.declared.plan.Rooted.{Rooted}
use Rattle.index_plan.specs.declared.write.Write.{Write}
use Rattle.index_plan.specs.Paths.{chosen, over, written_vcns}
use Rattle.index_plan.specs.Reading.{node_of, nodes_of as plan_nodes}
use Rattle.index_plan.specs.Laws.{NewTree, InsertsInto, Once}
use Rattle.index_plan.specs.Growth.{fits_in}
use Rattle.index_plan.specs.Search.{put}
use Rattle.index_plan.proofs.Standing.{same_self}
use Rattle.index_node.specs.Roots.{root_spelling}
use Rattle.index_change.specs.declared.plan.DirPlan.{DirPlan}
use Rattle.index_change.specs.Changing.{IsLaidOut, uses, PutNodes}
use Rattle.index_change.specs.Orders.{goes, link_of, put_link}
use Rattle.index_change.specs.Plans.{clusters_of, root_room, seventeen, needs_level, NewIndex, IsMade}
use Rattle.index_change.proofs.Lawful.{AreNames, index_names, key_link_is}
use Rattle.index_change.proofs.Putting.{keys_rise, put_links, put_rises}
use Rattle.index_change.proofs.Laid.{AreUsed, nodes_after}
use Rattle.index_change.proofs.Onces.{one_each, times-reverse}
use Rattle.index_change.proofs.Tall.{root_raws}
use Rattle.index_change.proofs.Counting.{once_fewer, times-both, times-take}

abbrev Nodes : Type 0
Nodes = ℕ → Option (List Raw)

pub stands_along : (nodes others : Nodes) (t : Tree) → ((v : ℕ) → 0 < held v t → others v ≡ nodes v) → Stands nodes t → Stands others t
stands_along nodes others Leaf alike st = tt
stands_along nodes others (Down v t) alike st = (alike v (let me = same_self v in omega arith) ∙ st.0, stands_along nodes others t (λ x h. alike x (omega arith)) st.1)
stands_along nodes others (Entry key rest) alike st = stands_along nodes others rest alike st
stands_along nodes others (DownEntry v t key rest) alike st =
    (alike v (let me = same_self v in omega arith) ∙ st.0, stands_along nodes others t (λ x h. alike x (omega arith)) st.1, stands_along nodes others rest (λ x h. alike x (omega arith)) st.2)

over_along : (nodes others : Nodes) (writes : List Write) → ((v : ℕ) → others v ≡ nodes v) → (v : ℕ) → over others writes v ≡ over nodes writes v
over_along nodes others [] same v = same v
over_along nodes others (w ∷ writes) same v = ap (chosen (nat_eq v w.vcn) w.entries) (over_along nodes others writes same v)

-- both say the entries of a node that is read
pub alike : (r : Result (List Raw) ℕ) → node_of r ≡ some_entries r
alike (Ok entries) = refl
alike (Err rule) = refl

pub as_plan : (read : ℕ → Result (List Raw) ℕ) (t : Tree) → Stands (nodes_of read) t → Stands (plan_nodes read) t
as_plan read t st = stands_along (nodes_of read) (plan_nodes read) t (λ v h. alike (read v)) st

as_many : (p : Place) (writes : List Write) (changes : List Change) → PutNodes p writes changes → length writes ≡ length changes
as_many p [] [] put = refl
as_many p [] (c ∷ changes) put = absurd put
as_many p (w ∷ writes) [] put = absurd put
as_many p (w ∷ writes) (c ∷ changes) put = ap suc (as_many p writes changes put.1)

-- nodes that are written are used, where they are written no more often than that
are_used : (n : ℕ → ℕ) (writes : List Write) → ((v : ℕ) → times v (written_vcns writes) ≤ n v) → AreUsed n writes
are_used n [] each = tt
are_used n (w ∷ writes) each = (let me = same_self w.vcn in let e = each w.vcn in omega arith, are_used n writes (λ v. let e = each v in omega arith))

-- the nodes of the content after the changes of a plan
pub made_nodes : (c : Content) (p : Place) (n : ℕ → ℕ) (clusters : ℕ) (fresh gone : List ℕ) (r : Rooted) (plan : DirPlan) → HasSizes c → IsLaidOut p n → (made : IsMade p clusters fresh gone r plan) → AreUsed n made.writes → (v : ℕ) → 0 < n v → nodes_of (node_of_block (content_after plan.changes.items c) p) v ≡ over (plan_nodes (node_of_block c p)) r.plan.writes v
made_nodes c p n clusters fresh gone r plan sized laid made each v here =
    nodes_after p n c made.writes plan.changes.items laid each sized made.puts v here
    ∙ sym (over_along (nodes_of (node_of_block c p)) (plan_nodes (node_of_block c p)) (reverse made.writes) (λ v. alike (node_of_block c p v)) v)
    ∙ ap (λ (l : List Write). over (plan_nodes (node_of_block c p)) l v) made.order

pub made_root : (p : Place) (clusters : ℕ) (fresh gone : List ℕ) (r : Rooted) (plan : DirPlan) → IsMade p clusters fresh gone r plan → root_at plan.root ≡ Ok r.root
made_root p clusters fresh gone r plan made = ap root_at made.root ∙ root_law.read clusters r.root made.spelled

pub made_few : (p : Place) (clusters : ℕ) (fresh gone : List ℕ) (r : Rooted) (plan : DirPlan) → IsMade p clusters fresh gone r plan → length plan.changes.items ≡ length r.plan.writes
made_few p clusters fresh gone r plan made = sym (as_many p made.writes plan.changes.items made.puts) ∙ sym (length-reverse made.writes) ∙ ap length made.order

listed : List Link → Result (List Link) Broken
listed links = Ok links

-- the root's entries, as those of the tree
root_fits : (room : ℕ) (root raws old : List Raw) → root ≡ raws → (fits_in room root ≡ true) ⊎ (root ≡ old) → (fits_in room raws ≡ true) ⊎ (raws ≡ old)
root_fits room root raws old is (inl e) = inl (sym (ap (fits_in room) is) ∙ e)
root_fits room root raws old is (inr e) = inr (sym is ∙ e)

-- an index after a plan of nodes that took its blocks from at most seventeen
pub made_index : (c : Content) (p : Place) (upper value : List ℕ) (used : ℕ) (t : Tree) (all fresh gone : List ℕ) (r : Rooted) (plan : DirPlan) (more : Bool) (keys : List Key) (freed : ℕ → ℕ) (meant : List Link)
    → HasSizes c → IsLaidOut p (uses t all) → IsMade p (clusters_of value) fresh gone r plan → Once t fresh → length fresh ≤ 17 → (more ≡ true → (f : ℕ) × (r.root ≡ last_entry (Some f) ∷ [])) → ((x : ℕ) → times x fresh ≤ times x all)
    → NewTree (plan_nodes (node_of_block c p)) t fresh keys freed (root_room used value) more r → ((x : ℕ) → freed x ≡ times x gone) → levels t + one_if more ≤ 16 → links_of keys ≡ meant → rises upper meant ≡ true → NewIndex c p upper value used t all more keys meant plan
unfolding listed
made_index c p upper value used t all fresh gone r plan more keys freed meant sized laid made once within lone among n is_gone low links ordered =
    let s : Tree = n.tree in
    let taken_fresh : (v : ℕ) → times v plan.taken.items + times v r.plan.fresh ≡ times v fresh = (λ v. sym (times-both v plan.taken.items r.plan.fresh) ∙ ap (times v) made.taken) in
    let same_writes : (v : ℕ) → times v (written_vcns made.writes) ≡ times v (written_vcns r.plan.writes) = (λ v. sym (times-reverse v made.writes) ∙ ap (λ (l : List Write). times v (written_vcns l)) made.order) in
    let placed : (v : ℕ) → times v (written_vcns made.writes) ≤ held v s = (λ v. omega (arith, same_writes v, n.placed v)) in
    let numbers : (v : ℕ) → held v s + times v r.plan.fresh + times v gone ≡ held v t + times v fresh = (λ v. omega (arith, n.numbers v, is_gone v)) in
    let each : AreUsed (uses t all) made.writes = are_used (uses t all) made.writes (λ v. omega (arith, placed v, numbers v, among v)) in
    let names : links_of (walk s) ≡ meant = ap links_of n.walked ∙ links in
    let holds : HoldsIndex (content_after plan.changes.items c) p upper plan.root s = record {
      entries = r.root;
      root_read = made_root p (clusters_of value) fresh gone r plan made;
      is_index = record {
        root_is = n.root;
        stands = stands_along (over (plan_nodes (node_of_block c p)) r.plan.writes) (nodes_of (node_of_block (content_after plan.changes.items c) p)) s
            (λ v h. made_nodes c p (uses t all) (clusters_of value) fresh gone r plan sized laid made each v (omega (arith, h, numbers v, among v))) n.stands;
        once = λ v. omega (arith, numbers v, once v);
        height = omega (arith, n.height, low);
        ordered = ap (rises upper) names ∙ ordered;
      };
    } in
    record {
      tree = s;
      holds = holds;
      root = made.root ∙ ap (root_spelling (clusters_of value)) n.root;
      writes = made.writes;
      puts = made.puts;
      placed = placed;
      has_keys = n.walked;
      links = links;
      walked = walk_passes (content_after plan.changes.items c) p upper plan.root s holds ∙ ap listed names;
      numbers = λ v. omega (arith, ap (times v) made.freed, taken_fresh v, numbers v);
      height = n.height;
      has_room = λ m. root_fits (root_room used value) r.root (raws_of s) (raws_of t) n.root (n.has_room m);
      one_entry = λ m. let o = lone m in (omega (arith, low, ap one_if m), (o.0, sym n.root ∙ o.1));
      written = omega (arith, made_few p (clusters_of value) fresh gone r plan made, n.written);
      apart = one_each p (uses t all) made.writes plan.changes.items laid each made.puts (λ v. omega (arith, placed v, numbers v, once v));
      few = omega (arith, ap length made.taken, length-append plan.taken.items r.plan.fresh, within);
      among = λ v. omega (arith, taken_fresh v, among v);
    }

-- and one that took them from seventeen
pub new_index : (c : Content) (p : Place) (upper value : List ℕ) (used : ℕ) (t : Tree) (all fresh gone : List ℕ) (r : Rooted) (plan : DirPlan) (more : Bool) (keys : List Key) (freed : ℕ → ℕ) (meant : List Link)
    → HasSizes c → IsLaidOut p (uses t all) → IsMade p (clusters_of value) fresh gone r plan → Once t fresh → length fresh ≡ 17 → ((x : ℕ) → times x fresh ≤ times x all)
    → NewTree (plan_nodes (node_of_block c p)) t fresh keys freed (root_room used value) more r → ((x : ℕ) → freed x ≡ times x gone) → levels t + one_if more ≤ 16 → links_of keys ≡ meant → rises upper meant ≡ true → NewIndex c p upper value used t all more keys meant plan
new_index c p upper value used t all fresh gone r plan more keys freed meant sized laid made once seventeen_all among n =
    made_index c p upper value used t all fresh gone r plan more keys freed meant sized laid made once (omega (arith, seventeen_all)) (λ m. n.one_entry m (omega (arith, seventeen_all))) among n

-- the nodes after an insertion
pub inserted_nodes : (c : Content) (p : Place) (upper value : List ℕ) (used : ℕ) (key : Key) (fresh : List ℕ) (root : List Raw) (r : Rooted) (t : Tree)
    → root_at value ≡ Ok root → InsertsInto (plan_nodes (node_of_block c p)) (goes upper (link_of key).name) key (seventeen fresh) root (root_room used value) r → HoldsIndex c p upper value t → Once t (seventeen fresh)
    → NewTree (plan_nodes (node_of_block c p)) t (seventeen fresh) (put (goes upper (link_of key).name) key (walk t)) (λ x. 0) (root_room used value) (needs_level upper (root_room used value) key (seventeen fresh) t) r
inserted_nodes c p upper value used key fresh root r t read inserts h few =
    let names : AreNames (walk t) = index_names c p upper value t h in
    inserts t (root_raws c p upper value root t read h) (as_plan (node_of_block c p) t h.is_index.stands) few (keys_rise upper (link_of key).name (walk t) names h.is_index.ordered) h.is_index.height

-- the index after an insertion
pub inserted : (c : Content) (p : Place) (upper value : List ℕ) (used : ℕ) (key : Key) (fresh : List ℕ) (r : Rooted) (plan : DirPlan) (t : Tree)
    → HasSizes c → 17 ≤ length fresh → is_file_name key.value ≡ true → IsMade p (clusters_of value) (seventeen fresh) [] r plan
    → NewTree (plan_nodes (node_of_block c p)) t (seventeen fresh) (put (goes upper (link_of key).name) key (walk t)) (λ x. 0) (root_room used value) (needs_level upper (root_room used value) key (seventeen fresh) t) r
    → HoldsIndex c p upper value t → levels t + one_if (needs_level upper (root_room used value) key (seventeen fresh) t) ≤ 16 → Once t fresh → IsLaidOut p (uses t fresh)
    → NewIndex c p upper value used t fresh (needs_level upper (root_room used value) key (seventeen fresh) t) (put (goes upper (link_of key).name) key (walk t)) (put_link upper (link_of key) (links_of (walk t))) plan
inserted c p upper value used key fresh r plan t sized enough lawful made n h low once laid =
    let names : AreNames (walk t) = index_names c p upper value t h in
    new_index c p upper value used t fresh (seventeen fresh) [] r plan (needs_level upper (root_room used value) key (seventeen fresh) t) (put (goes upper (link_of key).name) key (walk t)) (λ x. 0) (put_link upper (link_of key) (links_of (walk t))) sized laid made (once_fewer t 17 fresh once)
    (omega (arith, enough, length-take 17 fresh)) (λ x. times-take x 17 fresh) n (λ x. refl) low (put_links upper key (link_of key) (walk t) names (key_link_is key lawful)) (put_rises upper (link_of key) (links_of (walk t)) h.is_index.ordered)
