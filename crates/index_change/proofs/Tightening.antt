-- Ways in an index lead through nodes of the size of a block.
use Rattle.std.proofs.Common.{◌∙◌, ◌≡◌, ℕ, ◌+◌, ◌≤◌, ◌<◌, Bool, true, false, List, [], ◌∷◌, ◌++◌, All, length, length-append, leb, Option, Some, None, Result, Ok, refl, sym, ap, subst, ◌⊎◌, inl, inr, arith}
use Rattle.std.specs.Prelude.{IsTrue, insert, if◌then◌else◌}
use Rattle.std.proofs.lemmas.Bool.Decides.{leb_tells}
use Rattle.std.proofs.lemmas.List.{length-take}
use Rattle.std.proofs.lemmas.List.Elements.{All-nil, All-cons}
use Rattle.record_model.specs.disk_model.Content.{Content}
use Rattle.record_model.specs.declared.entry.Entry.{Entry as Raw}
use Rattle.record_model.specs.Nodes.{root_at, entry_length, entries_length}
use Rattle.record_model.specs.Values.{is_file_name}
use Rattle.index_tree.specs.file_tree.declared.link.Link.{Link}
use Rattle.index_tree.specs.index_model.declared.key.Key.{Key}
use Rattle.index_tree.specs.index_model.Trees.{Tree, Leaf, Down, Entry, DownEntry, walk, levels, one_if, raw, raws_of, Stands}
use Rattle.index_tree.specs.index_model.Indexes.{Place as Region, node_of_block, nodes_of}
use Rattle.index_tree.specs.index_model.Laws.{HoldsIndex}
use Rattle.index_tree.proofs.index_model.Complete.{some_levels}
use Rattle.index_tree.specs.index_model.Walks.{root_vcn}
use Rattle.index_plan.specs.declared.write.Write.{Write}
use Rattle.index_plan.specs.Paths.{Path, Here, Below, Behind, subtree}
use Rattle.index_plan.specs.Plans.{Plan, Spot}
use Rattle.index_plan.specs.Growth.{fits_in}
use Rattle.index_plan.specs.Lists.{Rise, rise, place, spot, way, rooted, overfull, overfull_by}
use Rattle.index_plan.specs.declared.plan.Rooted.{Rooted}
use Rattle.index_plan.specs.Room.{Sized, tight_count, EachSpotSized, EachNodeSized}
use Rattle.index_plan.specs.Search.{path_to}
use Rattle.index_plan.specs.declared.place.Place.{Place}
use Rattle.index_plan.specs.declared.side.KeySide.TheVariants as sides
use Rattle.index_plan.specs.Seeking.{NoneHere, seek_of}
use Rattle.index_plan.specs.Takings.{last_chain, first_chain, drawn, none_drawn, key_of, plan_with, too_full}
use Rattle.index_plan.specs.Laws.{Sought, PlansAlong, TakesFewOut, inserted_by}
use Rattle.index_plan.proofs.Fitting.{bytes_is}
use Rattle.index_plan.proofs.Halves.{bytes, fits_bytes, insert_bytes}
use Rattle.index_plan.proofs.Levels.{level_law}
use Rattle.index_plan.proofs.Sought.{Finds, TheHit, seeks}
use Rattle.index_plan.proofs.Ways.{first_place, read_way}
use Rattle.index_change.specs.declared.plan.DirPlan.{DirPlan}
use Rattle.index_change.specs.Orders.{goes, link_of, stands}
use Rattle.index_change.specs.Plans.{root_room, seventeen, needs_level, has_blocks, bytes_more, IsMade}
use Rattle.index_change.specs.Removals.{NeedsLevelWithout, TakesLittleOut}
use Rattle.index_change.proofs.InOrders.{in_order, at_middle}
use Rattle.index_change.proofs.Knowing.{along}
use Rattle.index_change.proofs.Lawful.{some_read, index_names}
use Rattle.index_change.proofs.Sizing.{short_key, block_sized, tight_record}
use Rattle.index_change.proofs.NewIndexes.{as_plan}
use Rattle.index_change.proofs.Tall.{root_raws}

abbrev Read : Type 0
Read = ℕ → Result (List Raw) ℕ

-- nodes that are read have the size of a block
abbrev pub ReadsSized : Read → Type 0
ReadsSized read = (v : ℕ) (entries : List Raw) → read v ≡ Ok entries → Sized entries

here : (read : Read) → ReadsSized read → (v : ℕ) (t : Tree) → nodes_of read v ≡ Some (raws_of t) → Sized (raws_of t)
here read each v t e = each v (raws_of t) (some_read (read v) (raws_of t) e)

way_sized : (read : Read) → ReadsSized read → (p : Path) (t : Tree) → Stands (nodes_of read) t → EachSpotSized (way p t)
way_sized read each Here t st = All-nil (λ (s : Spot). Sized s.node)
way_sized read each (Below p) Leaf st = All-nil (λ (s : Spot). Sized s.node)
way_sized read each (Below p) (Down v t) st = All-cons (λ (s : Spot). Sized s.node) (spot v t p) (way p t) (here read each v t st.0) (way_sized read each p t st.1)
way_sized read each (Below p) (Entry key rest) st = All-nil (λ (s : Spot). Sized s.node)
way_sized read each (Below p) (DownEntry v t key rest) st = All-cons (λ (s : Spot). Sized s.node) (spot v t p) (way p t) (here read each v t st.0) (way_sized read each p t st.1)
way_sized read each (Behind p) Leaf st = All-nil (λ (s : Spot). Sized s.node)
way_sized read each (Behind p) (Down v t) st = All-nil (λ (s : Spot). Sized s.node)
way_sized read each (Behind p) (Entry key rest) st = way_sized read each p rest st
way_sized read each (Behind p) (DownEntry v t key rest) st = way_sized read each p rest st.2

way_short : (p : Path) (t : Tree) → length (way p t) + 1 ≤ levels t
way_short Here t = let s = some_levels t in omega arith
way_short (Below p) Leaf = omega arith
way_short (Below p) (Down v t) = let w = way_short p t in omega arith
way_short (Below p) (Entry key rest) = let s = some_levels rest in omega arith
way_short (Below p) (DownEntry v t key rest) = let w = way_short p t in omega arith
way_short (Behind p) Leaf = omega arith
way_short (Behind p) (Down v t) = let s = some_levels t in omega arith
way_short (Behind p) (Entry key rest) = way_short p rest
way_short (Behind p) (DownEntry v t key rest) = let w = way_short p rest in omega arith

part_stands : (read : Read) (p : Path) (t s : Tree) → subtree p t ≡ Some s → Stands (nodes_of read) t → Stands (nodes_of read) s
part_stands read Here t s e st = let same : t ≡ s = cc in subst (Stands (nodes_of read)) same st
part_stands read (Below p) Leaf s e st = absurd cc
part_stands read (Below p) (Down v t) s e st = part_stands read p t s e st.1
part_stands read (Below p) (Entry key rest) s e st = absurd cc
part_stands read (Below p) (DownEntry v t key rest) s e st = part_stands read p t s e st.1
part_stands read (Behind p) Leaf s e st = absurd cc
part_stands read (Behind p) (Down v t) s e st = absurd cc
part_stands read (Behind p) (Entry key rest) s e st = part_stands read p rest s e st
part_stands read (Behind p) (DownEntry v t key rest) s e st = part_stands read p rest s e st.2

node : ℕ → List Raw → Write
node v entries = record { vcn = v; entries = entries }

last_sized : (read : Read) → ReadsSized read → (t : Tree) → Stands (nodes_of read) t → EachNodeSized (last_chain t)
unfolding node
last_sized read each Leaf st = All-nil (λ (w : Write). Sized w.entries)
last_sized read each (Down v t) st = All-cons (λ (w : Write). Sized w.entries) (node v (raws_of t)) (last_chain t) (here read each v t st.0) (last_sized read each t st.1)
last_sized read each (Entry key rest) st = last_sized read each rest st
last_sized read each (DownEntry v t key rest) st = last_sized read each rest st.2

chain_sized : (read : Read) → ReadsSized read → (t : Tree) → Stands (nodes_of read) t → EachNodeSized (first_chain t)
unfolding node
chain_sized read each Leaf st = All-nil (λ (w : Write). Sized w.entries)
chain_sized read each (Down v t) st = All-nil (λ (w : Write). Sized w.entries)
chain_sized read each (Entry key rest) st = All-nil (λ (w : Write). Sized w.entries)
chain_sized read each (DownEntry v t key rest) st = All-cons (λ (w : Write). Sized w.entries) (node v (raws_of t)) (last_chain t) (here read each v t st.0) (last_sized read each t st.1)

all_seventeen : (fresh : List ℕ) → 17 ≤ length fresh → length (seventeen fresh) ≡ 17
all_seventeen fresh enough = omega (arith, length-take {A = ℕ})

-- ---- an index without blocks

no_way : (g : Key → Bool) (t : Tree) → has_blocks t ≡ false → way (path_to g t) t ≡ []
no_way g Leaf e = refl
no_way g (Down v t) e = absurd cc
no_way g (Entry key rest) e = choose (g key) (no_way g rest e)
  where
    choose : (b : Bool) → way (path_to g rest) rest ≡ [] → way (if b then Here else Behind (path_to g rest)) (Entry key rest) ≡ []
    choose true later = refl
    choose false later = later
no_way g (DownEntry v t key rest) e = absurd cc

own_bytes : (room : ℕ) (root : List Raw) (at : ℕ) (e : Raw) → overfull_by room root at (Some e) ≡ true → room < entries_length root + entry_length e
own_bytes room root at e full = tell (fits_in room (insert root at e)) refl full
  where
    tell : (b : Bool) → fits_in room (insert root at e) ≡ b → (if b then false else true) ≡ true → room < entries_length root + entry_length e
    tell true is full' = absurd cc
    tell false is full' = more (leb_tells (bytes (insert root at e)) room)
      where
        more : ((leb (bytes (insert root at e)) room ≡ true) × (bytes (insert root at e) ≤ room)) ⊎ ((leb (bytes (insert root at e)) room ≡ false) × (room < bytes (insert root at e))) → room < entries_length root + entry_length e
        more (inl h) = let fit : fits_in room (insert root at e) ≡ true = (fits_bytes room (insert root at e)).1 h.1 in absurd cc
        more (inr h) = let b = insert_bytes root at e in let s = bytes_is root in omega arith

start_of : Key → List ℕ → Rise
start_of key fresh = record { pending = Some (raw key None); plan = record { writes = []; fresh = fresh } }

own_level : (room : ℕ) (root : List Raw) (at : ℕ) (key : Key) (fresh : List ℕ) (path : List Spot) → path ≡ [] → overfull room root at (rise path (start_of key fresh)) ≡ true → room < entries_length root + entry_length (raw key None)
unfolding overfull start_of
own_level room root at key fresh path none full =
    own_bytes room root at (raw key None) (subst (λ (w : List Spot). overfull room root at (rise w (start_of key fresh)) ≡ true) none full)

-- how many fresh blocks a removal takes at a place
abbrev Bound : List ℕ → ℕ → List Raw → Rooted → ℕ → List Spot → List Write → Type 0
Bound fresh room root r at path chain =
    let d = drawn none_drawn chain in
    length fresh ≤ length r.plan.fresh + tight_count path + one_if (too_full room root at path (key_of d.taken) (plan_with (record { writes = []; fresh = fresh }) d.taken))

module _ (c : Content) (p : Region) (upper value : List ℕ) (used : ℕ) (fresh : List ℕ) (root : List Raw) (t : Tree) (read : root_at value ≡ Ok root) (h : HoldsIndex c p upper value t) (enough : 17 ≤ length fresh) where
  as_root : (n : ℕ) → root_room used value < entries_length (raws_of t) + n → 1024 < used + n
  as_root n lt = tight_record used n value root read (subst (λ (r : List Raw). root_room used value < entries_length r + n) (sym (root_raws c p upper value root t read h)) lt)

  -- a level is needed only where the record would have more than 1,024 used bytes with 600 more
  with_blocks : (key : Key) → is_file_name key.value ≡ true → IsTrue (needs_level upper (root_room used value) key (seventeen fresh) t) → 1024 < used + 600
  with_blocks key lawful more =
      let to = path_to (goes upper (link_of key).name) t in
      let short = way_short to t in
      as_root 600 (level_law.inserts (root_room used value) (raws_of t) (place to) (way to t) key (record { writes = []; fresh = seventeen fresh }) refl (way_sized (node_of_block c p) (block_sized c p) to t h.is_index.stands)
      (omega (arith, short, h.is_index.height, all_seventeen fresh enough)) (short_key key.value lawful) more)

  without_blocks : (key : Key) → has_blocks t ≡ false → IsTrue (needs_level upper (root_room used value) key (seventeen fresh) t) → 1024 < used + entry_length (raw key None)
  unfolding start_of
  without_blocks key none more =
      let to = path_to (goes upper (link_of key).name) t in
      as_root (entry_length (raw key None)) (own_level (root_room used value) (raws_of t) (place to) key (seventeen fresh) (way to t) (no_way (goes upper (link_of key).name) t none) more)

  pub tight_if_higher : (key : Key) → is_file_name key.value ≡ true → IsTrue (needs_level upper (root_room used value) key (seventeen fresh) t) → 1024 < used + bytes_more key t
  tight_if_higher key lawful more = choose (has_blocks t) refl
    where
      choose : (b : Bool) → has_blocks t ≡ b → 1024 < used + (if b then 600 else entry_length (raw key None))
      choose true e = with_blocks key lawful more
      choose false e = without_blocks key e more

  pub tight_if_higher_without : (l : Link) → NeedsLevelWithout upper (root_room used value) l (seventeen fresh) t → 1024 < used + 600
  tight_if_higher_without l n =
      let to = n.sought.way_to in
      let short = way_short to t in
      as_root 600 (level_law.removes (root_room used value) (raws_of t) (place to) (way to t) (first_chain n.sought.part) (record { writes = []; fresh = seventeen fresh }) refl (way_sized (node_of_block c p) (block_sized c p) to t h.is_index.stands)
      (chain_sized (node_of_block c p) (block_sized c p) n.sought.part (part_stands (node_of_block c p) to t n.sought.part n.sought.leads h.is_index.stands)) (omega (arith, short, h.is_index.height, all_seventeen fresh enough)) n.full)

  -- ---- blocks that are taken

  pub few_taken : (key : Key) (r : Rooted) (taken : List ℕ) → PlansAlong (node_of_block c p) (goes upper (link_of key).name) key (record { writes = []; fresh = seventeen fresh }) root (root_room used value) r → taken ++ r.plan.fresh ≡ seventeen fresh
      → length taken ≤ tight_count (way (path_to (goes upper (link_of key).name) t) t) + one_if (needs_level upper (root_room used value) key (seventeen fresh) t)
  unfolding start_of
  few_taken key r taken takes all =
      let g = goes upper (link_of key).name in
      let to = path_to g t in
      let plan0 : Plan = record { writes = []; fresh = seventeen fresh } in
      let f = subst (λ (rt : List Raw). PlansAlong (node_of_block c p) g key plan0 rt (root_room used value) r) (root_raws c p upper value root t read h) takes in
      let n = (f (way to t) (read_way (node_of_block c p) g t (as_plan (node_of_block c p) t h.is_index.stands) h.is_index.height)).1 in
      let q = ap (λ (i : ℕ). one_if (overfull (root_room used value) (raws_of t) i (rise (way to t) (start_of key (seventeen fresh))))) (first_place g t) in
      omega (arith, n, q, ap length all, length-append taken r.plan.fresh)

  -- the plan is that of the tree
  pub planned_is : (key : Key) (r : Rooted) → PlansAlong (node_of_block c p) (goes upper (link_of key).name) key (record { writes = []; fresh = seventeen fresh }) root (root_room used value) r
      → r ≡ rooted (root_room used value) (raws_of t) (place (path_to (goes upper (link_of key).name) t)) (inserted_by (path_to (goes upper (link_of key).name) t) key (seventeen fresh) t)
  planned_is key r along_it =
      let g = goes upper (link_of key).name in
      let plan0 : Plan = record { writes = []; fresh = seventeen fresh } in
      let f = subst (λ (rt : List Raw). PlansAlong (node_of_block c p) g key plan0 rt (root_room used value) r) (root_raws c p upper value root t read h) along_it in
      let is = (f (way (path_to g t) t) (read_way (node_of_block c p) g t (as_plan (node_of_block c p) t h.is_index.stands) h.is_index.height)).0 in
      is ∙ ap (λ (i : ℕ). rooted (root_room used value) (raws_of t) i (inserted_by (path_to g t) key (seventeen fresh) t)) (first_place g t)

  -- the place of a key that is found
  few_at : (clusters : ℕ) (l : Link) (gone : List ℕ) (r : Rooted) (plan : DirPlan) (s : Place) (hit : TheHit (stands upper l) t 0 s) → seek_of (node_of_block c p) (stands upper l) (raws_of t) ≡ Ok (Some s)
      → TakesFewOut (node_of_block c p) (stands upper l) (record { writes = []; fresh = seventeen fresh }) (raws_of t) (root_room used value) r → IsMade p clusters (seventeen fresh) gone r plan → TakesLittleOut upper (root_room used value) l (seventeen fresh) t plan
  few_at clusters l gone r plan s hit found takes made =
      let at : s.at ≡ place hit.way_to = omega (arith, hit.at) in
      let n = along (Bound (seventeen fresh) (root_room used value) (raws_of t) r) _ _ _ _ _ _ at hit.path hit.chain (takes s found) in
      let sought : Sought (stands upper l) t = record { key = hit.key; here = hit.here; way_to = hit.way_to; part = hit.part; leads = hit.leads; starts = hit.starts } in
      record { sought = sought; taken = omega (arith, n, ap length made.taken, length-append plan.taken.items r.plan.fresh) }

  few_found : (clusters : ℕ) (l : Link) (gone : List ℕ) (r : Rooted) (plan : DirPlan) (before : List Key) (k : Key) (behind : List Key) (o : Option Place) → stands upper l k ≡ sides.Here → walk t ≡ before ++ k ∷ behind → Finds (stands upper l) t 0 o → seek_of (node_of_block c p) (stands upper l) (raws_of t) ≡ Ok o
      → TakesFewOut (node_of_block c p) (stands upper l) (record { writes = []; fresh = seventeen fresh }) (raws_of t) (root_room used value) r → IsMade p clusters (seventeen fresh) gone r plan → TakesLittleOut upper (root_room used value) l (seventeen fresh) t plan
  few_found clusters l gone r plan before k behind None here had finds found takes made =
      let none : All (λ (x : Key). stands upper l x ≡ sides.Here → ⊥) (before ++ k ∷ behind) = subst (NoneHere (stands upper l)) had (finds (in_order upper l (walk t) (index_names c p upper value t h) h.is_index.ordered)) in
      absurd (at_middle (λ (x : Key). stands upper l x ≡ sides.Here → ⊥) before k behind none here)
  few_found clusters l gone r plan before k behind (Some s) here had finds found takes made = few_at clusters l gone r plan s finds found takes made

  pub few_taken_out : (clusters : ℕ) (l : Link) (gone : List ℕ) (r : Rooted) (plan : DirPlan) (before : List Key) (k : Key) (behind : List Key) → stands upper l k ≡ sides.Here → walk t ≡ before ++ k ∷ behind → TakesFewOut (node_of_block c p) (stands upper l) (record { writes = []; fresh = seventeen fresh }) root (root_room used value) r → IsMade p clusters (seventeen fresh) gone r plan
      → TakesLittleOut upper (root_room used value) l (seventeen fresh) t plan
  few_taken_out clusters l gone r plan before k behind here had takes made =
      let plan0 : Plan = record { writes = []; fresh = seventeen fresh } in
      let f = subst (λ (rt : List Raw). TakesFewOut (node_of_block c p) (stands upper l) plan0 rt (root_room used value) r) (root_raws c p upper value root t read h) takes in
      let s = seeks (node_of_block c p) (stands upper l) t 15 root_vcn 0 (as_plan (node_of_block c p) t h.is_index.stands) h.is_index.height in
      few_found clusters l gone r plan before k behind s.0 here had s.2 s.1 f made
