-- What a plan that puts a key in answers, over a content that may be known.
use Rattle.std.proofs.Common.{◌≡◌, ℕ, ◌+◌, ◌<◌, ◌≤◌, Bool, true, false, List, [], length, Option, Some, None, Ok, Err, refl, sym, ◌∙◌, subst, ◌⊎◌, inl, inr, arith}
use Rattle.std.specs.Prelude.{IfSome, IsTrue}
use Rattle.record_model.specs.disk_model.Content.{Content}
use Rattle.record_model.specs.declared.entry.Entry.{Entry as Raw}
use Rattle.record_model.specs.Nodes.{root_at}
use Rattle.record_model.specs.Values.{is_file_name}
use Rattle.index_tree.specs.index_model.declared.key.Key.{Key}
use Rattle.index_tree.specs.index_model.Trees.{Tree, walk, levels, one_if}
use Rattle.index_tree.specs.index_model.Indexes.{Place, node_of_block}
use Rattle.index_tree.specs.index_model.Laws.{HoldsIndex}
use Rattle.index_plan.specs.declared.plan.Rooted.{Rooted}
use Rattle.index_plan.specs.Reading.{nodes_of}
use Rattle.index_plan.specs.Laws.{InsertsInto, LevelFits, NeedsLevel, NewTree, PlansAlong}
use Rattle.index_plan.specs.Search.{put}
use Rattle.index_tree.specs.declared.fault.TreeFault.TheVariants.{Deep}
use Rattle.index_change.specs.declared.nodes_plan.NodesPlan.{NodesPlan}
use Rattle.index_change.specs.Heights.{height_of}
use Rattle.index_change.specs.Orders.{goes, link_of}
use Rattle.index_change.specs.NodePlans.{IsDrawn, PlansNew}
use Rattle.index_change.specs.Plans.{root_room, seventeen, needs_level, PutsNew}
use Rattle.index_change.proofs.Joining.{drawn_is}
use Rattle.index_change.proofs.NewIndexes.{inserted_nodes, as_plan}
use Rattle.index_change.proofs.Sizing.{short_key}
use Rattle.index_change.proofs.Tightening.{tight_if_higher, few_taken, planned_is}
use Rattle.index_change.proofs.Tall.{root_raws, index_height}

module _ (p : Place) (upper value name : List ℕ) (used : ℕ) (key : Key) (fresh : List ℕ) (root : List Raw) where
  abbrev room : ℕ
  room = root_room used value

  -- of each index, the plan puts the key in
  abbrev pub PutsIn : Content → Rooted → Type 0
  PutsIn c r = InsertsInto (nodes_of (node_of_block c p)) (goes upper name) key (seventeen fresh) root room r

  abbrev pub LevelIn : ℕ → Content → Type 0
  LevelIn height c = LevelFits (nodes_of (node_of_block c p)) (goes upper name) key (seventeen fresh) root room height

  abbrev pub NeedsIn : Content → Type 0
  NeedsIn c = NeedsLevel (nodes_of (node_of_block c p)) (goes upper name) key (seventeen fresh) root room

  -- the number by which a level is judged: the most, or that of the index
  abbrev pub Judged : Content → ℕ → Type 0
  Judged c height = (height ≡ 16) ⊎ (height ≡ height_of (node_of_block c p) root)

  -- blocks are taken only where there is no room
  abbrev pub FewIn : Rooted → Content → Type 0
  FewIn r c = length key.value ≤ 576 → PlansAlong (node_of_block c p) (goes upper name) key (record { writes = []; fresh = seventeen fresh }) root room r

  low_enough : (more : Bool) (n height : ℕ) → (IsTrue more → height < 16) → n ≤ 16 → (height ≡ 16) ⊎ (height ≡ n) → n + one_if more ≤ 16
  low_enough true n height fits low (inl e) = let f = fits refl in absurd (omega arith)
  low_enough true n height fits low (inr e) = let f = fits refl in omega arith
  low_enough false n height fits low j = omega arith

  judged : (c : Content) (height : ℕ) (t : Tree) → root_at value ≡ Ok root → HoldsIndex c p upper value t → Judged c height → (height ≡ 16) ⊎ (height ≡ levels t)
  judged c height t read h (inl e) = inl e
  judged c height t read h (inr e) = inr (e ∙ index_height c p upper value root t read h)

  puts : (c : Content) (r : Rooted) (n : NodesPlan) (height : ℕ) → 17 ≤ length fresh → root_at value ≡ Ok root → is_file_name key.value ≡ true → name ≡ (link_of key).name → PutsIn c r → LevelIn height c → FewIn r c → Judged c height → IsDrawn (seventeen fresh) r n → PlansNew c p upper value used key fresh (Ok n)
  puts c r n height enough read lawful same puts_in level few j drawn t h once =
      let into = subst (λ (n : List ℕ). InsertsInto (nodes_of (node_of_block c p)) (goes upper n) key (seventeen fresh) root room r) same puts_in in
      let fits = subst (λ (n : List ℕ). LevelFits (nodes_of (node_of_block c p)) (goes upper n) key (seventeen fresh) root room height) same level in
      let st = as_plan (node_of_block c p) t h.is_index.stands in
      let more : Bool = needs_level upper room key (seventeen fresh) t in
      let takes = subst (λ (n : List ℕ). PlansAlong (node_of_block c p) (goes upper n) key (record { writes = []; fresh = seventeen fresh }) root room r) same (few (short_key key.value lawful)) in
      record {
        becomes = subst (λ (x : Rooted). NewTree (nodes_of (node_of_block c p)) t (seventeen fresh) (put (goes upper (link_of key).name) key (walk t)) (λ x. 0) room more x) (drawn_is (seventeen fresh) r n drawn) (inserted_nodes c p upper value used key fresh root r t read into h once);
        is = sym (drawn_is (seventeen fresh) r n drawn) ∙ planned_is c p upper value used fresh root t read h enough key r takes;
        low = low_enough more (levels t) height (fits t (root_raws c p upper value root t read h) st h.is_index.height) h.is_index.height (judged c height t read h j);
        level = tight_if_higher c p upper value used fresh root t read h enough key lawful;
        few = few_taken c p upper value used fresh root t read h enough key r n.taken.items takes drawn.taken;
      }

  -- a plan that is made
  pub puts_known : (known now : Option Content) (r : Rooted) (n : NodesPlan) (height : ℕ) → now ≡ known → 17 ≤ length fresh → root_at value ≡ Ok root → is_file_name key.value ≡ true → name ≡ (link_of key).name
      → IfSome now (λ c. PutsIn c r) → IfSome now (LevelIn height) → IfSome now (FewIn r) → IfSome now (λ c. Judged c height) → IsDrawn (seventeen fresh) r n → IfSome known (λ c. PlansNew c p upper value used key fresh (Ok n))
  puts_known None now r n height e enough read lawful same a b f j drawn = tt
  puts_known (Some c) now r n height e enough read lawful same a b f j drawn =
      puts c r n height enough read lawful same (subst (λ (o : Option Content). IfSome o (λ c. PutsIn c r)) e a) (subst (λ (o : Option Content). IfSome o (LevelIn height)) e b) (subst (λ (o : Option Content). IfSome o (FewIn r)) e f) (subst (λ (o : Option Content). IfSome o (λ c. Judged c height)) e j) drawn

  deep : (c : Content) (height : ℕ) → 17 ≤ length fresh → root_at value ≡ Ok root → is_file_name key.value ≡ true → name ≡ (link_of key).name → 16 ≤ height → NeedsIn c → height ≡ height_of (node_of_block c p) root → PutsNew c p upper value used key fresh (Err (Deep height))
  deep c height enough read lawful same high needs is t h =
      let more = subst (λ (n : List ℕ). NeedsLevel (nodes_of (node_of_block c p)) (goes upper n) key (seventeen fresh) root room) same needs in
      let levels_are : levels t ≡ height = sym (is ∙ index_height c p upper value root t read h) in
      let low = h.is_index.height in
      let needed : IsTrue (needs_level upper room key (seventeen fresh) t) = more t (root_raws c p upper value root t read h) (as_plan (node_of_block c p) t h.is_index.stands) low in
      (levels_are, omega (arith, levels_are, low, high), needed, tight_if_higher c p upper value used fresh root t read h enough key lawful needed)

  -- there are sixteen levels
  pub deep_known : (known now : Option Content) (height h : ℕ) → now ≡ known → 17 ≤ length fresh → root_at value ≡ Ok root → is_file_name key.value ≡ true → name ≡ (link_of key).name → h ≡ height → 16 ≤ height → IfSome now NeedsIn → IfSome now (λ c. height ≡ height_of (node_of_block c p) root) → IfSome known (λ c. PlansNew c p upper value used key fresh (Err (Deep h)))
  deep_known None now height h e enough read lawful same is high needs j = tt
  deep_known (Some c) now height h e enough read lawful same is high needs j =
      subst (λ (k : ℕ). PutsNew c p upper value used key fresh (Err (Deep k))) (sym is)
      (deep c height enough read lawful same high (subst (λ (o : Option Content). IfSome o NeedsIn) e needs) (subst (λ (o : Option Content). IfSome o (λ c. height ≡ height_of (node_of_block c p) root)) e j))
