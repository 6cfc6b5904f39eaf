-- The index of a directory has a level more: the entries of its root went into a fresh block.
use Rattle.std.proofs.Common.{◌≡◌, ◌≢◌, ℕ, ◌*◌, ◌/◌, ◌%◌, ◌<◌, ◌≤◌, ◌^◌, false, ◌&&◌, cond, eqb, ltb, List, [], ◌∷◌, Option, Some, None, Result, Ok, Err, refl, sym, ap, subst, ◌∙◌, inl, inr, arith}
use Rattle.std.specs.Prelude.{map}
use Rattle.std.specs.List.{range_with_len, slice_get}
use Rattle.std.proofs.lemmas.Bool.{cases_lt, cases_eq, ne_eqb, eq-eqb}
use Rattle.std.proofs.lemmas.List.Elements.{All-nil, All-cons}
use Rattle.disk_model.specs.declared.block.Block.{Block}
use Rattle.disk_model.specs.Bodies.{BodyOf}
use Rattle.disk_model.specs.Content.{Content, HasSizes}
use Rattle.record_model.specs.declared.entry.Entry.{Entry}
use Rattle.record_model.specs.declared.runs.Run.{Run}
use Rattle.record_model.specs.Nodes.{last_entry, down_flag, children_of, entry_length, node_used}
use Rattle.record_model.specs.Records.{Record}
use Rattle.index_model.specs.Indexes.{Place, node_block, node_of_body, node_of_part, node_of_block, is_index_body, some_entries, nodes_of}
use Rattle.index_model.specs.Laws.{HoldsIndex}
use Rattle.index_model.specs.Trees.{Tree, Leaf, Down, Entry as TreeEntry, DownEntry, Stands as TreeStands, raws_of, held, same, one_if}
use Rattle.index_model.proofs.WalkLaw.{walk_passes}
use Rattle.index_node.specs.Roots.{root_spelling, HaveSpelling}
use Rattle.index_node.proofs.RootSpelled.{root_law}
use Rattle.state_model.specs.declared.geometry.Geometry.{Geometry}
use Rattle.state_model.specs.declared.stream.Extents.{Extents}
use Rattle.volume_model.specs.Indexes.{index_block, block_count, void_block, index_place, index_links, links_below, links_read}
use Rattle.volume_model.specs.Volumes.{Volume, upper_of}
use Rattle.plan_bodies.specs.Bodies.{NewBody, content_with}
use Rattle.plan_owners.specs.States.{Stands}
use Rattle.plan_edits.specs.index_change.Plans.{clusters_of}
use Rattle.plan_edits.specs.plan_model.Informed.{with_record}
use Rattle.plan_blocks.specs.Blocks.{blocks_before, blocks_behind}
use Rattle.plan_blocks.specs.Levels.{RaisesIndex, IsRaised, PutsLevel, LevelCame}
use Rattle.plan_blocks.proofs.Placing.{get_of, get_past, no_body}
use Rattle.plan_blocks.proofs.Raising as raising

-- ---- nodes by number, where a block has one VCN

module _ (c : Content) (g : ℕ → Block) (n : ℕ) where
  abbrev blocks : List Block
  blocks = map g (range_with_len 0 n)

  node_by : (step i : ℕ) → step ≡ 1 → node_of_block c (record { blocks = blocks; step = step }) i ≡ node_of_part c i (slice_get blocks i)
  unfolding node_of_block node_block
  node_by step i one =
      let rest : i % 1 ≡ 0 = omega arith in
      let number : i / 1 ≡ i = omega arith in
      ap (λ (x : ℕ). node_of_part c i (cond (ltb 0 x && eqb (i % x) 0) (slice_get blocks (cond (eqb x 0) 0 (i / x))) None)) one
      ∙ ap (λ (x : ℕ). node_of_part c i (cond (eqb x 0) (slice_get blocks (i / 1)) None)) rest
      ∙ ap (λ (x : ℕ). node_of_part c i (slice_get blocks x)) number

  node_there : (step i : ℕ) → step ≡ 1 → i < n → node_of_block c (record { blocks = blocks; step = step }) i ≡ node_of_body i (c (g i))
  node_there step i one low = node_by step i one ∙ ap (node_of_part c i) (get_of g 0 n i low ∙ ap (λ (x : ℕ). Some (g x)) (omega arith))

  none_past : (step i : ℕ) → step ≡ 1 → n ≤ i → nodes_of (node_of_block c (record { blocks = blocks; step = step })) i ≡ None
  none_past step i one past = ap some_entries (node_by step i one ∙ ap (node_of_part c i) (get_past g 0 n i past))

-- what is no index block is no node
none_read : (v : ℕ) (b : BodyOf) → is_index_body b ≡ false → (read : Result (List Entry) ℕ) → node_of_body v b ≡ read → some_entries read ≡ None
none_read v b none (Ok entries) is = absurd (no_body v b none entries is)
none_read v b none (Err rule) is = refl

-- ---- a number that no node of the tree has

same_self : (v : ℕ) → same v v ≡ 1
unfolding same
same_self v = ap one_if (eq-eqb v v refl)

same_not : (x y : ℕ) → x ≢ y → same x y ≡ 0
unfolding same
same_not x y other = ap one_if (ne_eqb x y other)

not_same : (nodes : ℕ → Option (List Entry)) (x v : ℕ) (raws : List Entry) → nodes x ≡ None → nodes v ≡ Some raws → same x v ≡ 0
not_same nodes x v raws none some = same_not x v (λ is. (let never : None ≡ Some raws = sym none ∙ ap nodes is ∙ some in absurd cc))

none_held : (nodes : ℕ → Option (List Entry)) (x : ℕ) (t : Tree) → nodes x ≡ None → TreeStands nodes t → held x t ≡ 0
none_held nodes x Leaf none st = refl
none_held nodes x (Down v t) none st = (let first = not_same nodes x v (raws_of t) none st.0 in let rest = none_held nodes x t none st.1 in omega (arith, first, rest))
none_held nodes x (TreeEntry key rest) none st = none_held nodes x rest none st
none_held nodes x (DownEntry v t key rest) none st =
    let first = not_same nodes x v (raws_of t) none st.0 in
    let below = none_held nodes x t none st.1 in
    let behind = none_held nodes x rest none st.2 in
    omega (arith, first, below, behind)

stands_elsewhere : (nodes others : ℕ → Option (List Entry)) (x : ℕ) (t : Tree) → held x t ≡ 0 → ((i : ℕ) → i ≢ x → others i ≡ nodes i) → TreeStands nodes t → TreeStands others t
stands_elsewhere nodes others x Leaf none keep st = tt
stands_elsewhere nodes others x (Down v t) none keep st =
    let me = same_self v in (
      keep v (λ is. (let here : same x v ≡ 1 = ap (λ (y : ℕ). same y v) (sym is) ∙ me in omega (arith, none, here))) ∙ st.0,
      stands_elsewhere nodes others x t (omega (arith, none)) keep st.1,
    )
stands_elsewhere nodes others x (TreeEntry key rest) none keep st = stands_elsewhere nodes others x rest none keep st
stands_elsewhere nodes others x (DownEntry v t key rest) none keep st =
    let me = same_self v in (
      keep v (λ is. (let here : same x v ≡ 1 = ap (λ (y : ℕ). same y v) (sym is) ∙ me in omega (arith, none, here))) ∙ st.0,
      stands_elsewhere nodes others x t (omega (arith, none)) keep st.1,
      stands_elsewhere nodes others x rest (omega (arith, none)) keep st.2,
    )

-- one entry alone, with a child, has a spelling
one_spelled : (x : ℕ) → x < 2 ^ 64 → HaveSpelling (last_entry (Some x) ∷ [])
unfolding node_used entry_length
one_spelled x low = record {
  vcn = omega arith;
  lsn = omega arith;
  entries = record { no_reference = refl; no_key = refl; down = low };
  flags = All-cons (λ (e : Entry). down_flag e.down ≡ children_of (last_entry (Some x) ∷ [])) (last_entry (Some x)) [] refl (All-nil (λ (e : Entry). down_flag e.down ≡ children_of (last_entry (Some x) ∷ [])));
  used = omega arith;
}

module _ (c : Content) (g : Geometry) (clusters : ℕ) (v : Volume) (n : ℕ) (r : Record) (more : List Run) (size : ℕ) (p s : Record) (bodies : List NewBody) (value : List ℕ) (t : Tree) (at : ℕ) (sized : HasSizes c) (eight : g.per_cluster ≡ 8) (state : Stands c g clusters v)
    (k : PutsLevel c v n r more size p s bodies value t at) where
  abbrev d : Content
  d = content_with c bodies

  abbrev e : Extents
  e = blocks_before r

  abbrev f : Extents
  f = blocks_behind v.per r more size size

  abbrev before : ℕ → Option (List Entry)
  before = nodes_of (node_of_block c (index_place v.per r))

  abbrev after : ℕ → Option (List Entry)
  after = nodes_of (node_of_block d (index_place v.per s))

  place_was : index_place v.per r ≡ record { blocks = map (index_block v.per e) (range_with_len 0 (block_count v.per e)); step = 8 / v.per }
  place_was = raising.place_was c g clusters v n r more size size p s bodies sized eight state k.puts

  place_is : index_place v.per s ≡ record { blocks = map (index_block v.per f) (range_with_len 0 (block_count v.per f)); step = 8 / v.per }
  place_is = raising.place_is c g clusters v n r more size size p s bodies sized eight state k.puts

  one_step : 8 / v.per ≡ 1
  one_step = ap (λ (x : ℕ). 8 / x) (raising.per_8 c g clusters v n r more size size p s bodies sized eight state k.puts)

  count_was : block_count v.per e ≡ e.real / 4096
  count_was = raising.had_count c g clusters v n r more size size p s bodies sized eight state k.puts

  count_is : block_count v.per f ≡ size / 4096
  count_is = raising.has_count c g clusters v n r more size size p s bodies sized eight state k.puts

  lawful : e.initialised ≤ e.real
  lawful = raising.was_lawful c g clusters v n r more size size p s bodies sized eight state k.puts

  -- ---- the nodes

  had : (i : ℕ) → i < block_count v.per e → node_of_block c (index_place v.per r) i ≡ node_of_body i (c (index_block v.per e i))
  had i low = ap (λ (x : Place). node_of_block c x i) place_was ∙ node_there c (index_block v.per e) (block_count v.per e) (8 / v.per) i one_step low

  has : (i : ℕ) → i < block_count v.per f → node_of_block d (index_place v.per s) i ≡ node_of_body i (d (index_block v.per f i))
  has i low = ap (λ (x : Place). node_of_block d x i) place_is ∙ node_there d (index_block v.per f) (block_count v.per f) (8 / v.per) i one_step low

  none_had : (i : ℕ) → block_count v.per e ≤ i → before i ≡ None
  none_had i past = ap (λ (x : Place). nodes_of (node_of_block c x) i) place_was ∙ none_past c (index_block v.per e) (block_count v.per e) (8 / v.per) i one_step past

  none_has : (i : ℕ) → block_count v.per f ≤ i → after i ≡ None
  none_has i past = ap (λ (x : Place). nodes_of (node_of_block d x) i) place_is ∙ none_past d (index_block v.per f) (block_count v.per f) (8 / v.per) i one_step past

  -- no node stood in a block past the initialised ones
  none_before : (i : ℕ) → e.initialised ≤ 4096 * i → before i ≡ None
  none_before i past = elim (cases_lt i (block_count v.per e)) [
    | inl low ↦ elim k.puts.begun [
      | inl all ↦ (let count = count_was in absurd (omega (arith, count, all, past, low)))
      | inr none ↦
          (let void : index_block v.per e i ≡ void_block = raising.void_past c g clusters v n r more size size p s bodies sized eight state k.puts i past in
          none_read i (c (index_block v.per e i)) (ap (λ (b : Block). is_index_body (c b)) void ∙ none) (node_of_block c (index_place v.per r) i) (sym (had i low)))
    ]
    | inr high ↦ none_had i high
  ]

  others : (i : ℕ) → i ≢ at → after i ≡ before i
  others i other = elim (cases_lt (4096 * i) e.initialised) [
    | inl begins ↦
        (let was = count_was in
        let is = count_is in
        let first = lawful in
        let entire = k.whole in
        let rise = k.puts.sizes.real in
        ap some_entries (has i (omega (arith, is, rise, was, first, entire, begins)))
        ∙ ap (λ (b : Block). some_entries (node_of_body i (d b))) (raising.same_place c g clusters v n r more size size p s bodies sized eight state k.puts i begins)
        ∙ ap (λ (b : BodyOf). some_entries (node_of_body i b)) (raising.body_stays c g clusters v n r more size size p s bodies sized eight state k.puts i)
        ∙ sym (ap some_entries (had i (omega (arith, was, first, entire, begins)))))
    | inr past ↦ elim (cases_lt i (block_count v.per f)) [
      | inl low ↦ (let is = count_is in none_read i (d (index_block v.per f i)) (k.none i other past (omega (arith, is, low))) (node_of_block d (index_place v.per s) i) (sym (has i low)) ∙ sym (none_before i past))
      | inr high ↦ none_has i high ∙ sym (none_before i past)
    ]
  ]

  child : after at ≡ Some (raws_of t)
  child = (let is = count_is in let within = k.within in ap some_entries (has at (omega (arith, is, within)) ∙ k.child))

  fresh : held at t ≡ 0
  fresh = none_held before at t (none_before at k.past) k.index.is_index.stands

  -- ---- the index

  abbrev root : List ℕ
  root = root_spelling (clusters_of value) (last_entry (Some at) ∷ [])

  small : at < 2 ^ 64
  small = (let within = k.within in let low = raising.few_bytes c g clusters v n r more size size p s bodies sized eight state k.puts in omega (arith, within, low))

  upper : upper_of d (with_record v n s) ≡ upper_of c v
  upper = raising.upper_now c g clusters v n r more size size p s bodies sized eight state k.puts

  once : (x : ℕ) → held x (Down at t) ≤ 1
  once x = elim (cases_eq x at) [
    | inl here ↦ (let none : held x t ≡ 0 = ap (λ (y : ℕ). held y t) here ∙ fresh in let one : same x at ≡ 1 = ap (λ (y : ℕ). same y at) here ∙ same_self at in omega (arith, none, one))
    | inr other ↦ (let apart = same_not x at other in let was = k.index.is_index.once x in omega (arith, apart, was))
  ]

  holds : HoldsIndex d (index_place v.per s) (upper_of c v) root (Down at t)
  holds = record {
    entries = last_entry (Some at) ∷ [];
    root_read = root_law.read (clusters_of value) (last_entry (Some at) ∷ []) (one_spelled at small);
    is_index = record {
      root_is = refl;
      stands = (child, stands_elsewhere before after at t fresh others k.index.is_index.stands);
      once = once;
      height = (let low = k.low in omega (arith, low));
      ordered = k.index.is_index.ordered;
    };
  }

  pub is_raised : IsRaised c v r value t at (content_with c bodies) (with_record v n s) s
  is_raised = record {
    upper = upper;
    root = k.new_root;
    others = others;
    child = child;
    fresh = fresh;
    holds = subst (λ (x : List ℕ). HoldsIndex d (index_place v.per s) x root (Down at t)) (sym upper) holds;
  }

  -- ---- the names

  listed : index_links d v.per (upper_of c v) s ≡ index_links c v.per (upper_of c v) r
  unfolding index_links
  listed =
      ap (links_below d (index_place v.per s) (upper_of c v)) k.new_root
      ∙ ap links_read (walk_passes d (index_place v.per s) (upper_of c v) root (Down at t) holds)
      ∙ sym (ap (links_below c (index_place v.per r) (upper_of c v)) k.root ∙ ap links_read (walk_passes c (index_place v.per r) (upper_of c v) value t k.index))

  pub raises : RaisesIndex c v n r more size size p s bodies
  raises = record { puts = k.puts; lists = listed }

pub level_came : LevelCame
level_came = record { index = is_raised; raises = raises }
