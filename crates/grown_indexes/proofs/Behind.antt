-- An index that has grown behind the file table, or first, below another root or the one from before.
use Rattle.std.proofs.Common.{◌≡◌, ◌≢◌, ◌⊎◌, inl, inr, ℕ, ◌+◌, ◌<◌, ◌≤◌, Bool, true, false, not, ◌&&◌, ◌||◌, cond, eqb, ltb, leb, nat_eq, List, [], ◌∷◌, ◌++◌, Option, Some, None, refl, sym, ap, subst, ◌∙◌, arith}
use Rattle.std.specs.Prelude.{All}
use Rattle.std.specs.List.{list_any, AllByRecursion}
use Rattle.std.specs.Cmp.Lexicographic.{pointwise}
use Rattle.std.proofs.lemmas.Bool.{cases_eq, and_parts, and_from, or_cases, or_left, or_right, both_ways, eq-eqb, eqb-true, ne_eqb, le-ltb, leb-true}
use Rattle.std.proofs.lemmas.List.Sums.{sum_by-cons}
use Rattle.std.proofs.lemmas.Grind.{flat_map-append}
use Rattle.disk_model.specs.declared.block.Block.{Block}
use Rattle.disk_model.specs.declared.block.BlockKind.{BlockKind}
use Rattle.disk_model.specs.declared.block.BlockKind.TheVariants.{FileRec, Index, Plain}
use Rattle.disk_model.specs.Content.{Content, HasSizes}
use Rattle.disk_model.specs.Sectors.{overlap}
use Rattle.host_base.specs.declared.file_ref.FileRef.{FileRef}
use Rattle.record_model.specs.declared.runs.Run.{Run}
use Rattle.record_model.specs.Constants.{attribute_list, bitmap_type, data_type, index_allocation, names_index}
use Rattle.record_model.specs.Pairs.{cluster_limit}
use Rattle.record_model.specs.Records.{Record}
use Rattle.bit_set.specs.Bits.{bit}
use Rattle.state_model.specs.declared.geometry.Geometry.{Geometry}
use Rattle.state_model.specs.declared.stream.Extents.{Extents}
use Rattle.state_model.specs.declared.stream.Stream.{Stream}
use Rattle.state_model.specs.declared.stream.Stream.TheVariants.{Held, Placed}
use Rattle.state_model.specs.Files.{file_at, file_links, has_type, is_base_record, is_directory_record, links_at}
use Rattle.state_model.specs.Loads.{table_in, total_clusters}
use Rattle.state_model.specs.Streams.{stream_of, block_at}
use Rattle.state_model.specs.Trees.{is_in_system}
use Rattle.volume_model.specs.Indexes.{index_stream}
use Rattle.volume_model.specs.Owners.{uses}
use Rattle.volume_model.specs.Volumes.{Volume, count_of, file_in, file_stream, files_by_number, bitmap_file, mirror_file, table_file, cluster_bits}
use Rattle.volume_state.specs.Trees.{tree_of}
use Rattle.stream_laws.specs.Owners.{stream_kind}
use Rattle.stream_laws.specs.Replacing.{FileEdit, AreEdits}
use Rattle.stream_laws.specs.Sharing.{StreamKey, stream_at, runs_in}
use Rattle.stream_laws.specs.Tables.{table_key}
use Rattle.stream_laws.proofs.Editing.{edited_files, length-with_edits}
use Rattle.stream_laws.proofs.Placing.{uses-append}
use Rattle.stream_laws.proofs.Sharing.{uses-none}
use Rattle.stream_laws.proofs.Tabling.{inside_list}
use Rattle.tree_model.specs.Effects.{ref_at}
use Rattle.tree_laws.proofs.Ascending.{all_by, in_system_kept}
use Rattle.plan_owners.specs.States.{Stands}
use Rattle.plan_owners.proofs.Standing.{as_file, some_file}
use Rattle.plan_bodies.specs.Bodies.{NewBody, content_with, put_bodies}
use Rattle.plan_bodies.proofs.Putting.{contents_put, sized_with}
use Rattle.plan_draft.specs.declared.touched.Touched.{Touched}
use Rattle.plan_draft.specs.Touching.{bodies_of}
use Rattle.plan_draft.specs.Drafts.{drafted}
use Rattle.space_model.specs.Choosing.{chosen, chosen_anywhere, with_clusters, with_runs}
use Rattle.stream_runs.specs.Runs.{front, grown, last_cluster, merged}
use Rattle.plan_blocks.specs.Blocks.{used_stream, HasNoPlace, blocks_before, blocks_behind, RoomDiffers, IsFreshBlock}
use Rattle.plan_blocks.proofs.Rooted.{same_types, same_directory, same_links, same_laid, blocks_now, used_now}
use Rattle.plan_blocks.proofs.Handing.{runs_are}
use Rattle.plan_blocks.proofs.Raising.{index_goes_on, index_tree}
use Rattle.plan_blocks.proofs.plan_edits.Putting.{drafts_put}
use Rattle.plan_blocks.proofs.plan_edits.plan_growth.Growing.{uses-grown}
use Rattle.plan_blocks.proofs.plan_edits.plan_growth.Placed.{same_or_other}
use Rattle.plan_blocks.proofs.plan_edits.plan_growth.Written.{Reads, all_read}
use Rattle.plan_blocks.proofs.plan_model.Drafting.{goes_on, per_is}
use Rattle.plan_blocks.proofs.plan_model.OneRecord.{own_record}
use Rattle.made_trees.specs.plan_model.Drafts.{DraftIn, GoesOn, FollowsOwners, gives_runs}
use Rattle.made_trees.specs.plan_model.Edits.{IsOwnedIn}
use Rattle.made_trees.specs.plan_model.Informed.{with_record}
use Rattle.made_trees.specs.made_files.plan_growth.Growing.{MayGive}
use Rattle.made_trees.specs.made_files.plan_growth.Streams.{marks_streams}
use Rattle.made_trees.proofs.plan_values.Valued.{old_pairs}
use Rattle.made_trees.proofs.change_steps.plan_changes.Falling.{rooms_are}
use Rattle.made_trees.specs.step_model.Placing.{Growth, AllPlaced, more_of, runs_after, taken_runs, wanted_by}
use Rattle.made_trees.specs.step_model.Streams.{blocks_key, used_key, in_record}
use Rattle.made_trees.specs.step_model.Used.{is_in_record}
use Rattle.made_trees.specs.step_model.Contents.{same_key, is_among, is_touched, touched_streams, HasGrown, MayDiffer, IsLeft}
use Rattle.made_trees.proofs.step_model.Leaving.{contents_left}
use Rattle.made_trees.proofs.step_model.Placed.{placed_once}
use Rattle.made_trees.proofs.written_values.Sparing.{elsewhere}
use Rattle.made_trees.specs.Grown.{IsOfTable, IsOfGrowth, TableCame, HasGrownBefore}
use Rattle.grown_indexes.specs.First.{blocks_by, growths_by}
use Rattle.grown_indexes.specs.Raised.{RaisesNext, IndexRaisesNext}

none_chosen : (bits : List Bool) → [] ≡ chosen bits None 0
unfolding chosen chosen_anywhere
none_chosen bits = refl

neither : (a b : Bool) → (a || b) ≡ false → (a ≡ false) × (b ≡ false)
neither true b none = absurd cc
neither false b none = (refl, none)

no_runs_in : (o : Option Stream) → HasNoPlace o → runs_in o ≡ []
no_runs_in None none = refl
no_runs_in (Some (Held value)) none = refl
no_runs_in (Some (Placed e)) none = absurd none

in_record_so : (o : Option Stream) → HasNoPlace o → is_in_record o ≡ true
in_record_so None none = refl
in_record_so (Some (Held value)) none = refl
in_record_so (Some (Placed e)) none = absurd none

-- ---- runs behind others

runs_then : (old runs : List Run) (has all : ℕ) (n : ℕ) → has ≡ total_clusters old → 0 < all → runs_after (record { stream = blocks_key n; old = old; clusters = has + all; runs = runs; stands = false }) ≡ grown old runs
unfolding runs_after
runs_then old runs has all n is some =
    let up : ltb (has + all) (total_clusters old) ≡ false = le-ltb (has + all) (total_clusters old) (omega (arith, is)) in
    let apart : eqb (has + all) (total_clusters old) ≡ false = ne_eqb (has + all) (total_clusters old) (λ same. omega (arith, same, is, some)) in
    ap (λ (t : Bool). cond t (merged (front (has + all) old)) (cond (eqb (has + all) (total_clusters old)) old (grown old runs))) up ∙ ap (λ (t : Bool). cond t old (grown old runs)) apart

none_after : (n : ℕ) → [] ≡ runs_after (in_record (used_key n))
unfolding runs_after
none_after n = refl

index_kind : (n : ℕ) → stream_kind (blocks_key n) ≡ Index
unfolding stream_kind
index_kind n = not_records (eqb n table_file || eqb n mirror_file)
  where
    not_records : (t : Bool) → cond (t && eqb index_allocation data_type && pointwise nat_eq names_index []) FileRec (cond (eqb index_allocation index_allocation) Index Plain) ≡ Index
    not_records true = refl
    not_records false = refl

-- ---- which streams are touched

among_files : (n : ℕ) (files : List ℕ) → list_any (λ (m : ℕ). eqb n m) files ≡ true → is_touched files n ≡ true
among_files n files there = or_right _ (list_any (λ (m : ℕ). eqb n m) files) there

own_touched : (n : ℕ) → is_touched (n ∷ []) n ≡ true
own_touched n = among_files n (n ∷ []) (or_left (eqb n n) false (eq-eqb n n refl))

chosen_by : (files : List ℕ) (o : StreamKey) → is_touched files o.file ≡ true → same_key o table_key ≡ false → touched_streams files o ≡ true
chosen_by files o there other = and_from (is_touched files o.file) (not (same_key o table_key)) there (ap not other)

no_table : (o : StreamKey) → eqb o.file table_file ≡ false → same_key o table_key ≡ false
no_table o other = ap (λ (b : Bool). (b && eqb o.kind data_type) && pointwise nat_eq o.name []) other

-- ---- growths behind others

all_behind : {X : Type 0} (P : X → Type 0) (xs ys : List X) → AllByRecursion P xs → AllByRecursion P ys → AllByRecursion P (xs ++ ys)
all_behind P [] ys all more = more
all_behind P (x ∷ xs) ys all more = (all.0, all_behind P xs ys all.1 more)

runs_put : (xs ys : List Run) (bits : List Bool) → with_runs ys (with_runs xs bits) ≡ with_runs (xs ++ ys) bits
unfolding with_runs
runs_put [] ys bits = refl
runs_put (x ∷ xs) ys bits = runs_put xs ys (with_clusters x.lcn x.len bits)

placed_behind : (bits : List Bool) (xs ys : List Growth) → AllPlaced bits xs → AllPlaced (with_runs (taken_runs xs) bits) ys → AllPlaced bits (xs ++ ys)
unfolding with_runs
placed_behind bits [] ys placed more = more
placed_behind bits (x ∷ xs) ys placed more = (placed.0, placed_behind (with_runs x.runs bits) xs ys placed.1 (subst (λ (b : List Bool). AllPlaced b ys) (sym (runs_put x.runs (taken_runs xs) bits)) more))

taken_behind : (xs ys : List Growth) → taken_runs (xs ++ ys) ≡ taken_runs xs ++ taken_runs ys
taken_behind xs ys = flat_map-append (λ (h : Growth). h.runs) xs ys

wanted_behind : (xs ys : List Growth) → wanted_by (xs ++ ys) ≡ wanted_by xs + wanted_by ys
wanted_behind [] ys = omega arith
wanted_behind (x ∷ xs) ys = (let rest = wanted_behind xs ys in let one = sum_by-cons more_of x xs in let all = sum_by-cons more_of x (xs ++ ys) in omega (arith, rest, one, all))

not_among : (xs ys : List Growth) (o : StreamKey) → is_among (xs ++ ys) o ≡ false → (is_among xs o ≡ false) × (is_among ys o ≡ false)
not_among [] ys o none = (refl, none)
not_among (x ∷ xs) ys o none =
    let parts = neither (same_key x.stream o) (is_among (xs ++ ys) o) none in
    let rest = not_among xs ys o parts.1 in
    (ap (λ (b : Bool). b || is_among xs o) parts.0 ∙ rest.0, rest.1)

-- a stream of a directory isn't one of the file table
none_of_table : (n kind : ℕ) (name : List ℕ) → n ≢ table_file → (xs : List Growth) → AllByRecursion IsOfTable xs → is_among xs (record { file = n; kind = kind; name = name }) ≡ false
none_of_table n kind name other [] all = refl
none_of_table n kind name other (x ∷ xs) all = ap (λ (b : Bool). b || is_among xs (record { file = n; kind = kind; name = name })) (here all.0) ∙ none_of_table n kind name other xs all.1
  where
    apart : eqb table_file n ≡ false
    apart = ne_eqb table_file n (λ same. other (sym same))

    here : IsOfTable x → same_key x.stream (record { file = n; kind = kind; name = name }) ≡ false
    here (inl is) = ap (λ (k : StreamKey). same_key k (record { file = n; kind = kind; name = name })) is ∙ ap (λ (b : Bool). b && eqb data_type kind && pointwise nat_eq [] name) apart
    here (inr is) = ap (λ (k : StreamKey). same_key k (record { file = n; kind = kind; name = name })) is ∙ ap (λ (b : Bool). b && eqb bitmap_type kind && pointwise nat_eq [] name) apart

module _ (c : Content) (g : Geometry) (clusters : ℕ) (v : Volume) (n : ℕ) (r : Record) (growths : List Growth) (u : Volume) (grown : List Touched) (runs : List Run) (size : ℕ) (p q : Record) (bodies : List NewBody) (new : List Touched) (sized : HasSizes c) (eight : g.per_cluster ≡ 8) (few : u.clusters ≤ cluster_limit) (state : Stands c g clusters v)
    (k : RaisesNext c g clusters v n r growths u grown runs size p q bodies new) where
  abbrev first : Content
  first = drafted grown c

  abbrev last : Content
  last = drafted new c

  abbrev w : Volume
  w = with_record u n q

  abbrev e : Extents
  e = blocks_before r

  abbrev f : Extents
  f = blocks_behind u.per r runs size size

  abbrev more : List Growth
  more = growths_by n r runs

  abbrev all : List Growth
  all = growths ++ growths_by n r runs

  pub sized_first : HasSizes first
  sized_first = sized_with c (bodies_of grown) sized

  pub state_first : Stands first g clusters u
  state_first = subst (λ (y : Content). Stands y g clusters u) k.before.content k.before.draft.stands

  same_per : u.per ≡ v.per
  same_per = per_is first g clusters u eight state_first ∙ sym (per_is c g clusters v eight state)

  -- ---- the clusters

  placed_next : AllPlaced (with_runs (taken_runs growths) (cluster_bits c v)) more
  placed_next = (k.are_chosen ∙ ap (chosen (with_runs (taken_runs growths) (cluster_bits c v)) (last_cluster e.runs)) (omega arith), (none_chosen _, tt))

  placed : AllPlaced (cluster_bits c v) all
  placed = placed_behind (cluster_bits c v) growths more k.before.left.placed placed_next

  taken_is : (x : ℕ) → uses (taken_runs all) x ≡ uses (taken_runs growths) x + uses runs x
  taken_is x =
      let next : uses (runs ++ []) x ≡ uses runs x + uses [] x = uses-append runs [] x in
      let none = uses-none x in
      let both = uses-append (taken_runs growths) (taken_runs more) x in
      let joined = ap (λ (l : List Run). uses l x) (taken_behind growths more) in
      omega (arith, next, none, both, joined)

  clear_at_first : (x : ℕ) → 0 < uses runs x → bit (cluster_bits c v) x ≡ false
  clear_at_first x some = (let all_of = taken_is x in placed_once.clear (cluster_bits c v) all x placed (omega (arith, all_of, some)))

  given_apart : (kind : BlockKind) (x : ℕ) → 0 < uses runs x → k.before.gave x ≡ Some kind → ⊥
  given_apart kind x some gave =
      let all_of = taken_is x in
      let once = placed_once.once (cluster_bits c v) all x placed in
      let earlier = k.before.given kind x gave in
      omega (arith, all_of, once, earlier, some)

  -- ---- the draft

  may_give : MayGive c v Index runs k.before.gave
  may_give = record {
    taken = clear_at_first;
    same = λ x other some is. absurd (given_apart other x some is);
    before = k.before.draft.clear;
  }

  abbrev gives : ℕ → Option BlockKind
  gives = gives_runs Index runs k.before.gave

  goes : GoesOn c v (content_with c k.before.bodies) g clusters u bodies w k.before.gave gives
  goes =
      subst (λ (y : Content). GoesOn c v y g clusters u bodies w k.before.gave gives) (sym k.before.content)
      (index_goes_on first g clusters u n r runs size size p q bodies sized_first eight state_first k.raises.puts k.raises.lists c v k.before.gave may_give)

  draft : DraftIn c g clusters v (put_bodies bodies k.before.bodies) w gives
  draft = goes_on c g clusters v u w k.before.bodies bodies k.before.gave gives sized eight state k.before.draft goes

  content : content_with c (put_bodies bodies k.before.bodies) ≡ last
  content = contents_put c k.before.bodies bodies sized k.before.draft.whole goes.whole ∙ ap (λ (y : Content). content_with y bodies) k.before.content ∙ k.edits.content

  pub state_last : Stands last g clusters w
  state_last = subst (λ (y : Content). Stands y g clusters w) content draft.stands

  given : (kind : BlockKind) (x : ℕ) → gives x ≡ Some kind → 0 < uses (taken_runs all) x
  given kind x is = by (leb 1 (uses runs x)) refl is
    where
      by : (b : Bool) → leb 1 (uses runs x) ≡ b → cond b (Some Index) (k.before.gave x) ≡ Some kind → 0 < uses (taken_runs all) x
      by true some now = (let all_of = taken_is x in let here = leb-true 1 (uses runs x) some in omega (arith, all_of, here))
      by false none now = (let all_of = taken_is x in let earlier = k.before.given kind x now in omega (arith, all_of, earlier))

  -- ---- the record

  pub reads : All Reads r.attrs
  reads = all_read r.attrs (old_pairs first g clusters u n r state_first (record { file = k.raises.puts.file; apart = k.raises.puts.apart; no_list = k.raises.puts.no_list }))

  below : n < count_of u
  below = inside_list u.files n r (some_file u n r k.raises.puts.file)

  base : is_base_record q ≡ true
  base = ap (λ (x : FileRef). eqb x.number 0 && eqb x.seq 0) (k.raises.puts.values.base ∙ k.raises.puts.written.base) ∙ (own_record first g clusters u n r state_first k.raises.puts.file k.raises.puts.no_list).base

  abbrev edits : List FileEdit
  edits = record { number = n; file = Some q } ∷ []

  distinct : AreEdits (count_of u) edits
  distinct = (below, tt, tt)

  pub file_w : file_in w n ≡ Some q
  unfolding file_at
  file_w = as_file (table_in w.files n) q (edited_files u.files edits distinct).0 base

  no_list : has_type attribute_list q ≡ false
  no_list = same_types r p q f k.raises.puts.written reads k.raises.puts.values attribute_list (λ is. omega (arith, is)) (λ is. omega (arith, is)) ∙ k.raises.puts.no_list

  pub directory : is_directory_record q ≡ true
  directory = same_directory r p q f k.raises.puts.written reads k.raises.puts.values ∙ k.raises.puts.directory

  -- ---- the tree

  differs : RoomDiffers (tree_of first u) (tree_of last w)
  differs = subst (λ (y : Content). RoomDiffers (tree_of first u) (tree_of y w)) k.edits.content (index_tree first g clusters u n r runs size size p q bodies sized_first eight state_first k.raises.puts k.raises.lists)

  tree : RoomDiffers (tree_of c v) (tree_of last w) ⊎ TableCame (tree_of c v) (tree_of last w)
  tree = elim k.before.tree [
    | inl same ↦ inl (record {
      nodes = λ m. differs.nodes m ∙ same.nodes m;
      links = differs.links ∙ same.links;
      spare = differs.spare ∙ same.spare;
      count = differs.count ∙ same.count;
      journal = differs.journal ∙ same.journal;
    })
    | inr came ↦ inr (record {
      none = came.none;
      nodes = λ m. differs.nodes m ∙ came.nodes m;
      links = differs.links ∙ came.links;
      spare = λ m. ap (λ (l : List FileRef). ref_at l m) differs.spare ∙ came.spare m;
      count = differs.count ∙ came.count;
      journal = differs.journal ∙ came.journal;
    })
  ]

  room : (tree_of c v).room ≤ (tree_of last w).room + wanted_by all
  room =
      let fell = rooms_are.taken first last u n q runs k.raises.puts.apart.bitmap (λ x low. sym (ap (λ (y : Content). bit (cluster_bits y u) x) k.edits.content) ∙ k.raises.puts.marked x low) in
      let was = k.before.room in
      let sum = wanted_behind growths more in
      omega (arith, fell, was, sum)

  -- ---- the names

  names_next : (i : ℕ) → links_at (files_by_number w) i ≡ links_at (files_by_number u) i
  unfolding links_at
  names_next i = elim (cases_eq i n) [
    | inl is ↦
        ap (λ (j : ℕ). file_links j (file_in w j)) is
        ∙ ap (file_links n) file_w
        ∙ same_links r p q f k.raises.puts.written reads k.raises.puts.values n
        ∙ sym (ap (λ (j : ℕ). file_links j (file_in u j)) is ∙ ap (file_links n) k.raises.puts.file)
    | inr other ↦ ap (file_links i) (elsewhere u n i q other)
  ]

  system : is_in_system (files_by_number w) (count_of w) n ≡ is_in_system (files_by_number v) (count_of v) n
  system =
      ap (λ (j : ℕ). is_in_system (files_by_number w) j n) (length-with_edits u.files edits)
      ∙ in_system_kept (λ i. true) (files_by_number u) (files_by_number w) (count_of u) n (record { names = λ i within. names_next i; up = λ i j within is. refl }) refl
      ∙ k.before.system

  -- ---- the streams

  pub now_stream : index_stream q ≡ Some (Placed f)
  now_stream = blocks_now r p q f k.raises.puts.written reads k.raises.puts.values

  in_u : (o : StreamKey) → o.file ≡ n → stream_at u o ≡ stream_of o.kind o.name r.attrs
  in_u o is = ap (λ (i : ℕ). file_stream o.kind o.name (file_in u i)) is ∙ ap (file_stream o.kind o.name) k.raises.puts.file

  in_w : (o : StreamKey) → o.file ≡ n → stream_at w o ≡ stream_of o.kind o.name q.attrs
  in_w o is = ap (λ (i : ℕ). file_stream o.kind o.name (file_in w i)) is ∙ ap (file_stream o.kind o.name) file_w

  bits_none : HasNoPlace (used_stream q)
  bits_none =
      let is = used_now r p q f k.raises.puts.written reads k.raises.puts.values in
      elim k.raises.puts.written.bits [
        | inl stays ↦ subst HasNoPlace (sym (is ∙ stays)) k.no_place
        | inr value ↦ subst HasNoPlace (sym (is ∙ value.1)) tt
      ]

  old_is : e.runs ≡ runs_in (stream_at u (blocks_key n))
  unfolding index_stream
  old_is = sym (ap runs_in (in_u (blocks_key n) refl) ∙ runs_are (index_stream r))

  now_is : stream_at w (blocks_key n) ≡ Some (Placed f)
  unfolding index_stream
  now_is = in_w (blocks_key n) refl ∙ now_stream

  -- a stream is that of the blocks, or has its runs
  which : (o : StreamKey) → (o ≡ blocks_key n) ⊎ (runs_in (stream_at w o) ≡ runs_in (stream_at u o))
  which o = elim (cases_eq o.file n) [
    | inl file ↦ elim (same_or_other index_allocation o.kind names_index o.name) [
      | inl own ↦ inl (ap (λ (i : ℕ). record { file = i; kind = o.kind; name = o.name }) file ∙ ap (λ (i : ℕ). record { file = n; kind = i; name = o.name }) own.0 ∙ ap (λ (l : List ℕ). record { file = n; kind = index_allocation; name = l }) own.1)
      | inr differ ↦ elim (same_or_other bitmap_type o.kind names_index o.name) [
        | inl bits ↦
            (let none : (x : Record) → HasNoPlace (used_stream x) → runs_in (stream_of o.kind o.name x.attrs) ≡ [] =
            (λ x place. ap (λ (i : ℕ). runs_in (stream_of i o.name x.attrs)) bits.0 ∙ ap (λ (l : List ℕ). runs_in (stream_of bitmap_type l x.attrs)) bits.1 ∙ no_runs_in (used_stream x) place)
            in
            inr (ap runs_in (in_w o file) ∙ none q bits_none ∙ sym (ap runs_in (in_u o file) ∙ none r k.no_place)))
        | inr more ↦ inr (ap runs_in (in_w o file) ∙ (same_laid r p q f k.raises.puts.written reads k.raises.puts.values o.kind o.name (record { blocks = differ; bits = more })).runs ∙ sym (ap runs_in (in_u o file)))
      ]
    ]
    | inr other ↦ inr (ap (λ (x : Option Record). runs_in (file_stream o.kind o.name x)) (elsewhere u n o.file q other))
  ]

  -- the index's streams had their runs at first
  index_stayed : (kind : ℕ) (name : List ℕ) → runs_in (stream_at u (record { file = n; kind = kind; name = name })) ≡ runs_in (stream_at v (record { file = n; kind = kind; name = name }))
  index_stayed kind name = k.before.left.others (record { file = n; kind = kind; name = name }) (none_of_table n kind name k.raises.puts.apart.table growths k.table)

  among : (o : StreamKey) → o ≡ blocks_key n → is_among more o ≡ true
  among o is = or_left (same_key (blocks_key n) o) _ (subst (λ (x : StreamKey). same_key (blocks_key n) x ≡ true) (sym is) (and_from _ _ (and_from _ _ (eq-eqb n n refl) (eq-eqb index_allocation index_allocation refl)) refl))

  others : (o : StreamKey) → is_among all o ≡ false → runs_in (stream_at w o) ≡ runs_in (stream_at v o)
  others o apart = elim (which o) [
    | inl own ↦ absurd (both_ways (is_among more o) (not_among growths more o apart).1 (among o own))
    | inr stays ↦ stays ∙ k.before.left.others o (not_among growths more o apart).0
  ]

  -- those of the file table stay
  table_stays : (kind : ℕ) (name : List ℕ) → stream_at w (record { file = table_file; kind = kind; name = name }) ≡ stream_at u (record { file = table_file; kind = kind; name = name })
  table_stays kind name = ap (file_stream kind name) (elsewhere u n table_file q (λ same. k.raises.puts.apart.table (sym same)))

  table_stream_is : (h : Growth) → IsOfTable h → stream_at w h.stream ≡ stream_at u h.stream
  table_stream_is h (inl is) = ap (stream_at w) is ∙ table_stays data_type [] ∙ sym (ap (stream_at u) is)
  table_stream_is h (inr is) = ap (stream_at w) is ∙ table_stays bitmap_type [] ∙ sym (ap (stream_at u) is)

  table_grown : (l : List Growth) → AllByRecursion IsOfTable l → AllByRecursion (λ h. HasGrown v u h) l → AllByRecursion (λ h. HasGrown v w h) l
  table_grown [] table has = tt
  table_grown (h ∷ l) table has = (
    record { stands = ap is_in_record (table_stream_is h table.0) ∙ has.0.stands; old = has.0.old; runs = ap runs_in (table_stream_is h table.0) ∙ has.0.runs },
    table_grown l table.1 has.1,
  )

  blocks_grown : HasGrown v w (blocks_by n r runs)
  blocks_grown = record { stands = ap is_in_record now_is; old = old_is ∙ index_stayed index_allocation names_index; runs = ap runs_in now_is ∙ sym (runs_then e.runs runs (total_clusters e.runs) (total_clusters runs) n refl k.some) }

  bits_grown : HasGrown v w (in_record (used_key n))
  bits_grown = record {
    stands = ap is_in_record (in_w (used_key n) refl) ∙ in_record_so (used_stream q) bits_none;
    old = sym (ap runs_in (in_u (used_key n) refl) ∙ no_runs_in (used_stream r) k.no_place) ∙ index_stayed bitmap_type names_index;
    runs = ap runs_in (in_w (used_key n) refl) ∙ no_runs_in (used_stream q) bits_none ∙ none_after n;
  }

  takes : (o : StreamKey) (x : ℕ) → uses (runs_in (stream_at v o)) x < uses (runs_in (stream_at w o)) x → bit (cluster_bits c v) x ≡ false
  takes o x rise = elim (which o) [
    | inl own ↦
        (let was = ap (λ (y : StreamKey). uses (runs_in (stream_at v y)) x) own ∙ ap (λ (l : List Run). uses l x) (sym (old_is ∙ index_stayed index_allocation names_index)) in
        let is = ap (λ (y : StreamKey). uses (runs_in (stream_at w y)) x) own ∙ ap (λ (y : Option Stream). uses (runs_in y) x) now_is ∙ uses-grown e.runs runs x in
        clear_at_first x (omega (arith, was, is, rise)))
    | inr stays ↦ k.before.left.takes o x (subst (λ (l : List Run). uses (runs_in (stream_at v o)) x < uses l x) stays rise)
  ]

  -- ---- the blocks

  abbrev Differs : Block → Type 0
  Differs b = MayDiffer (n ∷ []) v w b

  -- a stream whose runs stay may differ afterwards, as it may before
  differs_now : (o : StreamKey) (number : ℕ) (b : Block) → touched_streams (n ∷ []) o ≡ true → runs_in (stream_at w o) ≡ runs_in (stream_at u o) → block_at u.per (runs_in (stream_at u o)) (stream_kind o) number ≡ Some b → Differs b
  differs_now o number b chosen same lies = inr (inr (record { stream = o; chosen = chosen; number = number; lies = ap (λ (l : List Run). block_at u.per l (stream_kind o) number) same ∙ lies }))

  differs_then : (o : StreamKey) (number : ℕ) (b : Block) → touched_streams (n ∷ []) o ≡ true → runs_in (stream_at u o) ≡ runs_in (stream_at v o) → block_at u.per (runs_in (stream_at u o)) (stream_kind o) number ≡ Some b → Differs b
  differs_then o number b chosen same lies =
      inr (inl (record { stream = o; chosen = chosen; number = number; lies = ap (λ (per : ℕ). block_at per (runs_in (stream_at v o)) (stream_kind o) number) (sym same_per) ∙ ap (λ (l : List Run). block_at u.per l (stream_kind o) number) (sym same) ∙ lies }))

  owned_differs : (b : Block) → IsOwnedIn (touched_streams (n ∷ [])) u b → Differs b
  owned_differs b owned = elim (which owned.stream) [
    | inl own ↦ differs_then owned.stream owned.number b owned.chosen (subst (λ (o : StreamKey). runs_in (stream_at u o) ≡ runs_in (stream_at v o)) (sym own) (index_stayed index_allocation names_index)) owned.lies
    | inr stays ↦ differs_now owned.stream owned.number b owned.chosen stays owned.lies
  ]

  before_differs : (b : Block) → MayDiffer (n ∷ []) v u b → Differs b
  before_differs b (inl its) = inl (record {
    number = its.number;
    touched = elim its.touched [
      | inl here ↦ inl here
      | inr behind ↦ inr (behind.0, subst (λ (i : ℕ). its.number < i) (sym (length-with_edits u.files edits)) behind.1)
    ];
    place = its.place;
  })
  before_differs b (inr (inl owned)) = inr (inl owned)
  before_differs b (inr (inr owned)) = owned_differs b owned

  owned_u : (b : Block) → IsOwnedIn marks_streams u b → Differs b
  owned_u b owned =
      let o : StreamKey = owned.stream in
      let parts = (and_parts (eqb o.file bitmap_file || eqb o.file mirror_file) (eqb o.kind data_type) (and_parts ((eqb o.file bitmap_file || eqb o.file mirror_file) && eqb o.kind data_type) (pointwise nat_eq o.name []) owned.chosen).0).0 in
      elim (or_cases (eqb o.file bitmap_file) (eqb o.file mirror_file) parts) [
        | inl bits ↦
            (let file = eqb-true o.file bitmap_file bits in
            owned_differs b (record { stream = o; chosen = chosen_by (n ∷ []) o (ap (is_touched (n ∷ [])) file) (no_table o (ap (λ (i : ℕ). eqb i table_file) file)); number = owned.number; lies = owned.lies }))
        | inr mirror ↦
            (let file = eqb-true o.file mirror_file mirror in
            owned_differs b (record { stream = o; chosen = chosen_by (n ∷ []) o (ap (is_touched (n ∷ [])) file) (no_table o (ap (λ (i : ℕ). eqb i table_file) file)); number = owned.number; lies = owned.lies }))
      ]

  put_differs : (p : NewBody) → (IsOwnedIn marks_streams u p.block ⊎ (block_at u.per u.table.runs FileRec n ≡ Some p.block) ⊎ IsFreshBlock u r f p.block) → Differs p.block
  put_differs p (inl owned) = owned_u p.block owned
  put_differs p (inr (inl its)) = inl (record { number = n; touched = inl (own_touched n); place = its })
  put_differs p (inr (inr is)) =
      inr
      (inr
      (record {
        stream = blocks_key n;
        chosen = chosen_by (n ∷ []) (blocks_key n) (own_touched n) (no_data n);
        number = is.number;
        lies = ap (λ (kind : BlockKind). block_at u.per (runs_in (stream_at w (blocks_key n))) kind is.number) (index_kind n) ∙ ap (λ (y : Option Stream). block_at u.per (runs_in y) Index is.number) now_is ∙ is.lies;
      }))
    where
      no_data : (m : ℕ) → same_key (blocks_key m) table_key ≡ false
      no_data m = by (eqb m table_file)
        where
          by : (b : Bool) → ((b && false) && pointwise nat_eq names_index []) ≡ false
          by true = refl
          by false = refl

  stays : (b : Block) → ((y : Block) → Differs y → overlap b y ≡ false) → last b ≡ c b
  stays b far =
      ap (λ (y : Content). y b) (sym k.edits.content)
      ∙ contents_left.stays first v w (n ∷ []) bodies sized_first k.raises.puts.whole (all_by (λ (p : NewBody). IsOwnedIn marks_streams u p.block ⊎ (block_at u.per u.table.runs FileRec n ≡ Some p.block) ⊎ IsFreshBlock u r f p.block) (λ (p : NewBody). Differs p.block) put_differs bodies k.raises.puts.each) b far
      ∙ k.before.left.stays b (λ y differs. far y (before_differs y differs))

  -- ---- all of it

  left : IsLeft c v clusters (n ∷ []) all last w
  left = record {
    placed = placed;
    grown = all_behind (λ (h : Growth). HasGrown v w h) growths more (table_grown growths k.table k.before.left.grown) (blocks_grown, (bits_grown, tt));
    others = others;
    bits = subst (λ (y : Content). FollowsOwners clusters (cluster_bits c v) (cluster_bits y w) v.files w.files) content draft.marks;
    takes = takes;
    stays = stays;
  }

  pub next : HasGrownBefore c g clusters v n r all w q new
  next = record {
    kept = k.kept;
    gave = gives;
    bodies = put_bodies bodies k.before.bodies;
    same = drafts_put.kept k.before.bodies bodies grown new goes.whole k.before.same k.edits.same;
    content = content;
    draft = draft;
    given = given;
    own = record { file = file_w; apart = k.raises.puts.apart; no_list = no_list };
    names = λ i. names_next i ∙ k.before.names i;
    system = system;
    tree = tree;
    room = room;
    streams = all_behind (IsOfGrowth n) growths more k.before.streams (inl (inl refl), (inl (inr refl), tt));
    left = left;
  }

pub raises_next : IndexRaisesNext
raises_next c g clusters v n r growths u grown runs size p q bodies new sized eight few state k = next c g clusters v n r growths u grown runs size p q bodies new sized eight few state k
