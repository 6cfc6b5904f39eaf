-- The index of a directory gets more blocks, and its root may be written anew: the state that it leads to.
use Rattle.std.proofs.Common.{[], ◌≡◌, ◌≢◌, ◌⊎◌, ℕ, ◌+◌, ◌*◌, ◌-◌, ◌++◌, ◌/◌, ◌<◌, ◌≤◌, ◌^◌, Bool, true, false, not, ◌&&◌, ◌||◌, cond, eqb, nat_eq, leb, ltb, List, ◌∷◌, length, get_or, Option, Some, None, Result, Ok, Err, refl, sym, ap, ap₂, subst, ◌∙◌, inl, inr, arith}
use Rattle.std.specs.Prelude.{All, map}
use Rattle.std.specs.List.{range_with_len, list_all, list_any, AllByRecursion}
use Rattle.std.specs.Cmp.Lexicographic.{pointwise}
use Rattle.std.proofs.lemmas.Bool.{or_right, le-leb, lt-leb, cases_Bool, cases_lt, cases_eq, and_parts, and_from, and_left, both_ways, false_from_ne_true, or_left, or_from, eqb-true, eqb-false, ne_eqb, eq-eqb, lt-ltb}
use Rattle.disk_model.specs.declared.block.Block.{Block}
use Rattle.disk_model.specs.declared.block.BlockKind.{BlockKind}
use Rattle.disk_model.specs.declared.block.BlockKind.TheVariants.{Plain, FileRec, Index}
use Rattle.disk_model.specs.Sectors.{overlap, sectors}
use Rattle.disk_model.specs.Content.{Content, HasSizes}
use Rattle.disk_model.specs.Writes.{Write}
use Rattle.record_model.specs.declared.attribute.Attr.{Attr}
use Rattle.record_model.specs.declared.runs.Run.{Run}
use Rattle.record_model.specs.Pairs.{HasSpelling}
use Rattle.record_model.specs.Records.{Record, shaped_at, has_lawful_values}
use Rattle.host_base.specs.Answers.{◌>>=◌, needs}
use Rattle.record_model.specs.Constants.{file_name, attribute_list, data_type, index_allocation, bitmap_type, names_index, reparse_point, object_id}
use Rattle.file_tree.specs.declared.link.Link.{Link}
use Rattle.host_base.specs.declared.file_ref.FileRef.{FileRef}
use Rattle.file_tree.specs.Walks.{first_user_record}
use Rattle.bit_set.specs.Bits.{bit}
use Rattle.state_model.specs.declared.geometry.Geometry.{Geometry}
use Rattle.state_model.specs.declared.stream.Extents.{Extents}
use Rattle.state_model.specs.declared.stream.Stream.{Stream}
use Rattle.state_model.specs.declared.stream.Stream.TheVariants.{Placed, Held}
use Rattle.state_model.specs.Files.{file_at, reference, file_links, links_at, record_links, is_base_record, is_directory_record, has_type, info_of, why_by}
use Rattle.record_model.specs.declared.values.StdInfo.{StdInfo}
use Rattle.file_tree.specs.declared.node.Kind.{Kind}
use Rattle.file_tree.specs.declared.node.Kind.TheVariants.{Directory}
use Rattle.file_tree.specs.declared.node.Why.{Why}
use Rattle.file_tree.specs.declared.node.Node.{Node}
use Rattle.std.specs.Option.{option_or}
use Rattle.volume_state.specs.Trees.{tree_with, tree_of, volume_journal}
use Rattle.state_model.specs.Loads.{total_clusters, extents_or, Slot, Free, Used, slot_of, slot_at, is_used, whole_record, has_fitting_pairs, has_all_pairs, table_slot, table_in, data_stream, has_cut_index_block}
use Rattle.state_model.specs.Rules.{implies, at_file, is_directory_with, keeps_names, keeps_1, keeps_2, keeps_8}
use Rattle.state_model.specs.Streams.{joined, attributes_of, stream_of, block_at, is_inside_block, cuts_block, has_cut_block}
use Rattle.state_model.specs.Trees.{is_system}
use Rattle.volume_model.specs.Volumes.{Volume, count_of, file_in, files_by_number, bytes_or, size_or, is_in_use, file_stream, record_bits, cluster_bits, table_file, mirror_file, bitmap_file, upcase_file, upper_of}
use Rattle.volume_model.specs.Indexes.{or_void, index_block, block_count, void_block, index_place, index_links, index_stream, stream_blocks, lists_names, keeps_index}
use Rattle.volume_model.specs.Nodes.{valid_or, clusters_or, data_flags, has_sparse_run, sparse_if, why_not, kind_in, shows_data, data_shown, node_with, node_by, some_node, node_at}
use Rattle.volume_model.specs.Owners.{file_runs, volume_runs, uses, keeps_record_bit}
use Rattle.volume_model.specs.Sizes.{are_joined, keeps_whole, is_hole, has_torn, is_torn_at, begun, fits_volume, keeps_stream, is_whole_file, has_hole, stream_has_torn, is_initialised, keeps_streams, keeps_sizes}
use Rattle.volume_state.specs.Journals.{entries_name, limits_name, entries_flags, file_or_none, journal_file, journal_of_streams, journal_of_file, journal_of, fault_of, some_journal}
use Rattle.volume_state.specs.Rules.{broken_1, broken_3, broken_9}
use Rattle.index_model.specs.Indexes.{Place, is_index_body}
use Rattle.stream_laws.specs.Leaving.{LiesFree}
use Rattle.stream_laws.specs.Owners.{stream_kind, initialised_in, Owns, IsLive}
use Rattle.stream_laws.specs.Replacing.{FileEdit, OneFileDiffers, with_edits}
use Rattle.stream_laws.specs.Rewrites.{StandsAlone, is_edited, with_files}
use Rattle.stream_laws.specs.Sharing.{StreamKey, stream_at, runs_in}
use Rattle.stream_laws.specs.Tables.{table_key}
use Rattle.stream_laws.proofs.Changing.{apart_elsewhere, body_elsewhere}
use Rattle.stream_laws.proofs.Editing.{length-with_edits, other_file, edited_files}
use Rattle.stream_laws.proofs.Placing.{one_place, unused}
use Rattle.stream_laws.proofs.Replacing.{clusters_replaced}
use Rattle.stream_laws.proofs.Rewriting.{volume_parts}
use Rattle.stream_laws.proofs.Sharing.{same_key, same_from_test, uses-none, stream_of_volume, stream_blocks_apart}
use Rattle.stream_laws.proofs.Loading.{same_record_bits}
use Rattle.stream_laws.proofs.Tabling.{inside_list, no_list_stream, read_in_use, table_runs}
use Rattle.tree_laws.specs.Changed.{TouchesFiles, KeepsTouched}
use Rattle.tree_laws.specs.Contents.{AgreeBut}
use Rattle.tree_laws.specs.Keeping.{KeepsNames, KeepsDirectory}
use Rattle.tree_laws.specs.Leaves.{names_there}
use Rattle.tree_laws.specs.Owners.{TakesClusters}
use Rattle.tree_laws.specs.Parts.{journal_number}
use Rattle.tree_laws.specs.Planned.{IsInStream, IsInRecord, WritesWithin}
use Rattle.tree_laws.proofs.Agreeing.{same_upper, kept_sizes, same_journal, same_spares}
use Rattle.tree_laws.proofs.Ascending.{all_by}
use Rattle.tree_laws.proofs.Changing.{all_keep}
use Rattle.tree_laws.proofs.Keeping.{rules_of, passes_below}
use Rattle.tree_laws.proofs.Naming.{this_or_other, names_everywhere, file_elsewhere, links_kept as links_kept_in}
use Rattle.tree_laws.proofs.Owning.{takes_5, takes_6}
use Rattle.tree_laws.proofs.Parting.{record_bits_stay, cluster_bits_stay, upper_stays, number_stays, spare_stay}
use Rattle.tree_laws.proofs.Planning.{planned_agree}
use Rattle.tree_laws.proofs.Ruling.{same_listed, same_name_in, same_count, keeps_both, rule_7}
use Rattle.plan_owners.specs.States.{Stands}
use Rattle.plan_owners.specs.Kinds.{OwnsAs}
use Rattle.plan_owners.proofs.Standing.{streams_at, some_file, as_file, rule_4_at}
use Rattle.plan_bodies.specs.Bodies.{NewBody, whole_write, writes_in, content_with, body_or}
use Rattle.plan_edits.specs.plan_model.Drafts.{FollowsOwners, GoesOn, IsPut, gives_runs}
use Rattle.plan_edits.specs.plan_model.Edits.{IsOwnedIn, WritesFiles, LeadsTo}
use Rattle.plan_edits.specs.plan_model.Informed.{with_record}
use Rattle.plan_edits.proofs.plan_model.Drafting.{per_is}
use Rattle.plan_edits.proofs.plan_model.Informing.{slot_in_use, marked_in_use, implied}
use Rattle.plan_edits.proofs.plan_model.OneRecord.{streams_test, by_test, sizes_from, OwnRecord, own_record, slot_begins, slot_put, file_slot}
use Rattle.plan_edits.proofs.plan_model.Quiet.{record_owned, given_here, given_before, given_clear}
use Rattle.plan_edits.proofs.plan_model.Stepping.{written_within, files_edited, tree_nodes}
use Rattle.plan_edits.specs.plan_growth.Streams.{marks_streams}
use Rattle.plan_edits.proofs.plan_growth.Placed.{same_or_other, stream_rule}
use Rattle.plan_edits.proofs.plan_growth.Written.{Reads, all_read}
use Rattle.disk_model.specs.declared.block.Body.{Body}
use Rattle.plan_edits.specs.index_change.NodePlans.{GoesOn as PlaceGoesOn, KeepsNodes}
use Rattle.stream_laws.specs.Changes.{AreElsewhere}
use Rattle.stream_laws.specs.Places.{AreOnce}
use Rattle.plan_owners.proofs.ByKind.{marked_if_used}
use Rattle.plan_owners.proofs.Outside.{once}
use Rattle.plan_bodies.proofs.Putting.{body_put, none_elsewhere}
use Rattle.plan_edits.specs.plan_growth.Growing.{MayGive}
use Rattle.plan_edits.specs.plan_growth.Sizing.{marks_and}
use Rattle.plan_edits.proofs.plan_growth.Runs.{grown_whole}
use Rattle.plan_edits.proofs.plan_growth.Growing.{uses-grown, set_or, total-grown}
use Rattle.plan_edits.proofs.plan_growth.Sizing.{none_from}
use Rattle.plan_blocks.specs.Blocks.{used_stream, blocks_before, blocks_behind, IsFreshBlock, RoomDiffers}
use Rattle.plan_blocks.specs.Levels.{PutsRooted}
use Rattle.plan_blocks.proofs.Beside.{IsBeside}
use Rattle.plan_blocks.proofs.Rooted.{StaysLaid, stays_laid, same_types, same_directory, same_links, same_names, same_info, same_stream, same_flags, same_laid, blocks_now, used_now, blocks_uses, blocks_kept}
use Rattle.plan_blocks.proofs.Behind.{lies_in_more}
use Rattle.plan_edits.proofs.plan_growth.Ruled.{sizes_lawful}
use Rattle.plan_blocks.proofs.Placing.{place_in, extents_fit, spelled_now, fits_now, place_kept, count_before, count_now, count_rises, block_kept, block_void, goes_behind, keeps_nodes, nodes_back, blocks_are, none_at}
use Rattle.file_tree.specs.Trees.{node_at as node_by_number}

-- ---- small ones

clusters_are : (c : Content) (g : Geometry) (clusters : ℕ) (v : Volume) → Stands c g clusters v → clusters ≡ v.clusters
clusters_are c g clusters v s = (volume_parts c g clusters v s.loaded).count

none_of_two : (t x : Bool) → x ≡ false → (t && x) ≡ false
none_of_two true x is = is
none_of_two false x is = refl

-- at eight sectors a cluster no index block is cut
inside_none : (count k : ℕ) → is_inside_block Index count (8 * k) ≡ false
inside_none count k = ap (λ (t : Bool). not t && ltb (8 * k / 8) count) (eq-eqb _ 0 (omega arith))

not_marks : (m kind : ℕ) (name : List ℕ) → kind ≢ data_type → marks_streams (record { file = m; kind = kind; name = name }) ≡ false
not_marks m kind name other = and_left ((eqb m bitmap_file || eqb m mirror_file) && eqb kind data_type) (pointwise nat_eq name []) (none_of_two (eqb m bitmap_file || eqb m mirror_file) (eqb kind data_type) (ne_eqb kind data_type other))

not_marked : (m : ℕ) (name : List ℕ) → m ≢ bitmap_file → m ≢ mirror_file → marks_streams (record { file = m; kind = data_type; name = name }) ≡ false
not_marked m name one two = ap₂ (λ (s t : Bool). (s || t) && eqb data_type data_type && pointwise nat_eq name []) (ne_eqb m bitmap_file one) (ne_eqb m mirror_file two)

not_named : (m kind u : ℕ) (name : List ℕ) → marks_streams (record { file = m; kind = kind; name = u ∷ name }) ≡ false
not_named m kind u name = none_of_two ((eqb m bitmap_file || eqb m mirror_file) && eqb kind data_type) false refl

-- files of the volume itself show no data
no_system_shown : (v : Volume) (m : ℕ) (r : Record) → m < first_user_record → shows_data (kind_in v m r) ≡ true → ⊥
unfolding kind_in is_system
no_system_shown v m r below shown = elim (cases_Bool (is_directory_record r)) [
  | inl directory ↦ (let none : false ≡ true = sym (rw directory refl) ∙ shown in absurd cc)
  | inr other ↦ (let none : false ≡ true = sym (rw (other, lt-ltb m first_user_record below) refl) ∙ shown in absurd cc)
]

-- a directory's node
is_directory_node : (v : Volume) (n : ℕ) (r : Record) → is_directory_record r ≡ true → kind_in v n r ≡ Directory
unfolding kind_in
is_directory_node v n r directory = rw directory refl

node_of : ℕ → ℕ → Option Why → Bool → StdInfo → Node
node_of n seq why held info = record {
  number = n;
  seq = seq;
  kind = Directory;
  why = why;
  held = held;
  size = size_or None;
  valid = valid_or None;
  clusters = clusters_or None;
  bytes = [];
  flags = info.flags;
  created = info.created;
  modified = info.modified;
  changed = info.changed;
  read_at = info.read_at;
}

-- ---- the pairs of a record in use

slot_open : (c : Content) (v : Volume) (n : ℕ) (r : Record) → table_slot c v.per v.table n ≡ Used r → cond (leb v.table.initialised (1024 * n)) Free (slot_at c (block_at v.per v.table.runs FileRec n)) ≡ Used r
unfolding table_slot
slot_open c v n r is = is

whole_pairs : (o : Result Record ℕ) (r : Record) → (o >>= λ x. needs {F = ℕ} (has_all_pairs x) 7 >>= λ y. needs {F = ℕ} (has_lawful_values x) 8 >>= λ z. Ok x) ≡ Ok r → has_all_pairs r ≡ true
whole_pairs (Err rule) r is = absurd cc
whole_pairs (Ok x) r is = chosen (has_all_pairs x) (has_lawful_values x) refl is
  where
    chosen : (s t : Bool) → has_all_pairs x ≡ s → (needs {F = ℕ} s 7 >>= λ y. needs {F = ℕ} t 8 >>= λ z. Ok x) ≡ Ok r → has_all_pairs r ≡ true
    chosen true true all same = (let e : x ≡ r = cc in ap has_all_pairs (sym e) ∙ all)
    chosen true false all same = absurd cc
    chosen false t all same = absurd cc

used_pairs : (initialised at : ℕ) (c : Content) (o : Option Block) (r : Record) → cond (leb initialised at) Free (slot_at c o) ≡ Used r → list_all has_fitting_pairs r.attrs ≡ true
unfolding slot_of whole_record has_all_pairs
used_pairs initialised at c o r is = by_test (leb initialised at) o is
  where
    by_test : (t : Bool) (b : Option Block) → cond t Free (slot_at c b) ≡ Used r → list_all has_fitting_pairs r.attrs ≡ true
    by_test true b same = absurd cc
    by_test false None same = absurd cc
    by_test false (Some b) same = whole_pairs (shaped_at (c b).bytes) r (read_in_use (c b).torn (is_used (c b).bytes) (whole_record (c b).bytes) r same).2

-- ---- extents of a stream that may have none

runs_are : (o : Option Stream) → runs_in o ≡ (extents_or o).runs
runs_are None = refl
runs_are (Some (Held value)) = refl
runs_are (Some (Placed e)) = refl

whole_runs : (o : Option Stream) → has_hole o ≡ false → list_any is_hole (extents_or o).runs ≡ false
whole_runs None none = refl
whole_runs (Some (Held value)) none = refl
whole_runs (Some (Placed e)) none = none

-- a block of the extents that begins below their initialised size is one that the stream has initialised
initialised_there : (o : Option Stream) (x : ℕ) → x < (extents_or o).initialised → x < initialised_in o
initialised_there None x low = low
initialised_there (Some (Held value)) x low = low
initialised_there (Some (Placed e)) x low = low

-- the streams of an index have no sparse run
whole_of : (n : ℕ) (r : Record) → is_directory_record r ≡ true → keeps_whole n r ≡ true → (has_hole (index_stream r) ≡ false) × (has_hole (used_stream r) ≡ false)
unfolding keeps_whole index_stream
whole_of n r directory is =
    let parts = and_parts _ _ (is_then (is_directory_record r) _ directory (and_parts _ _ is).1) in
    (from_not (has_hole (stream_of index_allocation names_index r.attrs)) parts.0, from_not (has_hole (stream_of bitmap_type names_index r.attrs)) parts.1)
  where
    is_then : (a b : Bool) → a ≡ true → implies a b ≡ true → b ≡ true
    is_then true b one two = two
    is_then false b one two = absurd cc

    from_not : (t : Bool) → not t ≡ true → t ≡ false
    from_not true holds = absurd cc
    from_not false holds = refl

module _ (c : Content) (g : Geometry) (clusters : ℕ) (v : Volume) (n : ℕ) (r : Record) (more : List Run) (real initialised : ℕ) (p s : Record) (bodies : List NewBody) (sized : HasSizes c) (eight : g.per_cluster ≡ 8) (state : Stands c g clusters v) (k : PutsRooted c v n r more real initialised p s bodies) where
  abbrev d : Content
  d = content_with c bodies

  abbrev e : Extents
  e = blocks_before r

  abbrev f : Extents
  f = blocks_behind v.per r more real initialised

  abbrev own_key : StreamKey
  own_key = record { file = n; kind = index_allocation; name = names_index }

  abbrev used_key : StreamKey
  used_key = record { file = n; kind = bitmap_type; name = names_index }

  abbrev streams : StreamKey → Bool
  streams = marks_and n index_allocation names_index

  abbrev writes : List Write
  writes = writes_in bodies

  abbrev edits : List FileEdit
  edits = record { number = n; file = Some s } ∷ []

  abbrev files : List (Option Record)
  files = with_edits edits v.files

  abbrev w : Volume
  w = with_record v n s

  abbrev touched : ℕ → Bool
  touched = is_edited edits

  abbrev inside : ℕ → Bool
  inside m = true

  abbrev FreshOr : Block → Type 0
  FreshOr b = IsOwnedIn marks_streams v b ⊎ (block_at v.per v.table.runs FileRec n ≡ Some b) ⊎ IsFreshBlock v r (blocks_behind v.per r more real initialised) b

  pub per_8 : v.per ≡ 8
  per_8 = per_is c g clusters v eight state

  some_per : 0 < v.per
  some_per = let is = per_8 in omega (arith, is)

  -- ---- its record

  own : OwnRecord c v n r
  own = own_record c g clusters v n r state k.file k.no_list

  all_pairs : list_all has_fitting_pairs r.attrs ≡ true
  unfolding has_all_pairs
  all_pairs = used_pairs v.table.initialised (1024 * n) c (block_at v.per v.table.runs FileRec n) r (slot_open c v n r own.slot)

  pub reads : All Reads r.attrs
  reads = all_read r.attrs all_pairs

  seq_now : s.head.seq ≡ r.head.seq
  seq_now = k.values.seq ∙ k.written.seq

  types_now : (t : ℕ) → t ≢ index_allocation → t ≢ bitmap_type → has_type t s ≡ has_type t r
  types_now = same_types r p s f k.written reads k.values

  directory_now : is_directory_record s ≡ is_directory_record r
  directory_now = same_directory r p s f k.written reads k.values

  links_now : record_links n s ≡ record_links n r
  links_now = same_links r p s f k.written reads k.values n

  beside_data : (alias : List ℕ) → IsBeside data_type alias
  beside_data alias = record { blocks = inl (λ e. omega (arith, e)); bits = inl (λ e. omega (arith, e)) }

  data_now : (alias : List ℕ) → stream_of data_type alias s.attrs ≡ stream_of data_type alias r.attrs
  data_now alias = same_stream r p s f k.written reads k.values data_type alias (beside_data alias) (λ e. omega (arith, e))

  unnamed_bits : stream_of bitmap_type [] s.attrs ≡ stream_of bitmap_type [] r.attrs
  unnamed_bits = same_stream r p s f k.written reads k.values bitmap_type [] (record { blocks = inr (λ e. absurd cc); bits = inr (λ e. absurd cc) }) (λ e. omega (arith, e))

  below : n < count_of v
  below = inside_list v.files n r (some_file v n r k.file)

  slot : table_slot d v.per v.table n ≡ Used s
  slot = slot_put c v n s bodies k.anew.block k.anew.bytes sized k.whole (slot_begins c v n r own.slot) k.anew.place k.anew.put k.anew.reads

  base : is_base_record s ≡ true
  base = ap (λ (x : FileRef). eqb x.number 0 && eqb x.seq 0) (k.values.base ∙ k.written.base) ∙ own.base

  no_list_now : has_type attribute_list s ≡ false
  no_list_now = types_now attribute_list (λ e. omega (arith, e)) (λ e. omega (arith, e)) ∙ k.no_list

  -- ---- the rules of its streams before

  rule_4 : keeps_streams c v n r ≡ true
  rule_4 = streams_at c g clusters v n r state k.file

  old_rules : (list_all (keeps_stream v.per v.clusters r.attrs) r.attrs ≡ true) × (keeps_whole n r ≡ true)
  unfolding keeps_streams
  old_rules = and_parts _ _ (and_parts _ _ (and_parts _ _ rule_4).0).0

  rule_of : (kind : ℕ) (attributes : List Attr) → file_name ≢ kind → attributes_of kind names_index r.attrs ≡ attributes → (are_joined (attributes_of kind names_index r.attrs) ≡ true) × (fits_volume v.per v.clusters (stream_of kind names_index r.attrs) ≡ true)
  unfolding stream_of
  rule_of kind [] other is = (ap are_joined is, ap (λ (l : List Attr). fits_volume v.per v.clusters (joined l)) is)
  rule_of kind (a ∷ others) other is = stream_rule v.per v.clusters kind names_index r a others other is old_rules.0

  blocks_rule : (are_joined (attributes_of index_allocation names_index r.attrs) ≡ true) × (fits_volume v.per v.clusters (index_stream r) ≡ true)
  unfolding index_stream
  blocks_rule = rule_of index_allocation (attributes_of index_allocation names_index r.attrs) (λ e. omega (arith, e)) refl

  bits_rule : (are_joined (attributes_of bitmap_type names_index r.attrs) ≡ true) × (fits_volume v.per v.clusters (used_stream r) ≡ true)
  bits_rule = rule_of bitmap_type (attributes_of bitmap_type names_index r.attrs) (λ e. omega (arith, e)) refl

  old_whole : (has_hole (index_stream r) ≡ false) × (has_hole (used_stream r) ≡ false)
  old_whole = whole_of n r k.directory old_rules.1

  old_fits : fits_volume v.per v.clusters (Some (Placed e)) ≡ true
  old_fits = extents_fit v.per v.clusters (index_stream r) blocks_rule.1

  pub new_spelled : HasSpelling 0 f.runs
  new_spelled = spelled_now v.per v.clusters e more real initialised per_8 old_fits k.spelled k.taken.spelled k.room k.sizes

  pub new_fits : fits_volume v.per v.clusters (Some (Placed f)) ≡ true
  new_fits = fits_now v.per v.clusters e more real initialised per_8 old_fits k.spelled k.taken.spelled k.room k.sizes k.taken.inside

  bits_fit : fits_volume v.per v.clusters (used_stream p) ≡ true
  bits_fit = elim k.written.bits [
    | inl stays ↦ ap (fits_volume v.per v.clusters) stays ∙ bits_rule.1
    | inr value ↦ ap (fits_volume v.per v.clusters) value.1
  ]

  pub new_whole : has_hole (Some (Placed f)) ≡ false
  new_whole = grown_whole e.runs more (whole_runs (index_stream r) old_whole.0) k.taken.whole

  used_is : used_stream s ≡ used_stream p
  used_is = used_now r p s f k.written reads k.values

  bits_whole : has_hole (used_stream s) ≡ false
  bits_whole = elim k.written.bits [
    | inl stays ↦ ap has_hole (used_is ∙ stays) ∙ old_whole.1
    | inr value ↦ ap has_hole (used_is ∙ value.1)
  ]

  stream_is : index_stream s ≡ Some (Placed f)
  stream_is = blocks_now r p s f k.written reads k.values

  -- ---- which files are touched

  at_own : touched n ≡ true
  at_own = or_left (eqb n n) false (eq-eqb n n refl)

  others_not : (m : ℕ) → m ≢ n → touched m ≡ false
  others_not m other = ap (λ (t : Bool). t || false) (ne_eqb n m (λ same. other (sym same)))

  not_other : (m : ℕ) → touched m ≡ false → m ≢ n
  not_other m is same = both_ways (touched m) is (ap touched same ∙ at_own)

  here : (P : ℕ → Type 0) → P n → (m : ℕ) → touched m ≡ true → P m
  here P holds m is = elim (cases_eq m n) [
    | inl same ↦ subst P (sym same) holds
    | inr other ↦ absurd (both_ways (touched m) (others_not m other) is)
  ]

  differs : OneFileDiffers n v.files files
  differs = record {
    count = length-with_edits v.files edits;
    others = λ m other. other_file v.files edits m ((λ same. other (sym same)), tt);
  }

  at_n : file_in w n ≡ Some s
  unfolding file_at
  at_n = as_file (get_or (with_edits edits v.files) n None) s (edited_files v.files edits (below, tt, tt)).0 base

  names : KeepsNames n (table_in v.files) (table_in files)
  unfolding links_at
  names = ap (file_links n) at_n ∙ links_now ∙ sym (ap (file_links n) k.file)

  all_named : (m : ℕ) → links_at (table_in files) m ≡ links_at (table_in v.files) m
  all_named = names_everywhere (table_in v.files) (table_in files) n differs.others names

  directories : (m : ℕ) → KeepsDirectory m (table_in v.files) (table_in files)
  directories m seq =
      let before = table_in v.files in
      let after = table_in files in
      this_or_other (λ (x : ℕ). is_directory_with seq (file_at after x) ≡ is_directory_with seq (file_at before x)) n m (keeps_both before after n r s k.file at_n seq_now directory_now seq)
      (λ other. ap (is_directory_with seq) (file_elsewhere before after n m differs.others other))

  touches : TouchesFiles touched inside v.files files
  touches = record {
    count = differs.count;
    others = λ m is. differs.others m (not_other m is);
    places = all_keep (table_in v.files) (table_in files) all_named directories;
    within = λ m is. refl;
  }

  -- ---- the streams of the new volume

  own_was : stream_at v own_key ≡ index_stream r
  unfolding index_stream
  own_was = ap (file_stream index_allocation names_index) k.file

  own_now : stream_at w own_key ≡ Some (Placed f)
  unfolding index_stream
  own_now = ap (file_stream index_allocation names_index) at_n ∙ stream_is

  runs_were : runs_in (stream_at v own_key) ≡ e.runs
  runs_were = ap runs_in own_was ∙ runs_are (index_stream r)

  -- each is that of the blocks, that of their bitmap, which stays or has no clusters, or stays
  which : (t : StreamKey) → (t ≡ own_key) ⊎ (runs_in (stream_at w t) ≡ []) ⊎ StaysLaid (stream_at v t) (stream_at w t)
  which t = elim (cases_eq t.file n) [
    | inl file ↦ elim (same_or_other index_allocation t.kind names_index t.name) [
      | inl same ↦ inl (same_key t own_key file same.0 same.1)
      | inr not_blocks ↦ elim (same_or_other bitmap_type t.kind names_index t.name) [
        | inl same ↦ bitmap (same_key t used_key file same.0 same.1)
        | inr not_bits ↦
            (let laid = same_laid r p s f k.written reads k.values t.kind t.name (record { blocks = not_blocks; bits = not_bits }) in
            let now : stream_at w t ≡ stream_of t.kind t.name s.attrs = ap (λ (m : ℕ). file_stream t.kind t.name (file_in w m)) file ∙ ap (file_stream t.kind t.name) at_n in
            let was : stream_at v t ≡ stream_of t.kind t.name r.attrs = ap (λ (m : ℕ). file_stream t.kind t.name (file_in v m)) file ∙ ap (file_stream t.kind t.name) k.file in
            inr (inr (record { runs = ap runs_in now ∙ laid.runs ∙ sym (ap runs_in was); size = ap initialised_in now ∙ laid.size ∙ sym (ap initialised_in was) })))
      ]
    ]
    | inr other ↦ inr (inr (stays_laid (stream_at v t) (stream_at w t) (ap (file_stream t.kind t.name) (file_elsewhere (table_in v.files) (table_in files) n t.file differs.others other))))
  ]
    where
      bitmap : t ≡ used_key → (t ≡ own_key) ⊎ (runs_in (stream_at w t) ≡ []) ⊎ StaysLaid (stream_at v t) (stream_at w t)
      bitmap is =
          let now : stream_at w t ≡ used_stream p = ap (stream_at w) is ∙ ap (file_stream bitmap_type names_index) at_n ∙ used_is in
          let was : stream_at v t ≡ used_stream r = ap (stream_at v) is ∙ ap (file_stream bitmap_type names_index) k.file in
          elim k.written.bits [
            | inl stays ↦ inr (inr (stays_laid (stream_at v t) (stream_at w t) (now ∙ stays ∙ sym was)))
            | inr value ↦ inr (inl (ap runs_in (now ∙ value.1)))
          ]

  -- ---- no cluster of the blocks lies twice

  all_once : AreOnce (volume_runs v.files)
  all_once = once c g clusters v state

  none_had : (x : ℕ) → 0 < uses more x → uses (volume_runs v.files) x ≡ 0
  none_had x some = elim (cases_lt x v.clusters) [
    | inl low ↦ elim (cases_lt 0 (uses (volume_runs v.files) x)) [
      | inl had ↦ absurd (both_ways (bit (cluster_bits c v) x) (k.taken.clear x some) (marked_if_used c g clusters v x state low had))
      | inr none ↦ omega (arith, none)
    ]
    | inr high ↦ (let never : uses more x ≡ 0 = unused v.clusters x more k.taken.inside high in absurd (omega (arith, never, some)))
  ]

  uses_were : (x : ℕ) → uses e.runs x ≤ uses (volume_runs v.files) x
  uses_were x = (let some_of = stream_of_volume v own_key x in let same : uses (runs_in (stream_at v own_key)) x ≡ uses e.runs x = ap (λ (l : List Run). uses l x) runs_were in omega (arith, some_of, same))

  pub new_once : AreOnce f.runs
  new_once x =
      let sum = uses-grown e.runs more x in
      let had = uses_were x in
      let few = k.taken.once x in
      let all = all_once x in
      elim (cases_lt 0 (uses more x)) [
        | inl some ↦ (let none = none_had x some in omega (arith, sum, had, few, none))
        | inr none ↦ omega (arith, sum, had, all, none)
      ]

  -- ---- the writes

  as_write : (p : NewBody) → FreshOr p.block → IsInStream streams v (whole_write p) ⊎ IsInRecord touched v (whole_write p) ⊎ LiesFree v (whole_write p).block
  as_write p (inl owned) = inl (record { stream = owned.stream; chosen = or_left (marks_streams owned.stream) _ owned.chosen; kind = stream_kind owned.stream; number = owned.number; lies = owned.lies })
  as_write p (inr (inl its)) = inr (inl (record { number = n; chosen = at_own; lies = its }))
  as_write p (inr (inr fresh)) = elim (cases_lt fresh.number (total_clusters e.runs)) [
    | inl had ↦
        inl
        (record {
          stream = own_key;
          chosen = own_chosen;
          kind = Index;
          number = fresh.number;
          lies = ap (λ (l : List Run). block_at v.per l Index fresh.number) runs_were ∙ sym (place_in v.per e.runs more fresh.number per_8 k.spelled k.taken.spelled k.room had) ∙ fresh.lies;
        })
    | inr behind ↦ inr (inr (λ t has. none_had (t / v.per) (lies_in_more v.per fresh.number e.runs more p.block per_8 k.spelled k.taken.spelled k.room behind fresh.lies t has)))
  ]
    where
      own_chosen : streams own_key ≡ true
      own_chosen = or_right (marks_streams own_key) _ (and_from _ _ (and_from _ _ (eq-eqb n n refl) refl) refl)

  each_write : (rest : List NewBody) → AllByRecursion (λ p. FreshOr p.block) rest → AllByRecursion (λ x. IsInStream streams v x ⊎ IsInRecord touched v x ⊎ LiesFree v x.block) (writes_in rest)
  each_write [] all = tt
  each_write (p ∷ rest) all = (as_write p all.0, each_write rest all.1)

  only : (t : StreamKey) → streams t ≡ true → (marks_streams t ≡ true) ⊎ (t ≡ own_key)
  only t chosen = elim (cases_Bool (marks_streams t)) [
    | inl mark ↦ inl mark
    | inr other ↦
        (let is : (eqb t.file n && eqb t.kind index_allocation && pointwise nat_eq t.name names_index) ≡ true = sym (ap (λ (x : Bool). x || (eqb t.file n && eqb t.kind index_allocation && pointwise nat_eq t.name names_index)) other) ∙ chosen in
        let parts = and_parts (eqb t.file n && eqb t.kind index_allocation) (pointwise nat_eq t.name names_index) is in
        let two = and_parts (eqb t.file n) (eqb t.kind index_allocation) parts.0 in
        inr (same_key t own_key (eqb-true t.file n two.0) (eqb-true t.kind index_allocation two.1) (same_from_test t.name names_index parts.1)))
  ]

  spared : (t : StreamKey) → marks_streams t ≡ false → t ≢ own_key → streams t ≡ false
  spared t no_mark other = false_from_ne_true (streams t) (λ chosen. elim (only t chosen) [
    | inl mark ↦ both_ways (marks_streams t) no_mark mark
    | inr itself ↦ other itself
  ])

  other_file_spared : (m kind : ℕ) (name : List ℕ) → m ≢ n → kind ≢ data_type → streams (record { file = m; kind = kind; name = name }) ≡ false
  other_file_spared m kind name other type = spared (record { file = m; kind = kind; name = name }) (not_marks m kind name type) (λ same. other (ap (λ (t : StreamKey). t.file) same))

  other_kind_spared : (m kind : ℕ) (name : List ℕ) → kind ≢ index_allocation → marks_streams (record { file = m; kind = kind; name = name }) ≡ false → streams (record { file = m; kind = kind; name = name }) ≡ false
  other_kind_spared m kind name type no_mark = spared (record { file = m; kind = kind; name = name }) no_mark (λ same. type (ap (λ (t : StreamKey). t.kind) same))

  not_shown : (m : ℕ) (q : Record) → shows_data (kind_in v m q) ≡ true → streams (record { file = m; kind = data_type; name = [] }) ≡ false
  not_shown m q shown =
      other_kind_spared m data_type [] (λ e. omega (arith, e)) (not_marked m [] (λ same. no_system_shown v m q (omega (arith, same)) shown) (λ same. no_system_shown v m q (omega (arith, same)) shown))

  no_upcase : streams (record { file = upcase_file; kind = data_type; name = [] }) ≡ false
  no_upcase = other_kind_spared upcase_file data_type [] (λ e. omega (arith, e)) refl

  uncut_runs : (count : ℕ) (runs : List Run) → list_any (cuts_block v.per Index count) runs ≡ false
  uncut_runs count [] = refl
  uncut_runs count (x ∷ runs) =
      or_from _ _
      (or_from _ _
      (ap (is_inside_block Index count) (ap (λ (p : ℕ). x.vcn * p) per_8 ∙ omega arith) ∙ inside_none count x.vcn)
      (ap (is_inside_block Index count) (ap (λ (p : ℕ). (x.vcn + x.len) * p) per_8 ∙ omega arith) ∙ inside_none count (x.vcn + x.len)))
      (uncut_runs count runs)

  uncut_stream : (o : Option Stream) → has_cut_index_block v.per o ≡ false
  unfolding has_cut_block
  uncut_stream None = refl
  uncut_stream (Some (Held value)) = refl
  uncut_stream (Some (Placed x)) = uncut_runs _ x.runs

  alone : StandsAlone v.per (Used s)
  alone = (no_list_stream s no_list_now, none_of_two (is_directory_record s) _ (uncut_stream (stream_of index_allocation names_index s.attrs)))

  no_void : AreElsewhere writes void_block
  no_void = none_elsewhere bodies void_block k.void

  table_spared : streams table_key ≡ false
  table_spared = other_kind_spared table_file data_type [] (λ e. omega (arith, e)) refl

  puts : WritesFiles streams c v writes edits
  puts = record {
    distinct = (below, tt, tt);
    no_table = (k.apart.table, tt);
    own = (inl (r, k.file), tt);
    alone = (subst (λ (x : Slot). StandsAlone v.per x) (sym slot) alone, tt);
    files = (sym (file_slot d v n s slot base), tt);
    each = each_write bodies k.each;
    table = table_spared;
    lists = λ m alias. other_kind_spared m attribute_list alias (λ e. omega (arith, e)) (not_marks m attribute_list alias (λ e. omega (arith, e)));
    spares = record {
      sized = sized;
      void = no_void;
      upcase = no_upcase;
      free = λ m low other clear. other;
      indexes = λ m q other is directory. other_file_spared m index_allocation names_index (not_other m other) (λ e. omega (arith, e));
      shown = λ m q other is shown. not_shown m q shown;
    };
  }

  within : WritesWithin streams touched c g clusters v writes
  within = written_within streams c g clusters v writes edits state puts

  marked : bit (record_bits c v) n ≡ true
  marked = marked_in_use c v n (rules_of c v state.kept).rule_7 below (slot_in_use c v n r own.slot)

  agree : AgreeBut n c d v
  unfolding entries_name
  agree = planned_agree n streams touched c g clusters v writes within (record {
    sized = sized;
    void = no_void;
    upcase = no_upcase;
    free = λ m low other clear. others_not m (eqb-false m n other);
    indexes = λ m q other is directory. other_file_spared m index_allocation names_index (eqb-false m n other) (λ e. omega (arith, e));
    shown = λ m q other is shown. not_shown m q shown;
  }) marked (other_kind_spared table_file bitmap_type [] (λ e. omega (arith, e)) (not_marks table_file bitmap_type [] (λ e. omega (arith, e)))) (λ m is. other_kind_spared m data_type entries_name (λ e. omega (arith, e)) (not_named m data_type 0x24 (0x4A ∷ [])))

  -- ---- the blocks that the index had

  own_apart : (t : StreamKey) → marks_streams t ≡ true → own_key ≢ t
  own_apart t mark same = both_ways (marks_streams t) (ap marks_streams (sym same) ∙ not_marks n index_allocation names_index (λ e. omega (arith, e))) mark

  -- no body is put into a block that was initialised
  one_left : (i : ℕ) (b : Block) → block_at v.per e.runs Index i ≡ Some b → 4096 * i < e.initialised → (p : NewBody) → FreshOr p.block → overlap b p.block ≡ false
  one_left i b at low p (inl owned) =
      stream_blocks_apart v own_key owned.stream Index (stream_kind owned.stream) i owned.number b p.block some_per all_once (own_apart owned.stream owned.chosen) (ap (λ (l : List Run). block_at v.per l Index i) runs_were ∙ at) owned.lies
  one_left i b at low p (inr (inl its)) =
      stream_blocks_apart v own_key table_key Index FileRec i n b p.block some_per all_once (λ same. k.apart.table (ap (λ (t : StreamKey). t.file) same)) (ap (λ (l : List Run). block_at v.per l Index i) runs_were ∙ at)
      (ap (λ (l : List Run). block_at v.per l FileRec n) (table_runs c g clusters v within.begins) ∙ its)
  one_left i b at low p (inr (inr fresh)) = false_from_ne_true (overlap b p.block) (λ both.
      let there : block_at v.per f.runs Index i ≡ Some b = place_kept v.per v.clusters e more real initialised per_8 old_fits k.spelled k.taken.spelled k.room k.sizes i low ∙ at in
      let same : i ≡ fresh.number = one_place v.per f.runs Index i fresh.number b p.block some_per new_once there fresh.lies both in
      let past = fresh.past in
      omega (arith, same, past, low))

  all_left : (i : ℕ) (b : Block) → block_at v.per e.runs Index i ≡ Some b → 4096 * i < e.initialised → (rest : List NewBody) → AllByRecursion (λ p. FreshOr p.block) rest → AreElsewhere (writes_in rest) b
  all_left i b at low [] all = tt
  all_left i b at low (p ∷ rest) all = (apart_elsewhere b (whole_write p) (one_left i b at low p all.0), all_left i b at low rest all.1)

  void_stays : d void_block ≡ c void_block
  void_stays = body_elsewhere c writes void_block sized no_void

  pub body_stays : (i : ℕ) → d (index_block v.per e i) ≡ c (index_block v.per e i)
  unfolding index_block
  body_stays i = elim (cases_lt (4096 * i) e.initialised) [
    | inl low ↦
        (let begins : leb e.initialised (4096 * i) ≡ false = lt-leb e.initialised (4096 * i) low in
        ap (λ (t : Bool). d (cond t void_block (or_void (block_at v.per e.runs Index i)))) begins
        ∙ at_place (block_at v.per e.runs Index i) refl low
        ∙ sym (ap (λ (t : Bool). c (cond t void_block (or_void (block_at v.per e.runs Index i)))) begins))
    | inr past ↦
        (let is_past : leb e.initialised (4096 * i) ≡ true = le-leb e.initialised (4096 * i) past in
        ap (λ (t : Bool). d (cond t void_block (or_void (block_at v.per e.runs Index i)))) is_past ∙ void_stays ∙ sym (ap (λ (t : Bool). c (cond t void_block (or_void (block_at v.per e.runs Index i)))) is_past))
  ]
    where
      at_place : (o : Option Block) → block_at v.per e.runs Index i ≡ o → 4096 * i < e.initialised → d (or_void o) ≡ c (or_void o)
      at_place None at low = void_stays
      at_place (Some b) at low = body_elsewhere c writes b sized (all_left i b at low bodies k.each)

  -- ---- its nodes

  same_block_there : (i : ℕ) → i < block_count v.per e → (index_block v.per f i ≡ index_block v.per e i) ⊎ ((index_block v.per e i ≡ void_block) × (is_index_body (c void_block) ≡ false))
  same_block_there i low = elim (cases_lt (4096 * i) e.initialised) [
    | inl begins ↦ inl (block_kept v.per v.clusters e more real initialised per_8 old_fits k.spelled k.taken.spelled k.room k.sizes i begins)
    | inr past ↦ elim k.begun [
      | inl all ↦
          (let count = count_before v.per v.clusters e more real initialised per_8 old_fits k.spelled k.taken.spelled k.room k.sizes in
          absurd (omega (arith, count, all, past, low)))
      | inr none ↦ inr (block_void v.per v.clusters e more real initialised per_8 old_fits k.spelled k.taken.spelled k.room k.sizes i past, none)
    ]
  ]

  abbrev old_place : Place
  old_place = record { blocks = map (index_block v.per e) (range_with_len 0 (block_count v.per e)); step = 8 / v.per }

  abbrev new_place : Place
  new_place = record { blocks = map (index_block v.per f) (range_with_len 0 (block_count v.per f)); step = 8 / v.per }

  pub place_was : index_place v.per r ≡ old_place
  unfolding index_place
  place_was = ap (λ (l : List Block). record { blocks = l; step = 8 / v.per }) (blocks_are v.per (index_stream r))

  pub place_is : index_place v.per s ≡ new_place
  unfolding index_place
  place_is = ap (λ (o : Option Stream). record { blocks = stream_blocks v.per o; step = 8 / v.per }) stream_is ∙ ap (λ (l : List Block). record { blocks = l; step = 8 / v.per }) (blocks_are v.per (Some (Placed f)))

  pub had_count : block_count v.per e ≡ e.real / 4096
  had_count = count_before v.per v.clusters e more real initialised per_8 old_fits k.spelled k.taken.spelled k.room k.sizes

  pub has_count : block_count v.per f ≡ real / 4096
  has_count = count_now v.per v.clusters e more real initialised per_8 old_fits k.spelled k.taken.spelled k.room k.sizes

  pub was_lawful : e.initialised ≤ e.real
  was_lawful = (sizes_lawful v.per v.clusters e old_fits).0

  pub same_place : (i : ℕ) → 4096 * i < e.initialised → index_block v.per f i ≡ index_block v.per e i
  same_place = block_kept v.per v.clusters e more real initialised per_8 old_fits k.spelled k.taken.spelled k.room k.sizes

  pub void_past : (i : ℕ) → e.initialised ≤ 4096 * i → index_block v.per e i ≡ void_block
  void_past = block_void v.per v.clusters e more real initialised per_8 old_fits k.spelled k.taken.spelled k.room k.sizes

  -- fewer bytes than a number of 64 bits has
  pub few_bytes : real ≤ 2 ^ 44
  few_bytes =
      let high = k.sizes.room in
      let sum = total-grown e.runs more in
      let all = k.room in
      by_per v.per per_8 (total_clusters f.runs) high (omega (arith, sum, all))
    where
      by_per : (per : ℕ) → per ≡ 8 → (total : ℕ) → real ≤ total * (512 * per) → total ≤ 2 ^ 32 → real ≤ 2 ^ 44
      by_per per eight total = subst (λ (x : ℕ). real ≤ total * (512 * x) → total ≤ 2 ^ 32 → real ≤ 2 ^ 44) (sym eight) (λ high few. omega (arith, high, few))

  pub index_nodes : (count : ℕ → ℕ) → KeepsNodes c (index_place v.per r) d (index_place v.per s) count
  index_nodes count =
      let rises = count_rises v.per v.clusters e more real initialised per_8 old_fits k.spelled k.taken.spelled k.room k.sizes in
      let kept : KeepsNodes c old_place d new_place count = keeps_nodes c d (index_block v.per e) (index_block v.per f) (block_count v.per e) (block_count v.per f) (8 / v.per) rises same_block_there (λ i low. body_stays i) count in
      subst (λ (x : Place). KeepsNodes c x d (index_place v.per s) count) (sym place_was) (subst (λ (x : Place). KeepsNodes c old_place d x count) (sym place_is) kept)

  pub index_no_more : real ≤ initialised → e.real ≡ 4096 * (e.real / 4096) → ((i : ℕ) → e.initialised ≤ 4096 * i → 4096 * (i + 1) ≤ real → is_index_body (d (index_block v.per f i)) ≡ false) → (count : ℕ → ℕ) → KeepsNodes d (index_place v.per s) c (index_place v.per r) count
  index_no_more all whole fresh count =
      let was : block_count v.per e ≡ e.real / 4096 = count_before v.per v.clusters e more real initialised per_8 old_fits k.spelled k.taken.spelled k.room k.sizes in
      let is : block_count v.per f ≡ real / 4096 = count_now v.per v.clusters e more real initialised per_8 old_fits k.spelled k.taken.spelled k.room k.sizes in
      let lawful = (sizes_lawful v.per v.clusters e old_fits).0 in
      let each : (i : ℕ) → i < block_count v.per f → ((i < block_count v.per e) × (index_block v.per f i ≡ index_block v.per e i) × (d (index_block v.per e i) ≡ c (index_block v.per e i))) ⊎ (is_index_body (d (index_block v.per f i)) ≡ false) =
      (λ i low. elim (cases_lt (4096 * i) e.initialised) [
        | inl begins ↦ inl (omega (arith, was, whole, lawful, begins), block_kept v.per v.clusters e more real initialised per_8 old_fits k.spelled k.taken.spelled k.room k.sizes i begins, body_stays i)
        | inr past ↦ inr (fresh i past (omega (arith, is, low)))
      ])
      in
      let back : KeepsNodes d new_place c old_place count = nodes_back c d (index_block v.per e) (index_block v.per f) (block_count v.per e) (block_count v.per f) (8 / v.per) each count in
      subst (λ (x : Place). KeepsNodes d (index_place v.per s) c x count) (sym place_was) (subst (λ (x : Place). KeepsNodes d x c old_place count) (sym place_is) back)

  pub index_behind : e.real ≤ e.initialised → PlaceGoesOn (index_place v.per r) (index_place v.per s)
  index_behind all =
      let was : ℕ = block_count v.per e in
      let is : ℕ = block_count v.per f in
      let rises = count_rises v.per v.clusters e more real initialised per_8 old_fits k.spelled k.taken.spelled k.room k.sizes in
      let count = count_before v.per v.clusters e more real initialised per_8 old_fits k.spelled k.taken.spelled k.room k.sizes in
      record {
        step = ap (λ (x : Place). x.step) place_is ∙ sym (ap (λ (x : Place). x.step) place_was);
        more = map (index_block v.per f) (range_with_len (0 + was) (is - was));
        blocks =
            ap (λ (x : Place). x.blocks) place_is
            ∙ ap (λ (x : ℕ). map (index_block v.per f) (range_with_len 0 x)) (omega (arith, rises))
            ∙ goes_behind (index_block v.per f) (index_block v.per e) 0 was (is - was) (λ i low high. block_kept v.per v.clusters e more real initialised per_8 old_fits k.spelled k.taken.spelled k.room k.sizes i (omega (arith, high, count, all)))
            ∙ sym (ap (λ (x : Place). x.blocks ++ map (index_block v.per f) (range_with_len (0 + was) (is - was))) place_was);
      }

  -- ---- the parts of the volume

  pub upper_now : upper_of d w ≡ upper_of c v
  upper_now = upper_stays d v files n differs k.apart.upcase ∙ same_upper c d v agree.upper

  bits_now : record_bits d w ≡ record_bits c v
  bits_now = record_bits_stay d v files n differs k.apart.table ∙ same_record_bits c d v agree.bits

  marks_now : cluster_bits d w ≡ cluster_bits d v
  marks_now = cluster_bits_stay d v files n differs k.apart.bitmap

  flags_same : entries_flags s ≡ entries_flags r
  unfolding entries_flags
  flags_same = same_flags r p s f k.written reads k.values data_type entries_name (beside_data entries_name) (λ e. omega (arith, e))

  own_journal : journal_of_file d v.per (Some s) ≡ journal_of_file d v.per (Some r)
  own_journal =
      ap₂ (λ (x : ℕ) (o : Option Stream). journal_of_streams d v.per x (stream_of data_type limits_name s.attrs) o) flags_same (data_now entries_name)
      ∙ ap (λ (o : Option Stream). journal_of_streams d v.per (entries_flags r) o (stream_of data_type entries_name r.attrs)) (data_now limits_name)

  journal_with : (o : Option ℕ) → journal_of_file d w.per (file_or_none w o) ≡ journal_of_file d v.per (file_or_none v o)
  journal_with None = refl
  journal_with (Some m) =
      this_or_other (λ (x : ℕ). journal_of_file d v.per (file_in w x) ≡ journal_of_file d v.per (file_in v x)) n m (ap (journal_of_file d v.per) at_n ∙ own_journal ∙ sym (ap (journal_of_file d v.per) k.file))
      (λ other. ap (journal_of_file d v.per) (file_elsewhere (table_in v.files) (table_in files) n m differs.others other))

  journal_now : journal_of d (upper_of d w) w ≡ journal_of c (upper_of c v) v
  unfolding journal_of journal_file
  journal_now =
      ap (λ (u : List ℕ). journal_of d u w) upper_now
      ∙ ap (λ (o : Option ℕ). journal_of_file d w.per (file_or_none w o)) (number_stays v files (upper_of c v) n differs names)
      ∙ journal_with (journal_number (upper_of c v) v)
      ∙ same_journal c d v (upper_of c v) agree.journal

  -- ---- the names

  old_1 : keeps_names n r (record_links n r) ≡ true
  unfolding broken_1 keeps_1
  old_1 = sym (ap (at_file (λ q. keeps_names n q (record_links n q))) k.file) ∙ passes_below (keeps_1 (files_by_number v)) (count_of v) (rules_of c v state.kept).rule_1 n below

  new_1 : keeps_1 (table_in files) n ≡ true
  unfolding keeps_1
  new_1 = ap (at_file (λ q. keeps_names n q (record_links n q))) at_n ∙ ap (keeps_names n s) links_now ∙ same_names r p s f k.written reads k.values n (record_links n r) ∙ old_1

  pub old_3 : lists_names (upper_of c v) (files_by_number v) (count_of v) (reference n r) (index_links c v.per (upper_of c v) r) ≡ true
  unfolding broken_3 keeps_index
  old_3 =
      let test : Record → Bool = λ q. implies (is_directory_record q) (lists_names (upper_of c v) (files_by_number v) (count_of v) (reference n q) (index_links c v.per (upper_of c v) q)) in
      is_then (is_directory_record r) _ k.directory (sym (ap (at_file test) k.file) ∙ passes_below (keeps_index c v (upper_of c v)) (count_of v) (rules_of c v state.kept).rule_3 n below)
    where
      is_then : (a b : Bool) → a ≡ true → implies a b ≡ true → b ≡ true
      is_then true b one two = two
      is_then false b one two = absurd cc

  -- that the index lists what it listed
  abbrev pub SameNames : Type 0
  SameNames = index_links d v.per (upper_of c v) s ≡ index_links c v.per (upper_of c v) r

  listed_now : SameNames → lists_names (upper_of c v) (files_by_number w) (count_of w) (reference n s) (index_links d w.per (upper_of c v) s) ≡ lists_names (upper_of c v) (files_by_number v) (count_of v) (reference n r) (index_links c v.per (upper_of c v) r)
  listed_now index_listed =
      let upper = upper_of c v in
      let before = table_in v.files in
      let after = table_in files in
      ap (λ (q : ℕ). lists_names upper after (length files) (record { number = n; seq = q }) (index_links d v.per upper s)) seq_now
      ∙ ap (λ (o : Option (List Link)). lists_names upper after (length files) (reference n r) o) index_listed
      ∙ ap (λ (x : ℕ). lists_names upper after x (reference n r) (index_links c v.per upper r)) differs.count
      ∙ same_listed upper before after (count_of v) (reference n r) (index_links c v.per upper r) (same_name_in before after (reference n r) all_named) (same_count before after (reference n r) (count_of v) all_named)

  new_3 : SameNames → keeps_index d w (upper_of c v) n ≡ true
  unfolding keeps_index
  new_3 index_listed =
      let test : Record → Bool = λ q. implies (is_directory_record q) (lists_names (upper_of c v) (files_by_number w) (count_of w) (reference n q) (index_links d w.per (upper_of c v) q)) in
      ap (at_file test) at_n ∙ or_right (not (is_directory_record s)) _ (listed_now index_listed ∙ old_3)

  -- ---- its clusters

  abbrev taken : ℕ → ℕ
  taken x = uses more x

  abbrev given : ℕ → ℕ
  given x = 0

  pub all_clusters : (x : ℕ) → uses (volume_runs files) x ≡ uses (volume_runs v.files) x + taken x
  all_clusters x =
      let sums = clusters_replaced v.files files n x differs in
      let now : uses (file_runs (table_in files n)) x ≡ uses (file_runs (Some s)) x = ap (λ (o : Option Record). uses (file_runs o) x) (edited_files v.files edits (below, tt, tt)).0 in
      let was : uses (file_runs (table_in v.files n)) x ≡ uses (file_runs (Some r)) x = ap (λ (o : Option Record). uses (file_runs o) x) (some_file v n r k.file) in
      let own_sum = blocks_uses r p s f k.written reads k.values x blocks_rule.0 bits_rule.0 in
      let grown_sum = uses-grown e.runs more x in
      omega (arith, sums, now, was, own_sum, grown_sum)

  bit_now : (x : ℕ) → bit (cluster_bits d w) x ≡ bit (cluster_bits d v) x
  bit_now x = ap (λ (l : List Bool). bit l x) marks_now

  none_marked : (x : ℕ) → bit (cluster_bits c v) x ≡ true → uses more x ≤ 0
  none_marked x set = elim (cases_lt 0 (uses more x)) [
    | inl some ↦ absurd (both_ways (bit (cluster_bits c v) x) (k.taken.clear x some) set)
    | inr none ↦ none
  ]

  clusters_follow : TakesClusters taken given v.clusters (cluster_bits c v) (cluster_bits d (with_files v files)) v.files files
  clusters_follow = record {
    balance = λ x low. (let sum = all_clusters x in omega (arith, sum));
    clear = λ x low clear. k.taken.once x;
    marked = λ x low set. none_marked x set;
    not_taken = λ x low is. set_or (uses more x) (bit (cluster_bits c v) x) (sym (k.marked x low) ∙ sym (bit_now x) ∙ is);
    freed = λ x low was is. absurd (both_ways (bit (cluster_bits d w) x) is (bit_now x ∙ k.marked x low ∙ or_right (leb 1 (uses more x)) (bit (cluster_bits c v) x) was));
  }

  -- ---- the rules of its streams

  untorn : (b : Block) → IsPut bodies b → (d b).torn ≡ false
  untorn b put = ap (λ (x : Body). x.torn) (body_put c bodies b sized k.whole ∙ ap (body_or (c b)) put.1)

  -- an index block that begins below so many bytes is among those that are begun
  among : (m size : ℕ) → 4096 * m < size → m < 0 + begun 4096 size
  among m size low = omega (arith, low)

  old_torn : (o : Option Stream) → stream_has_torn d v.per Index 4096 o ≡ false → (m : ℕ) → 4096 * m < (extents_or o).initialised → is_torn_at d (block_at v.per (extents_or o).runs Index m) ≡ false
  unfolding has_torn
  old_torn None none m low = absurd (omega (arith, low))
  old_torn (Some (Held value)) none m low = absurd (omega (arith, low))
  old_torn (Some (Placed x)) none m low = none_at (λ i. is_torn_at d (block_at v.per x.runs Index i)) 0 (begun 4096 x.initialised) m none (omega arith) (among m x.initialised low)

  new_torn : stream_has_torn d v.per Index 4096 (index_stream r) ≡ false → has_torn d v.per Index 4096 f ≡ false
  unfolding has_torn
  new_torn none = none_from (λ m. is_torn_at d (block_at v.per f.runs Index m)) 0 (begun 4096 initialised) (λ m low high. at_number m (omega (arith, high)))
    where
      by_block : (m : ℕ) → e.initialised ≤ 4096 * m → 4096 * m < initialised → (o : Option Block) → block_at v.per f.runs Index m ≡ o → is_torn_at d o ≡ false
      by_block m past low None at = refl
      by_block m past low (Some b) at = untorn b (k.covers m b at past low)

      at_number : (m : ℕ) → 4096 * m < initialised → is_torn_at d (block_at v.per f.runs Index m) ≡ false
      at_number m low = elim (cases_lt (4096 * m) e.initialised) [
        | inl was ↦ ap (is_torn_at d) (place_kept v.per v.clusters e more real initialised per_8 old_fits k.spelled k.taken.spelled k.room k.sizes m was) ∙ old_torn (index_stream r) none m was
        | inr past ↦ by_block m past low (block_at v.per f.runs Index m) refl
      ]

  streams_now : keeps_streams d v n r ≡ true → keeps_streams d w n s ≡ true
  unfolding index_stream
  streams_now was =
      let test = sym (by_test d v n r) ∙ was in
      let torn_parts = and_parts _ _ test in
      let table_parts = and_parts _ _ torn_parts.0 in
      let hole_parts = and_parts _ _ table_parts.0 in
      let whole_parts = and_parts _ _ hole_parts.1 in
      let first_parts = and_parts _ _ whole_parts.0 in
      let untorn_parts = and_parts _ _ torn_parts.1 in
      by_test d w n s
      ∙ ap (λ (t : Bool). streams_test d v.per n (list_all (keeps_stream v.per v.clusters s.attrs) s.attrs) t (stream_of data_type [] s.attrs) (stream_of bitmap_type [] s.attrs) (stream_of index_allocation names_index s.attrs) (stream_of bitmap_type names_index s.attrs)) directory_now
      ∙ and_from _ _
      (and_from _ _
      (and_from _ _ (blocks_kept r p s f k.written reads k.values v.per v.clusters new_fits bits_fit hole_parts.0)
      (and_from _ _
      (and_from _ _ (ap (λ (o : Option Stream). implies (is_whole_file n) (not (has_hole o))) (data_now []) ∙ first_parts.0) (ap (λ (o : Option Stream). implies (eqb n table_file) (not (has_hole o))) unnamed_bits ∙ first_parts.1))
      (or_right (not (is_directory_record r)) _ (and_from _ _ (ap (λ (o : Option Stream). not (has_hole o)) stream_is ∙ ap not new_whole) (ap not bits_whole)))))
      (ap (λ (t : Bool). implies t (is_initialised (stream_of data_type [] s.attrs))) (ne_eqb n table_file k.apart.table)))
      (and_from _ _ (ap (λ (o : Option Stream). implies (eqb n table_file || eqb n mirror_file) (not (stream_has_torn d v.per FileRec 1024 o))) (data_now []) ∙ untorn_parts.0)
      (or_right (not (is_directory_record r)) _ (ap (λ (o : Option Stream). not (stream_has_torn d v.per Index 4096 o)) stream_is ∙ ap not (new_torn (from_not (stream_has_torn d v.per Index 4096 (stream_of index_allocation names_index r.attrs)) (is_then (is_directory_record r) _ k.directory untorn_parts.1))))))
    where
      is_then : (a b : Bool) → a ≡ true → implies a b ≡ true → b ≡ true
      is_then true b one two = two
      is_then false b one two = absurd cc

      from_not : (t : Bool) → not t ≡ true → t ≡ false
      from_not true holds = absurd cc
      from_not false holds = refl

  new_4 : keeps_sizes d w n ≡ true
  unfolding keeps_sizes
  new_4 =
      let kept : keeps_sizes d v n ≡ true = kept_sizes c d v n agree.torn (rule_4_at c g clusters v n state (omega (arith, below))) in
      let was : keeps_streams d v n r ≡ true = sym (ap (at_file (keeps_streams d v n)) k.file) ∙ (and_parts _ _ kept).0 in
      sizes_from d w n s at_n k.apart.table k.apart.bitmap (streams_now was)

  new_7 : keeps_record_bit d w n ≡ true
  unfolding keeps_record_bit
  new_7 = rule_7 d v files n n differs k.apart.table ∙ implied (is_in_use d v n) (bit (record_bits d v) n) (ap (λ (l : List Bool). bit l n) (same_record_bits c d v agree.bits) ∙ marked)

  new_9 : broken_9 d w ≡ None
  unfolding broken_9
  new_9 = ap fault_of journal_now ∙ (rules_of c v state.kept).rule_9

  outside : (P : Type 0) (m : ℕ) → inside m ≡ false → P
  outside P m is = absurd cc

  keeps : SameNames → KeepsTouched touched inside c d v w
  keeps index_listed = record {
    upcase = others_not upcase_file (λ same. k.apart.upcase (sym same));
    rule_1 = λ m low. here (λ (x : ℕ). keeps_1 (table_in files) x ≡ true) new_1 m;
    rule_2 = λ m low. outside (keeps_2 (table_in files) m ≡ true) m;
    rule_3 = λ m low. here (λ (x : ℕ). keeps_index d w (upper_of c v) x ≡ true) (new_3 index_listed) m;
    listed = λ m j q other is directory. outside (names_there (reference m q) (links_at (table_in files) j) ≡ names_there (reference m q) (links_at (table_in v.files) j)) j;
    rule_4 = λ m low. here (λ (x : ℕ). keeps_sizes d w x ≡ true) new_4 m;
    rule_5 = takes_5 taken given c d v files (rules_of c v state.kept).rule_5 (rules_of c v state.kept).rule_6 clusters_follow;
    rule_6 = takes_6 taken given c d v files (rules_of c v state.kept).rule_5 (rules_of c v state.kept).rule_6 clusters_follow;
    rule_7 = λ m low. here (λ (x : ℕ). keeps_record_bit d w x ≡ true) new_7 m;
    rule_8 = λ m low. outside (keeps_8 (table_in files) (count_of w) m ≡ true) m;
    rule_9 = new_9;
  }

  pub index_leads : SameNames → LeadsTo (is_edited (record { number = n; file = Some s } ∷ [])) c v (content_with c bodies) g clusters (with_record v n s)
  index_leads index_listed = files_edited streams inside c g clusters v writes edits state puts (λ m low other. ap (λ (l : List Bool). bit l m) bits_now) touches (keeps index_listed)

  -- ---- as an edit of a plan

  bit_as : (x : ℕ) → x < clusters → x < v.clusters
  bit_as x low = subst (λ (y : ℕ). x < y) (clusters_are c g clusters v state) low

  marks_follow : FollowsOwners clusters (cluster_bits c v) (cluster_bits d w) v.files w.files
  marks_follow = record {
    cleared = λ x low less. (let sum = all_clusters x in absurd (omega (arith, sum, less)));
    set = λ x low some. (let sum = all_clusters x in let has : 0 < uses more x = omega (arith, sum, some) in (k.taken.clear x has, bit_now x ∙ k.marked x (bit_as x low) ∙ or_left (leb 1 (uses more x)) (bit (cluster_bits c v) x) (le-leb 1 (uses more x) has)));
    others = λ x low equal. (let sum = all_clusters x in bit_now x ∙ k.marked x (bit_as x low) ∙ ap (λ (t : Bool). t || bit (cluster_bits c v) x) (lt-leb 1 (uses more x) (omega (arith, sum, equal))));
  }

  index_kind : stream_kind own_key ≡ Index
  unfolding stream_kind
  index_kind = not_records (eqb n table_file || eqb n mirror_file)
    where
      not_records : (t : Bool) → cond (t && eqb index_allocation data_type && pointwise nat_eq names_index []) FileRec (cond (eqb index_allocation index_allocation) Index Plain) ≡ Index
      not_records true = refl
      not_records false = refl

  no_block : (kind : BlockKind) (m : ℕ) (b : Block) → block_at v.per [] kind m ≡ Some b → ⊥
  unfolding block_at
  no_block kind m b is = absurd cc

  -- each body is put into a block that one of the volumes owns
  is_owned : (p : NewBody) → FreshOr p.block → Owns v p.block ⊎ Owns w p.block
  is_owned p (inl owned) = inl (record { stream = owned.stream; number = owned.number; lies = owned.lies })
  is_owned p (inr (inl its)) = inl (record_owned c g clusters v n p.block state its)
  is_owned p (inr (inr fresh)) =
      inr
      (record {
        stream = own_key;
        number = fresh.number;
        lies = ap (λ (x : BlockKind). block_at v.per (runs_in (stream_at w own_key)) x fresh.number) index_kind ∙ ap (λ (o : Option Stream). block_at v.per (runs_in o) Index fresh.number) own_now ∙ fresh.lies;
      })

  all_owned : AllByRecursion (λ p. Owns v p.block ⊎ Owns w p.block) bodies
  all_owned = all_by (λ p. FreshOr p.block) (λ p. Owns v p.block ⊎ Owns w p.block) is_owned bodies k.each

  own_covered : (m : ℕ) (b : Block) → block_at v.per f.runs Index m ≡ Some b → 4096 * m < initialised → IsLive v b ⊎ IsPut bodies b
  own_covered m b at low = elim (cases_lt (4096 * m) e.initialised) [
    | inl was ↦
        (let there : block_at v.per e.runs Index m ≡ Some b = sym (place_kept v.per v.clusters e more real initialised per_8 old_fits k.spelled k.taken.spelled k.room k.sizes m was) ∙ at in
        let begins : 4096 * m < initialised_in (stream_at v own_key) = subst (λ (o : Option Stream). 4096 * m < initialised_in o) (sym own_was) (initialised_there (index_stream r) (4096 * m) was) in
        inl
        (record {
          owned = record { stream = own_key; number = m; lies = ap (λ (x : BlockKind). block_at v.per (runs_in (stream_at v own_key)) x m) index_kind ∙ ap (λ (l : List Run). block_at v.per l Index m) runs_were ∙ there };
          begins = subst (λ (x : BlockKind). 512 * (sectors x * m) < initialised_in (stream_at v own_key)) (sym index_kind) (omega (arith, begins));
        }))
    | inr past ↦ inr (k.covers m b at past low)
  ]

  covered : (b : Block) → IsLive w b → IsLive v b ⊎ IsPut bodies b
  covered b live =
      let t = live.owned.stream in
      let m = live.owned.number in
      elim (which t) [
        | inl same ↦
            (let lies_there : block_at v.per (runs_in (stream_at w own_key)) (stream_kind own_key) m ≡ Some b = subst (λ (x : StreamKey). block_at v.per (runs_in (stream_at w x)) (stream_kind x) m ≡ Some b) same live.owned.lies in
            let begins_there : 512 * (sectors (stream_kind own_key) * m) < initialised_in (stream_at w own_key) = subst (λ (x : StreamKey). 512 * (sectors (stream_kind x) * m) < initialised_in (stream_at w x)) same live.begins in
            let lies_in : block_at v.per f.runs Index m ≡ Some b = sym (ap₂ (λ (x : BlockKind) (o : Option Stream). block_at v.per (runs_in o) x m) index_kind own_now) ∙ lies_there in
            let begins_in : 512 * (sectors Index * m) < initialised = subst (λ (x : BlockKind). 512 * (sectors x * m) < initialised) index_kind (subst (λ (o : Option Stream). 512 * (sectors (stream_kind own_key) * m) < initialised_in o) own_now begins_there) in
            own_covered m b lies_in (omega (arith, begins_in)))
        | inr (inl none) ↦ absurd (no_block (stream_kind t) m b (sym (ap (λ (l : List Run). block_at v.per l (stream_kind t) m) none) ∙ live.owned.lies))
        | inr (inr stays) ↦
            inl
            (record {
              owned = record { stream = t; number = m; lies = ap (λ (l : List Run). block_at v.per l (stream_kind t) m) (sym stays.runs) ∙ live.owned.lies };
              begins = subst (λ (x : ℕ). 512 * (sectors (stream_kind t) * m) < x) stays.size live.begins;
            })
      ]

  -- a cluster that is owned was owned as this kind, or is a new one of the blocks
  owned_or_new : (other : BlockKind) (x : ℕ) → OwnsAs w other x → OwnsAs v other x ⊎ ((0 < uses more x) × (Index ≡ other))
  owned_or_new other x owns = elim (which owns.stream) [
    | inl same ↦
        (let has_now : 0 < uses f.runs x = subst (λ (o : Option Stream). 0 < uses (runs_in o) x) (ap (stream_at w) same ∙ own_now) owns.has in
        let is_kind : Index ≡ other = sym index_kind ∙ sym (ap stream_kind same) ∙ owns.is_kind in
        let sum = uses-grown e.runs more x in
        elim (cases_lt 0 (uses more x)) [
          | inl new ↦ inr (new, is_kind)
          | inr none ↦
              (let was : 0 < uses e.runs x = omega (arith, sum, none, has_now) in
              inl (record { stream = owns.stream; is_kind = owns.is_kind; has = subst (λ (l : List Run). 0 < uses l x) (sym (ap (λ (t : StreamKey). runs_in (stream_at v t)) same ∙ runs_were)) was }))
        ])
    | inr (inl none) ↦ (let never : uses (runs_in (stream_at w owns.stream)) x ≡ 0 = ap (λ (l : List Run). uses l x) none ∙ uses-none x in let has = owns.has in absurd (omega (arith, never, has)))
    | inr (inr stays) ↦ inl (record { stream = owns.stream; is_kind = owns.is_kind; has = subst (λ (l : List Run). 0 < uses l x) stays.runs owns.has })
  ]

  pub index_goes_on : SameNames → (first : Content) (start : Volume) (gave : ℕ → Option BlockKind) → MayGive first start Index more gave → GoesOn first start c g clusters v bodies (with_record v n s) gave (gives_runs Index more gave)
  index_goes_on index_listed first start gave may = record {
    whole = k.whole;
    stands = (index_leads index_listed).stands;
    marks = marks_follow;
    kept = given_before Index more gave may.same;
    takes = λ other x owns. elim (owned_or_new other x owns) [
      | inl was ↦ inl was
      | inr is ↦ inr (given_here Index more gave x is.0 ∙ ap (λ (y : BlockKind). Some y) is.1)
    ];
    clear = given_clear Index more gave (cluster_bits first start) may.taken may.before;
    touched = all_owned;
    covers = covered;
  }

  -- ---- the tree

  data_flags_now : data_flags s ≡ data_flags r
  unfolding data_flags
  data_flags_now = same_flags r p s f k.written reads k.values data_type [] (beside_data []) (λ e. omega (arith, e))

  hole_now : has_sparse_run s ≡ has_sparse_run r
  unfolding data_stream
  hole_now = ap has_hole (data_now [])

  why_now : why_not s ≡ why_not r
  unfolding why_not
  why_now =
      ap₂ (λ (a b : Bool). option_or (why_by a b (data_flags s)) (sparse_if (has_sparse_run s))) (types_now attribute_list (λ e. omega (arith, e)) (λ e. omega (arith, e))) (types_now reparse_point (λ e. omega (arith, e)) (λ e. omega (arith, e)))
      ∙ ap₂ (λ (x : ℕ) (t : Bool). option_or (why_by (has_type attribute_list r) (has_type reparse_point r) x) (sparse_if t)) data_flags_now hole_now

  one_node : node_with n s Directory None [] ≡ node_with n r Directory None []
  unfolding node_with node_of
  one_node =
      ap₂ (λ (q : ℕ) (y : Option Why). node_of n q y (has_type object_id s) (info_of s)) seq_now why_now
      ∙ ap₂ (λ (h : Bool) (i : StdInfo). node_of n r.head.seq (why_not r) h i) (types_now object_id (λ e. omega (arith, e)) (λ e. omega (arith, e))) (same_info r p s f k.written reads k.values)

  directory_node : (bytes : Option Stream → List ℕ) (u : Volume) (q : Record) → is_directory_record q ≡ true → bytes None ≡ [] → node_by bytes u n q ≡ node_with n q Directory None []
  unfolding node_by
  directory_node bytes u q is none = ap (λ (x : Kind). node_with n q x (data_shown x q) (bytes (data_shown x q))) (is_directory_node u n q is) ∙ ap (node_with n q Directory None) none

  node_now : node_at (bytes_or d w.per) w n ≡ node_at (bytes_or c v.per) v n
  unfolding node_at
  node_now =
      ap (some_node (bytes_or d w.per) w n) at_n
      ∙ ap₂ (λ (t : Bool) (a : Node). cond t None (Some a)) (ap (λ (l : List Link). (ltb n first_user_record) && eqb (length l) 0) links_now) (directory_node (bytes_or d w.per) w s (directory_now ∙ k.directory) refl ∙ one_node ∙ sym (directory_node (bytes_or c v.per) v r k.directory refl))
      ∙ sym (ap (some_node (bytes_or c v.per) v n) k.file)

  pub index_tree : SameNames → RoomDiffers (tree_of c v) (tree_of (content_with c bodies) (with_record v n s))
  unfolding tree_of tree_with volume_journal
  index_tree index_listed = record {
    nodes = λ m. this_or_other (λ (x : ℕ). node_by_number (tree_of d w).nodes x ≡ node_by_number (tree_of c v).nodes x) n m (tree_nodes d w n ∙ node_now ∙ sym (tree_nodes c v n)) (λ other. (index_leads index_listed).nodes m (others_not m other));
    links = links_kept_in v.files files n differs names;
    spare = spare_stay d v files n differs k.apart.table ∙ same_spares c d v agree.bits agree.free;
    count = differs.count;
    journal = ap some_journal journal_now;
  }
