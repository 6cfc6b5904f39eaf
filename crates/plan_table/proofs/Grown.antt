-- The file table of a volume grows: the state that it leads to.
use Rattle.std.proofs.Common.{◌≡◌, ◌≢◌, ◌⊎◌, ℕ, zero, suc, ◌+◌, ◌-◌, ◌*◌, ◌/◌, ◌<◌, ◌≤◌, Bool, true, false, not, ◌&&◌, ◌||◌, cond, eqb, nat_eq, leb, ltb, List, [], ◌∷◌, ◌++◌, length, replicate, get_or, Option, Some, None, Result, Ok, Err, refl, sym, ap, ap₂, subst, ◌∙◌, inl, inr, arith}
use Rattle.std.specs.Prelude.{All}
use Rattle.std.specs.Option.{option_or}
use Rattle.std.specs.List.{list_all, list_any, filter_map, flat_map, cons_option, range_with_len, AllByRecursion}
use Rattle.std.specs.Cmp.Lexicographic.{pointwise}
use Rattle.std.proofs.lemmas.Bool.{cases_Bool, cases_lt, cases_eq, and_parts, and_from, and_left, and_right, both_ways, or_left, or_right, or_from, or_parts, eqb-true, ne_eqb, eq-eqb, lt-ltb, le-leb, lt-leb}
use Rattle.std.proofs.lemmas.List.{append-nil, length-append, length-replicate, get_or_past, get_or_append_left}
use Rattle.std.proofs.lemmas.Grind.{flat_map-append}
use Rattle.disk_model.specs.declared.block.Block.{Block}
use Rattle.disk_model.specs.declared.block.Body.{Body}
use Rattle.disk_model.specs.declared.block.BlockKind.{BlockKind}
use Rattle.disk_model.specs.declared.block.BlockKind.TheVariants.{Plain, FileRec, Index}
use Rattle.disk_model.specs.Sectors.{sectors, same_block, same_kind}
use Rattle.disk_model.specs.Content.{Content, HasSizes, is_signed}
use Rattle.disk_model.specs.Writes.{Write}
use Rattle.record_model.specs.declared.runs.Run.{Run}
use Rattle.record_model.specs.declared.values.StdInfo.{StdInfo}
use Rattle.record_model.specs.Records.{Record, shaped_at, has_lawful_values}
use Rattle.host_base.specs.Answers.{◌>>=◌, needs}
use Rattle.record_model.specs.Pairs.{cluster_limit, HasSpelling}
use Rattle.record_model.specs.Constants.{attribute_list, data_type, index_allocation, bitmap_type, names_index, reparse_point, object_id}
use Rattle.host_base.specs.declared.file_ref.FileRef.{FileRef}
use Rattle.file_tree.specs.declared.link.Link.{Link}
use Rattle.file_tree.specs.declared.node.Kind.{Kind}
use Rattle.file_tree.specs.declared.node.Kind.TheVariants.{Directory, System}
use Rattle.file_tree.specs.declared.node.Why.{Why}
use Rattle.file_tree.specs.declared.node.Node.{Node}
use Rattle.file_tree.specs.Walks.{first_user_record}
use Rattle.bit_set.specs.Bits.{bit}
use Rattle.bit_set.specs.Words.{bits_of_bytes, byte_bit}
use Rattle.state_model.specs.declared.geometry.Geometry.{Geometry}
use Rattle.state_model.specs.declared.stream.Extents.{Extents}
use Rattle.state_model.specs.declared.stream.Stream.{Stream}
use Rattle.state_model.specs.declared.stream.Stream.TheVariants.{Held, Placed}
use Rattle.state_model.specs.Files.{file_at, reference, file_links, only_base, links_at, record_links, is_base_record, is_directory_record, has_type, info_of, why_by}
use Rattle.state_model.specs.Loads.{Slot, Free, Used, slot_of, slot_at, is_used, whole_record, boot_block, total_clusters, record_count, most_records, table_of, table_extents, table_slot, table_in, extents_or, data_stream, has_fitting_pairs, has_all_pairs, has_cut_index_block}
use Rattle.state_model.specs.Rules.{implies, at_file, is_directory_with, keeps_names, keeps_1, keeps_2, keeps_8}
use Rattle.state_model.specs.Streams.{attributes_of, real_size, stream_of, block_at, is_inside_block, has_cut_block}
use Rattle.state_model.specs.Trees.{is_nameless, is_system}
use Rattle.volume_model.specs.Volumes.{Volume, count_of, file_in, files_by_number, file_stream, bytes_or, size_or, is_in_use, record_bitmap, record_bits, cluster_bits, table_file, mirror_file, bitmap_file, upcase_file, upper_of}
use Rattle.volume_model.specs.Indexes.{void_block, index_place, index_links, index_stream, stream_blocks, links_below, lists_names, keeps_index}
use Rattle.volume_model.specs.Nodes.{valid_or, clusters_or, data_flags, has_sparse_run, sparse_if, why_not, kind_in, shows_data, data_shown, node_with, node_by, some_node, node_at, nodes_by, spare_at, spare_numbers, free_clusters}
use Rattle.volume_model.specs.Owners.{file_runs, volume_runs, uses, keeps_record_bit}
use Rattle.volume_model.specs.Sizes.{are_joined, lies_inside, has_sizes, fits_volume, keeps_stream, has_hole, is_torn_at, begun, has_torn, stream_has_torn, keeps_bitmaps, keeps_streams, keeps_sizes}
use Rattle.volume_state.specs.Journals.{entries_name, limits_name, entries_flags, file_or_none, journal_file, journal_of_streams, journal_of_file, journal_of, fault_of, some_journal}
use Rattle.volume_state.specs.Rules.{broken_1, broken_3, broken_9}
use Rattle.volume_state.specs.Trees.{Holds, tree_with, tree_of, volume_journal}
use Rattle.index_model.specs.Indexes.{Place}
use Rattle.stream_laws.specs.Leaving.{LiesFree}
use Rattle.stream_laws.specs.Owners.{holds_records, stream_kind, initialised_in, Owns, IsLive}
use Rattle.stream_laws.specs.Replacing.{FileEdit, OneFileDiffers, with_edits}
use Rattle.stream_laws.specs.Rewrites.{StandsAlone, TableGoesOn, RewritesRecords, IsBlank, is_edited, filled_up, with_table}
use Rattle.stream_laws.specs.Sharing.{StreamKey, stream_at, runs_in}
use Rattle.stream_laws.specs.Tables.{BeginsAtBoot, table_key}
use Rattle.stream_laws.proofs.Bitmapping.{record_bit, past_records}
use Rattle.stream_laws.proofs.Editing.{length-with_edits, other_file, edited_files}
use Rattle.stream_laws.proofs.Framing.{same_links}
use Rattle.stream_laws.proofs.Placing.{lies}
use Rattle.stream_laws.proofs.Replacing.{clusters_replaced}
use Rattle.stream_laws.proofs.Rewriting.{volume_parts, count_is, goes_on_whole, blank_free, blank_unsigned, none_behind}
use Rattle.stream_laws.proofs.Sharing.{same_key}
use Rattle.stream_laws.proofs.Tabling.{inside_list, no_list_stream, read_in_use, table_by_record}
use Rattle.plan_growth.specs.tree_laws.Contents.{SameIndexAt, SameUpper}
use Rattle.plan_growth.specs.tree_laws.Changed.{TouchesFiles, AgreesElsewhere, KeepsTouched}
use Rattle.plan_growth.specs.tree_laws.Growth.{GrowsTable, new_numbers}
use Rattle.plan_growth.specs.tree_laws.Keeping.{KeepsNames, KeepsDirectory}
use Rattle.plan_growth.specs.tree_laws.Leaves.{names_there}
use Rattle.plan_growth.specs.tree_laws.Owners.{TakesClusters}
use Rattle.plan_growth.specs.tree_laws.Parts.{journal_number}
use Rattle.plan_growth.specs.tree_laws.Planned.{IsInStream, IsInRecord, WritesWithin, SparesOthers, SparesLists}
use Rattle.plan_growth.specs.tree_laws.Steps.{ReplacesFiles}
use Rattle.plan_growth.proofs.tree_laws.Agreeing.{no_more_torn, kept_sizes, same_journal, same_upper}
use Rattle.plan_growth.proofs.tree_laws.Ascending.{all_by}
use Rattle.plan_growth.proofs.tree_laws.Changing.{all_keep, changed_holds, untouched_node, untouched_spare}
use Rattle.plan_growth.proofs.tree_laws.Growing.{grown_count, grown_tree}
use Rattle.plan_growth.proofs.tree_laws.Keeping.{rules_of, passes_below}
use Rattle.plan_growth.proofs.tree_laws.Naming.{this_or_other, names_everywhere, file_elsewhere, links_kept}
use Rattle.plan_growth.proofs.tree_laws.Owning.{takes_5, takes_6}
use Rattle.plan_growth.proofs.tree_laws.Parting.{cluster_bits_stay, upper_stays, number_stays}
use Rattle.plan_growth.proofs.tree_laws.Planning.{planned_record, planned_agrees, planned_shown, planned_upper, journal_agrees, same_index_at}
use Rattle.plan_growth.proofs.tree_laws.Ruling.{same_listed, same_name_in, same_count, keeps_both}
use Rattle.plan_growth.proofs.tree_laws.Sparing.{planned_lists}
use Rattle.plan_growth.proofs.tree_laws.Stepping.{step_loaded, step_holds, records_enough}
use Rattle.stream_runs.proofs.Merging.{follow-grown}
use Rattle.stream_runs.proofs.Places.{places-grown}
use Rattle.plan_growth.specs.plan_owners.States.{Stands, IsOwnRecord}
use Rattle.plan_growth.specs.plan_owners.Kinds.{OwnsAs}
use Rattle.plan_growth.proofs.plan_owners.Outside.{once}
use Rattle.plan_growth.proofs.plan_owners.Standing.{some_file, as_file, rule_4_at, begins}
use Rattle.plan_growth.proofs.plan_owners.Unnamed.{unnamed}
use Rattle.plan_bodies.specs.Bodies.{NewBody, whole_write, writes_in, content_with, body_in, body_or}
use Rattle.plan_bodies.proofs.Putting.{body_put}
use Rattle.plan_growth.specs.plan_model.Drafts.{FollowsOwners, GoesOn, IsPut, gives_runs}
use Rattle.plan_growth.specs.plan_model.Informed.{with_record}
use Rattle.plan_growth.proofs.plan_model.Drafting.{per_is}
use Rattle.plan_growth.proofs.plan_model.Informing.{slot_in_use, marked_in_use, implied}
use Rattle.plan_growth.proofs.plan_model.OneRecord.{streams_test, by_test, OwnRecord, slot_begins, slot_put, file_slot}
use Rattle.plan_growth.proofs.plan_model.Quiet.{record_owned, given_here, given_before, given_clear}
use Rattle.plan_growth.specs.Growing.{MayGive}
use Rattle.plan_growth.specs.Streams.{marks_streams}
use Rattle.plan_growth.proofs.Alike.{begun_in}
use Rattle.plan_growth.proofs.Growing.{total-grown, uses-grown}
use Rattle.plan_growth.proofs.Placed.{same_or_other}
use Rattle.plan_growth.proofs.Ruled.{sizes_lawful}
use Rattle.plan_growth.proofs.Runs.{grown_inside, grown_whole}
use Rattle.plan_growth.proofs.Sizing.{none_from}
use Rattle.plan_growth.proofs.Written.{Reads, all_read}
use Rattle.plan_table.specs.Growing.{new_clusters, longer_table, numbers_key, longer_volume, IsOfTable, GrowsVolumeTable, HasLongerTable, gives_table, TableIsGrown}
use Rattle.plan_table.proofs.Behind.{in_one, old_or_free}
use Rattle.plan_table.proofs.Bits.{IsWider, becomes_wider}
use Rattle.plan_table.proofs.Room.{count_as_sum, sum_of_none, sum_of_two, uses_sum}
use Rattle.plan_growth.proofs.tree_laws.Counting.{room_balance}
use Rattle.plan_table.proofs.Table.{table_no_list, table_own, table_records, table_each, table_fits, table_initialised, table_whole, numbers_fit, numbers_whole}
use Rattle.plan_table.proofs.Remade.{IsAnother, IsRemade, table_remade}

-- ---- tests

none_of_two : (t x : Bool) → x ≡ false → (t && x) ≡ false
none_of_two true x is = is
none_of_two false x is = refl

negated : (t : Bool) → not t ≡ true → t ≡ false
negated true none = absurd cc
negated false none = refl

as_not : (t : Bool) → t ≡ false → not t ≡ true
as_not t is = ap not is

-- what no place of a list has
none_at : (p : ℕ → Bool) (a n i : ℕ) → list_any p (range_with_len a n) ≡ false → a ≤ i → i < a + n → p i ≡ false
none_at p a zero i none low high = absurd (omega (arith, low, high))
none_at p a (suc n) i none low high =
    let parts = or_parts (p a) (list_any p (range_with_len (a + 1) n)) none in
    elim (cases_lt a i) [
      | inl behind ↦ none_at p (a + 1) n i parts.1 (omega (arith, behind)) (omega (arith, high))
      | inr here ↦ (let same : i ≡ a = omega (arith, low, here) in ap p same ∙ parts.0)
    ]

same_given : {X : Type 0} (f h : ℕ → Option X) (a n : ℕ) → ((m : ℕ) → a ≤ m → m < a + n → h m ≡ f m) → filter_map h (range_with_len a n) ≡ filter_map f (range_with_len a n)
same_given f h a zero each = refl
same_given {X} f h a (suc n) each =
    ap (λ (o : Option X). cons_option o (filter_map h (range_with_len (a + 1) n))) (each a (omega arith) (omega arith))
    ∙ ap (cons_option (f a)) (same_given f h (a + 1) n (λ m low high. each m (omega arith) (omega arith)))

-- ---- which streams are put to

-- the bits of clusters, the mirror, and the bitmap of numbers
table_streams : StreamKey → Bool
table_streams t = marks_streams t || (eqb t.file table_file && eqb t.kind bitmap_type)

unmarked : (m kind : ℕ) (name : List ℕ) → kind ≢ data_type → kind ≢ bitmap_type → table_streams (record { file = m; kind = kind; name = name }) ≡ false
unfolding table_streams
unmarked m kind name no_data no_bits =
    or_from _ _
    (and_left ((eqb m bitmap_file || eqb m mirror_file) && eqb kind data_type) (pointwise nat_eq name []) (none_of_two (eqb m bitmap_file || eqb m mirror_file) (eqb kind data_type) (ne_eqb kind data_type no_data)))
    (none_of_two (eqb m table_file) (eqb kind bitmap_type) (ne_eqb kind bitmap_type no_bits))

unmarked_data : (m : ℕ) → m ≢ bitmap_file → m ≢ mirror_file → table_streams (record { file = m; kind = data_type; name = [] }) ≡ false
unfolding table_streams
unmarked_data m one two = or_from _ _ (ap₂ (λ (s t : Bool). (s || t) && eqb data_type data_type && pointwise nat_eq [] []) (ne_eqb m bitmap_file one) (ne_eqb m mirror_file two)) (none_of_two (eqb m table_file) (eqb data_type bitmap_type) refl)

unmarked_named : (m u : ℕ) (name : List ℕ) → table_streams (record { file = m; kind = data_type; name = u ∷ name }) ≡ false
unfolding table_streams
unmarked_named m u name = or_from _ _ (none_of_two ((eqb m bitmap_file || eqb m mirror_file) && eqb data_type data_type) false refl) (none_of_two (eqb m table_file) (eqb data_type bitmap_type) refl)

no_table_marks : table_streams table_key ≡ false
unfolding table_streams
no_table_marks = refl

no_upcase_marks : table_streams (record { file = upcase_file; kind = data_type; name = [] }) ≡ false
unfolding table_streams
no_upcase_marks = refl

numbers_marked : table_streams numbers_key ≡ true
unfolding table_streams
numbers_marked = refl

marks_in : (t : StreamKey) → marks_streams t ≡ true → table_streams t ≡ true
unfolding table_streams
marks_in t is = or_left _ _ is

-- files of the volume itself show no data
no_system_shown : (v : Volume) (m : ℕ) (r : Record) → m < first_user_record → shows_data (kind_in v m r) ≡ true → ⊥
unfolding kind_in is_system
no_system_shown v m r below shown = elim (cases_Bool (is_directory_record r)) [
  | inl directory ↦ (let none : false ≡ true = sym (rw directory refl) ∙ shown in absurd cc)
  | inr other ↦ (let none : false ≡ true = sym (rw (other, lt-ltb m first_user_record below) refl) ∙ shown in absurd cc)
]

not_shown : (v : Volume) (m : ℕ) (q : Record) → shows_data (kind_in v m q) ≡ true → table_streams (record { file = m; kind = data_type; name = [] }) ≡ false
not_shown v m q shown = unmarked_data m (λ same. no_system_shown v m q (omega (arith, same)) shown) (λ same. no_system_shown v m q (omega (arith, same)) shown)

-- ---- none of the blocks is an index block

void_apart : (b : Block) → Index ≢ b.kind → same_block void_block b ≡ false
void_apart b other = and_right (eqb void_block.first b.first) (same_kind Index b.kind) (by_kind b.kind other)
  where
    by_kind : (k : BlockKind) → Index ≢ k → same_kind Index k ≡ false
    by_kind Plain differ = refl
    by_kind FileRec differ = refl
    by_kind Index differ = absurd (differ refl)

plain_or_record : (x y : Bool) → y ≡ false → cond x FileRec (cond y Index Plain) ≡ Index → ⊥
plain_or_record true y none is = absurd cc
plain_or_record false true none is = absurd cc
plain_or_record false false none is = absurd cc

no_allocation : (t : StreamKey) → marks_streams t ≡ true → stream_kind t ≡ Index → ⊥
unfolding stream_kind
no_allocation t mark =
    let own_file : Bool = eqb t.file bitmap_file || eqb t.file mirror_file in
    let kind_is : eqb t.kind data_type ≡ true = (and_parts own_file (eqb t.kind data_type) (and_parts (own_file && eqb t.kind data_type) (pointwise nat_eq t.name []) mark).0).1 in
    plain_or_record (holds_records t) (eqb t.kind index_allocation) (ne_eqb t.kind index_allocation (λ e. (let data_is : t.kind ≡ data_type = eqb-true t.kind data_type kind_is in omega (arith, e, data_is))))

-- at eight sectors a cluster none is cut
inside_none : (kind : BlockKind) (count k : ℕ) → is_inside_block kind count (8 * k) ≡ false
inside_none Plain count k = ap (λ (t : Bool). not t && ltb (8 * k / 1) count) (eq-eqb _ 0 (omega arith))
inside_none FileRec count k = ap (λ (t : Bool). not t && ltb (8 * k / 2) count) (eq-eqb _ 0 (omega arith))
inside_none Index count k = ap (λ (t : Bool). not t && ltb (8 * k / 8) count) (eq-eqb _ 0 (omega arith))

uncut_runs : (per : ℕ) (kind : BlockKind) (count : ℕ) (runs : List Run) → per ≡ 8 → has_cut_block per kind count runs ≡ false
unfolding has_cut_block
uncut_runs per kind count [] eight = refl
uncut_runs per kind count (x ∷ runs) eight =
    or_from _ _
    (or_from _ _
    (ap (is_inside_block kind count) (ap (λ (p : ℕ). x.vcn * p) eight ∙ omega arith) ∙ inside_none kind count x.vcn)
    (ap (is_inside_block kind count) (ap (λ (p : ℕ). (x.vcn + x.len) * p) eight ∙ omega arith) ∙ inside_none kind count (x.vcn + x.len)))
    (uncut_runs per kind count runs eight)

uncut_stream : (per : ℕ) (o : Option Stream) → per ≡ 8 → has_cut_index_block per o ≡ false
uncut_stream per None eight = refl
uncut_stream per (Some (Held value)) eight = refl
uncut_stream per (Some (Placed e)) eight = uncut_runs per Index (e.real / 4096) e.runs eight

-- a record below a count that the clusters have room for lies in one of them
record_below : (per total real m : ℕ) → per ≡ 8 → real ≤ total * (512 * per) → m < real / 1024 → 2 * m / per < total
record_below per total real m eight = subst (λ (p : ℕ). real ≤ total * (512 * p) → m < real / 1024 → 2 * m / p < total) (sym eight) (λ room low. omega (arith, room, low))

-- 256 records more have room in 64 clusters more
longer_room : (per total real : ℕ) → per ≡ 8 → real ≤ total * (512 * per) → real + 262144 ≤ (total + 64) * (512 * per)
longer_room per total real eight = subst (λ (p : ℕ). real ≤ total * (512 * p) → real + 262144 ≤ (total + 64) * (512 * p)) (sym eight) (λ room. omega (arith, room))

-- ---- the files of a longer table

no_runs : (n : ℕ) → flat_map file_runs (replicate n None) ≡ []
no_runs zero = refl
no_runs (suc n) = no_runs n

filled_at : (count : ℕ) (files : List (Option Record)) (m : ℕ) → table_in (filled_up count files) m ≡ table_in files m
filled_at count files m = elim (cases_lt m (length files)) [
  | inl within ↦ get_or_append_left files (replicate (count - length files) None) None m within
  | inr past ↦ none_behind count files m past ∙ sym (get_or_past files m None past)
]

filled_runs : (count : ℕ) (files : List (Option Record)) → volume_runs (filled_up count files) ≡ volume_runs files
unfolding volume_runs
filled_runs count files =
    flat_map-append file_runs files (replicate (count - length files) None)
    ∙ ap (λ (l : List Run). flat_map file_runs files ++ l) (no_runs (count - length files))
    ∙ append-nil (flat_map file_runs files)

-- ---- the node of record 0

node_of : ℕ → ℕ → Kind → Option Why → Bool → Option Stream → List ℕ → StdInfo → Node
node_of n seq kind why held shown bytes info = record {
  number = n;
  seq = seq;
  kind = kind;
  why = why;
  held = held;
  size = size_or shown;
  valid = valid_or shown;
  clusters = clusters_or shown;
  bytes = bytes;
  flags = info.flags;
  created = info.created;
  modified = info.modified;
  changed = info.changed;
  read_at = info.read_at;
}

nothing_shown : (t : Bool) (q : Record) → data_shown (cond t Directory System) q ≡ None
nothing_shown true q = refl
nothing_shown false q = refl

table_kind : (v : Volume) (q : Record) → kind_in v table_file q ≡ cond (is_directory_record q) Directory System
unfolding kind_in is_system
table_kind v q = refl

-- the node of $MFT by its record alone: it shows no data
table_node : (c : Content) (v : Volume) (q : Record) → some_node (bytes_or c v.per) v table_file (Some q) ≡ cond (eqb (length (record_links table_file q)) 0) None (Some (node_of table_file q.head.seq (cond (is_directory_record q) Directory System) (why_not q) (has_type object_id q) None [] (info_of q)))
unfolding node_by node_with node_of
table_node c v q =
    let k : Kind = cond (is_directory_record q) Directory System in
    ap (λ (x : Kind). cond (is_nameless table_file q) None (Some (node_with table_file q x (data_shown x q) (bytes_or c v.per (data_shown x q))))) (table_kind v q)
    ∙ ap (λ (o : Option Stream). cond (is_nameless table_file q) None (Some (node_with table_file q k o (bytes_or c v.per o)))) (nothing_shown (is_directory_record q) q)

-- ---- small facts

names_named : names_index ≢ []
names_named same = (let none : length names_index ≡ 0 = ap length same in absurd (omega (arith, none)))

same_some : (a b : Block) → Some a ≡ Some b → a ≡ b
same_some a b is = cc

not_some : (n : ℕ) → leb 1 n ≡ false → n ≡ 0
not_some n is = elim (cases_lt 0 n) [
  | inl some ↦ absurd (both_ways (leb 1 n) is (le-leb 1 n some))
  | inr none ↦ omega (arith, none)
]

-- ---- the pairs of a record in use

slot_open : (c : Content) (v : Volume) (n : ℕ) (r : Record) → table_slot c v.per v.table n ≡ Used r → cond (leb v.table.initialised (1024 * n)) Free (slot_at c (block_at v.per v.table.runs FileRec n)) ≡ Used r
unfolding table_slot
slot_open c v n r is = is

whole_pairs : (o : Result Record ℕ) (r : Record) → (o >>= λ x. needs {F = ℕ} (has_all_pairs x) 7 >>= λ y. needs {F = ℕ} (has_lawful_values x) 8 >>= λ z. Ok x) ≡ Ok r → has_all_pairs r ≡ true
whole_pairs (Err rule) r is = absurd cc
whole_pairs (Ok x) r is = chosen (has_all_pairs x) (has_lawful_values x) refl is
  where
    chosen : (s t : Bool) → has_all_pairs x ≡ s → (needs {F = ℕ} s 7 >>= λ y. needs {F = ℕ} t 8 >>= λ z. Ok x) ≡ Ok r → has_all_pairs r ≡ true
    chosen true true all same = (let e : x ≡ r = cc in ap has_all_pairs (sym e) ∙ all)
    chosen true false all same = absurd cc
    chosen false t all same = absurd cc

used_pairs : (initialised at : ℕ) (c : Content) (o : Option Block) (r : Record) → cond (leb initialised at) Free (slot_at c o) ≡ Used r → list_all has_fitting_pairs r.attrs ≡ true
unfolding slot_of whole_record has_all_pairs
used_pairs initialised at c o r is = by_slot (leb initialised at) o is
  where
    by_slot : (t : Bool) (b : Option Block) → cond t Free (slot_at c b) ≡ Used r → list_all has_fitting_pairs r.attrs ≡ true
    by_slot true b same = absurd cc
    by_slot false None same = absurd cc
    by_slot false (Some b) same = whole_pairs (shaped_at (c b).bytes) r (read_in_use (c b).torn (is_used (c b).bytes) (whole_record (c b).bytes) r same).2

slot_pairs : (c : Content) (v : Volume) (n : ℕ) (r : Record) → table_slot c v.per v.table n ≡ Used r → list_all has_fitting_pairs r.attrs ≡ true
slot_pairs c v n r is = used_pairs v.table.initialised (1024 * n) c (block_at v.per v.table.runs FileRec n) r (slot_open c v n r is)

module _ (c : Content) (g : Geometry) (clusters : ℕ) (v : Volume) (r : Record) (more : List Run) (old : Stream) (bits_more : List Run) (new : Stream) (s : Record) (bodies : List NewBody) (sized : HasSizes c) (eight : g.per_cluster ≡ 8) (state : Stands c g clusters v) (k : GrowsVolumeTable c v r more old bits_more new s bodies) where
  abbrev d : Content
  d = content_with c bodies

  abbrev f : Extents
  f = longer_table v.per more v.table

  abbrev writes : List Write
  writes = writes_in bodies

  abbrev edits : List FileEdit
  edits = record { number = table_file; file = Some s } ∷ []

  abbrev files : List (Option Record)
  files = with_edits edits v.files

  -- with the old table, and with the longer one
  abbrev w : Volume
  w = with_record v table_file s

  abbrev u : Volume
  u = longer_volume v more s

  abbrev touched : ℕ → Bool
  touched = is_edited edits

  abbrev inside : ℕ → Bool
  inside m = true

  -- record 0, and those past the old count
  abbrev records : ℕ → Bool
  records m = eqb m table_file || leb (record_count v.table) m

  per_8 : v.per ≡ 8
  per_8 = per_is c g clusters v eight state

  start : BeginsAtBoot c g clusters v
  start = begins c g clusters v state

  counted : count_of v ≡ record_count v.table
  counted = count_is c g clusters v state.loaded

  -- ---- record 0 as it was

  own : OwnRecord c v table_file r
  own = table_own c g clusters v r state k.file

  records_were : stream_of data_type [] r.attrs ≡ Some (Placed v.table)
  records_were = table_records c g clusters v r state k.file

  old_each : list_all (keeps_stream v.per v.clusters r.attrs) r.attrs ≡ true
  old_each = table_each c g clusters v r state k.file

  data_rule : fits_volume v.per v.clusters (Some (Placed v.table)) ≡ true
  data_rule = table_fits c g clusters v r state k.file

  bitmap_rule : (are_joined (attributes_of bitmap_type [] r.attrs) ≡ true) × (fits_volume v.per v.clusters (Some old) ≡ true)
  bitmap_rule = numbers_fit c g clusters v r state k.file old k.bitmap

  sizes_old : (v.table.initialised ≤ v.table.real) × (v.table.real ≤ total_clusters v.table.runs * (512 * v.per))
  sizes_old = sizes_lawful v.per v.clusters v.table data_rule

  initialised_old : v.table.initialised ≡ v.table.real
  initialised_old = table_initialised c g clusters v r state k.file

  whole_old : (has_hole (Some (Placed v.table)) ≡ false) × (has_hole (Some old) ≡ false)
  whole_old = (table_whole c g clusters v r state k.file, numbers_whole c g clusters v r state k.file old k.bitmap)

  -- ---- the longer table

  room_more : total_clusters v.table.runs + total_clusters more ≤ cluster_limit
  room_more = (let size = k.size in let room = k.room in omega (arith, size, room))

  total_now : total_clusters f.runs ≡ total_clusters v.table.runs + 64
  total_now = total-grown v.table.runs more ∙ ap (λ (n : ℕ). total_clusters v.table.runs + n) k.size

  spelled_now : HasSpelling 0 f.runs
  spelled_now = follow-grown v.table.runs more k.spelled k.taken.spelled room_more

  count_now : record_count f ≡ record_count v.table + 256
  count_now = omega arith

  new_fits : fits_volume v.per v.clusters (Some (Placed f)) ≡ true
  new_fits =
      let low = sizes_old.0 in
      let high : f.real ≤ f.allocated = subst (λ (x : ℕ). v.table.real + 262144 ≤ x * (512 * v.per)) (sym total_now) (longer_room v.per (total_clusters v.table.runs) v.table.real per_8 sizes_old.1) in
      and_from _ _ (grown_inside v.clusters v.table.runs more (and_parts (list_all (lies_inside v.clusters) v.table.runs) (has_sizes v.per v.table) data_rule).0 k.taken.inside)
      (and_from _ _ (and_from _ _ (le-leb f.initialised f.real (omega (arith, low))) (le-leb f.real f.allocated high)) (eq-eqb f.allocated f.allocated refl))

  new_whole : has_hole (Some (Placed f)) ≡ false
  new_whole = grown_whole v.table.runs more whole_old.0 k.taken.whole

  places : (m : ℕ) → m < record_count v.table → block_at v.per f.runs FileRec m ≡ block_at v.per v.table.runs FileRec m
  places m low =
      places-grown v.per v.table.runs more FileRec m k.spelled k.taken.spelled room_more (in_one c g clusters v more eight state k.taken FileRec m) (record_below v.per (total_clusters v.table.runs) v.table.real m per_8 sizes_old.1 low)

  goes_on : TableGoesOn v.per v.table f
  goes_on = goes_on_whole v.per v.table f initialised_old (ap (λ (x : ℕ). x + 1024 * 256) initialised_old) (omega arith) places (uncut_runs v.per FileRec (record_count f) f.runs per_8)

  wider : IsWider v bits_more old new
  wider = becomes_wider c g clusters v bits_more eight state k.bits_taken old new k.becomes bitmap_rule.1

  -- ---- record 0 as it is

  all_pairs : All Reads r.attrs
  unfolding has_all_pairs
  all_pairs = all_read r.attrs (slot_pairs c v table_file r own.slot)

  now : IsRemade v.per v.clusters v.table f old new r s
  now = table_remade v.per v.clusters bits_more v.table f old new r s k.becomes k.bits_taken.spelled spelled_now records_were k.bitmap bitmap_rule.0 all_pairs old_each new_fits wider.fits k.written

  below : table_file < count_of v
  below = inside_list v.files table_file r (some_file v table_file r k.file)

  base : is_base_record s ≡ true
  base = now.base ∙ own.base

  no_list_now : has_type attribute_list s ≡ false
  no_list_now = now.types attribute_list ∙ table_no_list c g clusters v r state k.file

  begun_0 : 1024 * table_file < v.table.initialised
  begun_0 = slot_begins c v table_file r own.slot

  slot : table_slot d v.per f table_file ≡ Used s
  slot =
      slot_put c (with_table v f v.files) table_file s bodies k.anew.block k.anew.bytes sized k.whole (let some = begun_0 in omega (arith, some)) (places table_file (let some = below in omega (arith, some, counted)) ∙ k.anew.place) k.anew.put k.anew.reads

  boot_is : k.anew.block ≡ boot_block g 0
  boot_is = same_some k.anew.block (boot_block g 0) (sym k.anew.place ∙ start.first)

  boot_slot : slot_of (d (boot_block g 0)) ≡ Used s
  boot_slot = ap (λ (b : Block). slot_of (d b)) (sym boot_is) ∙ ap slot_of (body_put c bodies k.anew.block sized k.whole ∙ ap (body_or (c k.anew.block)) k.anew.put) ∙ k.anew.reads

  table_now : table_of d g ≡ Ok f
  unfolding table_extents data_stream
  table_now =
      let is : table_extents s ≡ f = ap extents_or now.records in
      table_by_record d g s boot_slot no_list_now (subst (λ (e : Extents). record_count e ≤ most_records) (sym is) (let few = k.few in omega (arith, few, count_now))) ∙ ap (λ (e : Extents). Ok e) is

  -- ---- which files are touched

  at_own : touched table_file ≡ true
  at_own = refl

  others_not : (m : ℕ) → m ≢ table_file → touched m ≡ false
  others_not m other = ap (λ (t : Bool). t || false) (ne_eqb table_file m (λ same. other (sym same)))

  not_other : (m : ℕ) → touched m ≡ false → m ≢ table_file
  not_other m is same = both_ways (touched m) is (ap touched same ∙ at_own)

  here : (P : ℕ → Type 0) → P table_file → (m : ℕ) → touched m ≡ true → P m
  here P holds m is = elim (cases_eq m table_file) [
    | inl same ↦ subst P (sym same) holds
    | inr other ↦ absurd (both_ways (touched m) (others_not m other) is)
  ]

  differs : OneFileDiffers table_file v.files files
  differs = record {
    count = length-with_edits v.files edits;
    others = λ m other. other_file v.files edits m ((λ same. other (sym same)), tt);
  }

  pub at_0 : file_in w table_file ≡ Some s
  unfolding file_at
  at_0 = as_file (get_or (with_edits edits v.files) table_file None) s (edited_files v.files edits (below, tt, tt)).0 base

  names : KeepsNames table_file (table_in v.files) (table_in files)
  unfolding links_at
  names = ap (file_links table_file) at_0 ∙ now.links table_file ∙ sym (ap (file_links table_file) k.file)

  all_named : (m : ℕ) → links_at (table_in files) m ≡ links_at (table_in v.files) m
  all_named = names_everywhere (table_in v.files) (table_in files) table_file differs.others names

  directories : (m : ℕ) → KeepsDirectory m (table_in v.files) (table_in files)
  directories m seq =
      let before = table_in v.files in
      let after = table_in files in
      this_or_other (λ (x : ℕ). is_directory_with seq (file_at after x) ≡ is_directory_with seq (file_at before x)) table_file m (keeps_both before after table_file r s k.file at_0 now.seq now.directory seq)
      (λ other. ap (is_directory_with seq) (file_elsewhere before after table_file m differs.others other))

  touches : TouchesFiles touched inside v.files files
  touches = record {
    count = differs.count;
    others = λ m is. differs.others m (not_other m is);
    places = all_keep (table_in v.files) (table_in files) all_named directories;
    within = λ m is. refl;
  }

  -- ---- the files of the longer volume

  file_same : (m : ℕ) → file_in u m ≡ file_in w m
  unfolding file_at
  file_same m = ap only_base (filled_at (record_count f) files m)

  -- ---- the writes

  is_numbers : stream_at v numbers_key ≡ Some old
  is_numbers = ap (file_stream bitmap_type []) k.file ∙ k.bitmap

  as_write : (p : NewBody) → IsOfTable v more new p.block → IsInStream table_streams v (whole_write p) ⊎ IsInRecord records v (whole_write p) ⊎ LiesFree v (whole_write p).block
  as_write p (inl owned) = inl (record { stream = owned.stream; chosen = marks_in owned.stream owned.chosen; kind = stream_kind owned.stream; number = owned.number; lies = owned.lies })
  as_write p (inr (inl its)) = inr (inl (record { number = table_file; chosen = or_left (eqb table_file table_file) (leb (record_count v.table) table_file) refl; lies = its }))
  as_write p (inr (inr (inl fresh))) = elim (old_or_free c g clusters v more eight state k.taken v.table.runs FileRec fresh.0 p.block k.spelled room_more fresh.3) [
    | inl there ↦ inr (inl (record { number = fresh.0; chosen = or_right (eqb fresh.0 table_file) (leb (record_count v.table) fresh.0) (le-leb (record_count v.table) fresh.0 fresh.1); lies = there }))
    | inr free ↦ inr (inr free)
  ]
  as_write p (inr (inr (inr sector))) = elim (wider.sectors sector.0 p.block sector.1) [
    | inl there ↦ inl (record { stream = numbers_key; chosen = numbers_marked; kind = Plain; number = sector.0; lies = ap (λ (o : Option Stream). block_at v.per (runs_in o) Plain sector.0) is_numbers ∙ there })
    | inr free ↦ inr (inr free)
  ]

  each_write : (others : List NewBody) → AllByRecursion (λ p. IsOfTable v more new p.block) others → AllByRecursion (λ x. IsInStream table_streams v x ⊎ IsInRecord records v x ⊎ LiesFree v x.block) (writes_in others)
  each_write [] all = tt
  each_write (p ∷ others) all = (as_write p all.0, each_write others all.1)

  not_index : (p : NewBody) → IsOfTable v more new p.block → Index ≢ p.block.kind
  not_index p (inl owned) same =
      let its : stream_kind owned.stream ≡ p.block.kind = (lies v.per (runs_in (stream_at v owned.stream)) (stream_kind owned.stream) owned.number p.block owned.lies).kind_is in
      no_allocation owned.stream owned.chosen (its ∙ sym same)
  not_index p (inr (inl its)) same = let kind_is : FileRec ≡ p.block.kind = (lies v.per v.table.runs FileRec table_file p.block its).kind_is in absurd cc
  not_index p (inr (inr (inl fresh))) same = let kind_is : FileRec ≡ p.block.kind = (lies v.per f.runs FileRec fresh.0 p.block fresh.3).kind_is in absurd cc
  not_index p (inr (inr (inr sector))) same = let kind_is : Plain ≡ p.block.kind = (lies v.per (runs_in (Some new)) Plain sector.0 p.block sector.1).kind_is in absurd cc

  no_void : (others : List NewBody) → AllByRecursion (λ p. IsOfTable v more new p.block) others → AllByRecursion (λ (x : Write). same_block void_block x.block ≡ false) (writes_in others)
  no_void [] all = tt
  no_void (p ∷ others) all = (void_apart p.block (not_index p all.0), no_void others all.1)

  spares_lists : SparesLists table_streams
  spares_lists n name = unmarked n attribute_list name (λ e. omega (arith, e)) (λ e. omega (arith, e))

  not_records : (m : ℕ) → m < count_of v → m ≢ table_file → records m ≡ false
  not_records m low other = or_from _ _ (ne_eqb m table_file other) (lt-leb (record_count v.table) m (omega (arith, low, counted)))

  spares : SparesOthers touched table_streams records c v writes
  spares = record {
    sized = sized;
    void = no_void bodies k.each;
    upcase = no_upcase_marks;
    free = λ m low other clear. not_records m low (not_other m other);
    indexes = λ m q other is directory. unmarked m index_allocation names_index (λ e. omega (arith, e)) (λ e. omega (arith, e));
    shown = λ m q other is shown. not_shown v m q shown;
  }

  within : WritesWithin table_streams records c g clusters v writes
  within = record { begins = start; some = state.some; once = once c g clusters v state; no_table = no_table_marks; each = each_write bodies k.each }

  marked_0 : bit (record_bits c v) table_file ≡ true
  marked_0 = marked_in_use c v table_file (rules_of c v state.kept).rule_7 below (slot_in_use c v table_file r own.slot)

  -- a directory's index is as it was, also $MFT's
  all_spared : SparesOthers (λ m. false) table_streams records c v writes
  all_spared = record {
    sized = sized;
    void = no_void bodies k.each;
    upcase = no_upcase_marks;
    free = λ m low other clear. not_records m low (λ same. both_ways (bit (record_bits c v) m) clear (ap (bit (record_bits c v)) same ∙ marked_0));
    indexes = λ m q other is directory. unmarked m index_allocation names_index (λ e. omega (arith, e)) (λ e. omega (arith, e));
    shown = λ m q other is shown. not_shown v m q shown;
  }

  -- ---- the bits of numbers

  bitmap_now : record_bitmap w ≡ Some new
  bitmap_now = ap (file_stream bitmap_type []) at_0 ∙ now.bitmap

  bitmap_longer : record_bitmap u ≡ record_bitmap w
  bitmap_longer = ap (file_stream bitmap_type []) (file_same table_file)

  count_w : count_of w ≡ count_of v
  count_w = differs.count

  count_u : count_of u ≡ record_count f
  count_u =
      length-append files (replicate (record_count f - length files) None)
      ∙ (let size = length-replicate {A = Option Record} (record_count f - length files) None in let same = count_w in omega (arith, size, same, counted, count_now))

  bits_now : (m : ℕ) → m < count_of v → bit (record_bits d w) m ≡ bit (record_bits c v) m
  bits_now m low =
      record_bit d w m (let same = count_w in omega (arith, low, same)) ∙ ap (λ (o : Option Stream). byte_bit (bytes_or d v.per o) m) bitmap_now ∙ k.numbers m (omega (arith, low, counted))

  bits_clear : (m : ℕ) → count_of v ≤ m → m < record_count f → bit (record_bits d u) m ≡ false
  bits_clear m past low =
      record_bit d u m (let size = count_u in omega (arith, low, size))
      ∙ ap (λ (o : Option Stream). byte_bit (bytes_or d v.per o) m) (bitmap_longer ∙ bitmap_now)
      ∙ k.numbers m (omega (arith, low, count_now))
      ∙ past_records c v m past

  agrees : AgreesElsewhere touched c d v w
  agrees = planned_agrees touched table_streams records c g clusters v w writes within spares (λ m low other. bits_now m low)

  -- ---- the parts of the volume

  upper_now : upper_of d w ≡ upper_of c v
  upper_now = upper_stays d v files table_file differs (λ same. omega (arith, same)) ∙ same_upper c d v (planned_upper touched table_streams records c g clusters v writes within spares)

  marks_now : cluster_bits d w ≡ cluster_bits d v
  marks_now = cluster_bits_stay d v files table_file differs (λ same. omega (arith, same))

  flags_same : entries_flags s ≡ entries_flags r
  unfolding entries_flags
  flags_same = now.flags entries_name

  named_other : (x : ℕ) (name : List ℕ) → IsAnother data_type (x ∷ name)
  named_other x name = (inr (λ same. absurd cc), inr (λ same. absurd cc))

  own_journal : journal_of_file d v.per (Some s) ≡ journal_of_file d v.per (Some r)
  unfolding limits_name entries_name
  own_journal =
      ap₂ (λ (x : ℕ) (o : Option Stream). journal_of_streams d v.per x o (stream_of data_type entries_name s.attrs)) flags_same (now.others data_type limits_name (named_other _ _))
      ∙ ap (journal_of_streams d v.per (entries_flags r) (stream_of data_type limits_name r.attrs)) (now.others data_type entries_name (named_other _ _))

  journal_with : (o : Option ℕ) → journal_of_file d w.per (file_or_none w o) ≡ journal_of_file d v.per (file_or_none v o)
  journal_with None = refl
  journal_with (Some m) =
      this_or_other (λ (x : ℕ). journal_of_file d v.per (file_in w x) ≡ journal_of_file d v.per (file_in v x)) table_file m
      (ap (journal_of_file d v.per) at_0 ∙ own_journal ∙ sym (ap (journal_of_file d v.per) k.file))
      (λ other. ap (journal_of_file d v.per) (file_elsewhere (table_in v.files) (table_in files) table_file m differs.others other))

  entries_apart : (m : ℕ) → table_streams (record { file = m; kind = data_type; name = entries_name }) ≡ false
  unfolding entries_name
  entries_apart m = unmarked_named m 0x24 (0x4A ∷ [])

  journal_now : journal_of d (upper_of d w) w ≡ journal_of c (upper_of c v) v
  unfolding journal_of journal_file
  journal_now =
      ap (λ (l : List ℕ). journal_of d l w) upper_now
      ∙ ap (λ (o : Option ℕ). journal_of_file d w.per (file_or_none w o)) (number_stays v files (upper_of c v) table_file differs names)
      ∙ journal_with (journal_number (upper_of c v) v)
      ∙ same_journal c d v (upper_of c v) (journal_agrees table_streams records c g clusters v writes within (λ m is. entries_apart m))

  index_now : is_directory_record r ≡ true → index_links d v.per (upper_of c v) s ≡ index_links c v.per (upper_of c v) r
  unfolding index_links index_place index_stream
  index_now directory =
      let place : List Block → Place = λ l. record { blocks = l; step = 8 / v.per } in
      ap₂ (λ (l : List Block) (x : Option (List ℕ)). links_below d (place l) (upper_of c v) x) (ap (stream_blocks v.per) (now.others index_allocation names_index (inl (λ e. omega (arith, e)), inl (λ e. omega (arith, e))))) now.root
      ∙ same_links c d v.per (upper_of c v) r (same_index_at (λ m. false) table_streams records c g clusters v writes within all_spared table_file refl r k.file directory)

  -- ---- the clusters

  taken : ℕ → ℕ
  taken x = uses more x + uses bits_more x

  abbrev given : ℕ → ℕ
  given x = 0

  file_clusters : (x : ℕ) → uses (file_runs (table_in files table_file)) x ≡ uses (file_runs (table_in v.files table_file)) x + taken x
  unfolding taken
  file_clusters x =
      let is : uses (file_runs (table_in files table_file)) x ≡ uses (file_runs (Some s)) x = ap (λ (o : Option Record). uses (file_runs o) x) (edited_files v.files edits (below, tt, tt)).0 in
      let was : uses (file_runs (table_in v.files table_file)) x ≡ uses (file_runs (Some r)) x = ap (λ (o : Option Record). uses (file_runs o) x) (some_file v table_file r k.file) in
      let sums = now.balance x in
      let grown_by = uses-grown v.table.runs more x in
      let wider_by = wider.balance x in
      omega (arith, is, was, sums, grown_by, wider_by)

  all_clusters : (x : ℕ) → uses (volume_runs files) x ≡ uses (volume_runs v.files) x + taken x
  all_clusters x =
      let sums = clusters_replaced v.files files table_file x differs in
      let own_sum = file_clusters x in
      omega (arith, sums, own_sum)

  none_marked : (x : ℕ) → bit (cluster_bits c v) x ≡ true → taken x ≤ 0
  unfolding taken
  none_marked x set = elim (cases_lt 0 (uses more x)) [
    | inl some ↦ absurd (both_ways (bit (cluster_bits c v) x) (k.taken.clear x some) set)
    | inr none ↦ elim (cases_lt 0 (uses bits_more x)) [
      | inl some ↦ absurd (both_ways (bit (cluster_bits c v) x) (k.bits_taken.clear x some) set)
      | inr neither ↦ omega (arith, none, neither)
    ]
  ]

  none_taken : (x : ℕ) → x < v.clusters → bit (cluster_bits d v) x ≡ false → taken x ≡ 0
  unfolding taken
  none_taken x low clear =
      let parts = or_parts (leb 1 (uses more x) || leb 1 (uses bits_more x)) (bit (cluster_bits c v) x) (sym (k.marked x low) ∙ clear) in
      let two = or_parts (leb 1 (uses more x)) (leb 1 (uses bits_more x)) parts.0 in
      let one = not_some (uses more x) two.0 in
      let other = not_some (uses bits_more x) two.1 in
      omega (arith, one, other)

  still_set : (x : ℕ) → x < v.clusters → bit (cluster_bits c v) x ≡ true → bit (cluster_bits d v) x ≡ true
  still_set x low was = k.marked x low ∙ or_right (leb 1 (uses more x) || leb 1 (uses bits_more x)) (bit (cluster_bits c v) x) was

  bit_now : (x : ℕ) → bit (cluster_bits d w) x ≡ bit (cluster_bits d v) x
  bit_now x = ap (λ (l : List Bool). bit l x) marks_now

  clusters_follow : TakesClusters taken given v.clusters (cluster_bits c v) (cluster_bits d w) v.files files
  unfolding taken
  clusters_follow = record {
    balance = λ x low. (let sum = all_clusters x in omega (arith, sum));
    clear = λ x low clear. k.apart x;
    marked = λ x low set. none_marked x set;
    not_taken = λ x low is. none_taken x low (sym (bit_now x) ∙ is);
    freed = λ x low was is. absurd (both_ways (bit (cluster_bits d v) x) (sym (bit_now x) ∙ is) (still_set x low was));
  }

  -- ---- the rules

  new_1 : keeps_1 (table_in files) table_file ≡ true
  unfolding keeps_1 broken_1
  new_1 =
      ap (at_file (λ q. keeps_names table_file q (record_links table_file q))) at_0
      ∙ ap (keeps_names table_file s) (now.links table_file)
      ∙ now.names table_file (record_links table_file r)
      ∙ sym (ap (at_file (λ q. keeps_names table_file q (record_links table_file q))) k.file)
      ∙ passes_below (keeps_1 (files_by_number v)) (count_of v) (rules_of c v state.kept).rule_1 table_file below

  index_test : Content → Volume → Record → Bool
  index_test x y q = implies (is_directory_record q) (lists_names (upper_of c v) (files_by_number y) (count_of y) (reference table_file q) (index_links x y.per (upper_of c v) q))

  old_3 : index_test c v r ≡ true
  unfolding broken_3 keeps_index index_test
  old_3 = sym (ap (at_file (index_test c v)) k.file) ∙ passes_below (keeps_index c v (upper_of c v)) (count_of v) (rules_of c v state.kept).rule_3 table_file below

  listed_now : is_directory_record r ≡ true
      → lists_names (upper_of c v) (files_by_number w) (count_of w) (reference table_file s) (index_links d w.per (upper_of c v) s) ≡ lists_names (upper_of c v) (files_by_number v) (count_of v) (reference table_file r) (index_links c v.per (upper_of c v) r)
  listed_now directory =
      let upper = upper_of c v in
      let before = table_in v.files in
      let after = table_in files in
      ap (λ (q : ℕ). lists_names upper after (length files) (record { number = table_file; seq = q }) (index_links d v.per upper s)) now.seq
      ∙ ap (λ (o : Option (List Link)). lists_names upper after (length files) (reference table_file r) o) (index_now directory)
      ∙ ap (λ (x : ℕ). lists_names upper after x (reference table_file r) (index_links c v.per upper r)) differs.count
      ∙ same_listed upper before after (count_of v) (reference table_file r) (index_links c v.per upper r) (same_name_in before after (reference table_file r) all_named) (same_count before after (reference table_file r) (count_of v) all_named)

  new_3 : keeps_index d w (upper_of c v) table_file ≡ true
  unfolding keeps_index index_test
  new_3 = ap (at_file (index_test d w)) at_0 ∙ elim (cases_Bool (is_directory_record r)) [
    | inl directory ↦
        ap₂ (λ (t x : Bool). implies t x) now.directory (listed_now directory) ∙ old_3
    | inr other ↦ ap (λ (t : Bool). implies t (lists_names (upper_of c v) (files_by_number w) (count_of w) (reference table_file s) (index_links d w.per (upper_of c v) s))) (now.directory ∙ other)
  ]

  -- each body is put whole
  untorn : (b : Block) (bytes : List ℕ) → body_in bodies b ≡ Some bytes → d b ≡ record { bytes = bytes; torn = false }
  untorn b bytes put = body_put c bodies b sized k.whole ∙ ap (body_or (c b)) put

  blank : (m : ℕ) (b : Block) → record_count v.table ≤ m → m < record_count f → block_at v.per f.runs FileRec m ≡ Some b → IsBlank (d b)
  blank m b past low at =
      let begun_m : 1024 * m < f.initialised = (let same = initialised_old in omega (arith, low, same)) in
      let put = k.records m b past begun_m at in
      let is = untorn b put.bytes put.put in
      record { whole = ap (λ (x : Body). x.torn) is; unsigned = ap (λ (x : Body). is_signed FileRec x.bytes) is ∙ put.unsigned }

  kept_4 : keeps_streams d v table_file r ≡ true
  unfolding keeps_sizes
  kept_4 =
      let kept : keeps_sizes d v table_file ≡ true = kept_sizes c d v table_file (no_more_torn c writes) (rule_4_at c g clusters v table_file state (let low = below in omega (arith, low))) in
      sym (ap (at_file (keeps_streams d v table_file)) k.file) ∙ (and_parts _ _ kept).0

  kept_test : streams_test d v.per table_file (list_all (keeps_stream v.per v.clusters r.attrs) r.attrs) (is_directory_record r) (stream_of data_type [] r.attrs) (stream_of bitmap_type [] r.attrs) (stream_of index_allocation names_index r.attrs) (stream_of bitmap_type names_index r.attrs) ≡ true
  kept_test = sym (by_test d v table_file r) ∙ kept_4

  untorn_old : has_torn d v.per FileRec 1024 v.table ≡ false
  untorn_old = sym (ap (stream_has_torn d v.per FileRec 1024) records_were) ∙ negated (stream_has_torn d v.per FileRec 1024 (stream_of data_type [] r.attrs)) (and_parts _ _ (and_parts _ _ kept_test).1).0

  torn_by : (m : ℕ) → 1024 * m < f.initialised → (o : Option Block) → block_at v.per f.runs FileRec m ≡ o → record_count v.table ≤ m → is_torn_at d o ≡ false
  torn_by m begins None at past = refl
  torn_by m begins (Some b) at past = (let put = k.records m b past begins at in ap (λ (x : Body). x.torn) (untorn b put.bytes put.put))

  untorn_now : has_torn d v.per FileRec 1024 f ≡ false
  unfolding has_torn
  untorn_now =
      none_from (λ m. is_torn_at d (block_at v.per f.runs FileRec m)) 0 (begun 1024 f.initialised) (λ m low high.
      elim (cases_lt m (record_count v.table)) [
        | inl within_old ↦
            ap (is_torn_at d) (places m within_old)
            ∙ none_at (λ i. is_torn_at d (block_at v.per v.table.runs FileRec i)) 0 (begun 1024 v.table.initialised) m untorn_old (omega arith) (let same = initialised_old in omega (arith, within_old, same))
        | inr past ↦ torn_by m (let begins = begun_in FileRec m f.initialised (omega (arith, high)) in omega (arith, begins)) (block_at v.per f.runs FileRec m) refl past
      ])

  blocks_now : stream_of index_allocation names_index s.attrs ≡ stream_of index_allocation names_index r.attrs
  blocks_now = now.others index_allocation names_index (inl (λ e. omega (arith, e)), inl (λ e. omega (arith, e)))

  used_now : stream_of bitmap_type names_index s.attrs ≡ stream_of bitmap_type names_index r.attrs
  used_now = now.others bitmap_type names_index (inl (λ e. omega (arith, e)), inr names_named)

  test_now : streams_test d v.per table_file (list_all (keeps_stream v.per v.clusters s.attrs) s.attrs) (is_directory_record s) (Some (Placed f)) (Some new) (stream_of index_allocation names_index s.attrs) (stream_of bitmap_type names_index s.attrs) ≡ true
  test_now =
      let holes = (and_parts _ _ (and_parts _ _ (and_parts _ _ kept_test).0).0).1 in
      let nodes = (and_parts _ _ (and_parts _ _ kept_test).1).1 in
      and_from _ _
      (and_from _ _
      (and_from _ _ now.sizes
      (and_from _ _
      (and_from _ _ (as_not (has_hole (Some (Placed f))) new_whole) (as_not (has_hole (Some new)) (wider.holes whole_old.1)))
      (ap₂ (λ (t : Bool) (o : Option Stream). implies t (not (has_hole o) && not (has_hole (stream_of bitmap_type names_index s.attrs)))) now.directory blocks_now
      ∙ ap (λ (o : Option Stream). implies (is_directory_record r) (not (has_hole (stream_of index_allocation names_index r.attrs)) && not (has_hole o))) used_now
      ∙ (and_parts _ _ holes).1)))
      (eq-eqb f.initialised f.real (ap (λ (x : ℕ). x + 1024 * 256) initialised_old)))
      (and_from _ _ (as_not (has_torn d v.per FileRec 1024 f) untorn_now) (ap₂ (λ (t : Bool) (o : Option Stream). implies t (not (stream_has_torn d v.per Index 4096 o))) now.directory blocks_now ∙ nodes))

  streams_now : keeps_streams d w table_file s ≡ true
  streams_now =
      by_test d w table_file s
      ∙ ap₂ (λ (o p : Option Stream). streams_test d v.per table_file (list_all (keeps_stream v.per v.clusters s.attrs) s.attrs) (is_directory_record s) o p (stream_of index_allocation names_index s.attrs) (stream_of bitmap_type names_index s.attrs)) now.records now.bitmap
      ∙ test_now

  size_now : size_or (record_bitmap w) ≡ real_size new
  size_now = ap size_or bitmap_now

  bitmaps_now : keeps_bitmaps w table_file ≡ true
  unfolding keeps_bitmaps
  bitmaps_now =
      and_from _ _ (le-leb (count_of w) (8 * size_or (record_bitmap w)) (let many = count_w in let size = size_now in let enough = k.enough in omega (arith, many, size, enough, counted))) refl

  new_4 : keeps_sizes d w table_file ≡ true
  unfolding keeps_sizes
  new_4 = and_from _ _ (ap (at_file (keeps_streams d w table_file)) at_0 ∙ streams_now) bitmaps_now

  new_7 : keeps_record_bit d w table_file ≡ true
  unfolding keeps_record_bit
  new_7 = implied (is_in_use d w table_file) (bit (record_bits d w) table_file) (bits_now table_file below ∙ marked_0)

  new_9 : broken_9 d w ≡ None
  unfolding broken_9
  new_9 = ap fault_of journal_now ∙ (rules_of c v state.kept).rule_9

  outside : (P : Type 0) (m : ℕ) → inside m ≡ false → P
  outside P m is = absurd cc

  keeps : KeepsTouched touched inside c d v w
  keeps = record {
    upcase = others_not upcase_file (λ same. omega (arith, same));
    rule_1 = λ m low. here (λ (x : ℕ). keeps_1 (table_in files) x ≡ true) new_1 m;
    rule_2 = λ m low. outside (keeps_2 (table_in files) m ≡ true) m;
    rule_3 = λ m low. here (λ (x : ℕ). keeps_index d w (upper_of c v) x ≡ true) new_3 m;
    listed = λ m j q other is directory. outside (names_there (reference m q) (links_at (table_in files) j) ≡ names_there (reference m q) (links_at (table_in v.files) j)) j;
    rule_4 = λ m low. here (λ (x : ℕ). keeps_sizes d w x ≡ true) new_4 m;
    rule_5 = takes_5 taken given c d v files (rules_of c v state.kept).rule_5 (rules_of c v state.kept).rule_6 clusters_follow;
    rule_6 = takes_6 taken given c d v files (rules_of c v state.kept).rule_5 (rules_of c v state.kept).rule_6 clusters_follow;
    rule_7 = λ m low. here (λ (x : ℕ). keeps_record_bit d w x ≡ true) new_7 m;
    rule_8 = λ m low. outside (keeps_8 (table_in files) (count_of w) m ≡ true) m;
    rule_9 = new_9;
  }

  -- ---- the state

  alone : StandsAlone v.per (Used s)
  alone = (no_list_stream s no_list_now, none_of_two (is_directory_record s) _ (uncut_stream v.per (stream_of index_allocation names_index s.attrs) per_8))

  rewrites : RewritesRecords c writes v.per v.table f touched
  rewrites = record {
    grows = goes_on;
    others = λ m low other. planned_record table_streams records c g clusters v writes m within (not_records m (omega (arith, low, counted)) (not_other m other));
    lists = λ m q other is. planned_lists table_streams records c g clusters v writes m q within spares_lists is;
    unnamed = λ m q other is. unnamed c g clusters v touched m q state (λ n touches_it. here (IsOwnRecord c v) (inl (r, k.file)) n touches_it) other is;
    alone = λ m low touches_it. here (λ (x : ℕ). StandsAlone v.per (table_slot d v.per f x)) (subst (λ (x : Slot). StandsAlone v.per x) (sym slot) alone) m touches_it;
    fresh = λ m past low. blank_free d v.per f m (λ b at. blank m b past low at);
  }

  many : 7 ≤ count_of v
  many = records_enough c v (rules_of c v state.kept).rule_4 state.room

  grows : GrowsTable d w f
  grows = record {
    counted = count_w ∙ counted;
    four = (let least = many in let same = count_w in omega (arith, least, same));
    goes_on = goes_on;
    bitmap = (let size = size_now in let enough = k.enough in omega (arith, size, enough, count_now));
    blank = λ m past low. blank_unsigned d u m (λ b at. blank m b (let same = count_w in omega (arith, past, same, counted)) low at);
    clear = λ m past low. bits_clear m (let same = count_w in omega (arith, past, same)) low;
  }

  replaces : ReplacesFiles inside c g v f writes edits
  replaces = record {
    sized = sized;
    extents = table_now;
    records = rewrites;
    distinct = (below, tt, tt);
    files = (sym (file_slot d (with_table v f v.files) table_file s slot base), tt);
    touches = touches;
    agrees = agrees;
    shown = λ m other. planned_shown touched table_streams records c g clusters v writes m within spares other;
    keeps = keeps;
    grows = grows;
  }

  before : Holds c v (tree_of c v)
  before = record { kept = state.kept; tree = refl }

  stands : Stands (content_with c bodies) g clusters (longer_volume v more s)
  stands = record {
    loaded = step_loaded inside c g clusters v f writes edits state.loaded replaces;
    kept = (step_holds inside c g v f writes edits (tree_of c v) before replaces).kept;
    some = state.some;
    room = state.room;
  }

  -- ---- its files and streams

  file_0 : file_in (longer_volume v more s) table_file ≡ Some s
  file_0 = file_same table_file ∙ at_0

  other_files : (m : ℕ) → m ≢ table_file → file_in (longer_volume v more s) m ≡ file_in v m
  other_files m other = file_same m ∙ file_elsewhere (table_in v.files) (table_in files) table_file m differs.others other

  names_of : (m : ℕ) → links_at (files_by_number (longer_volume v more s)) m ≡ links_at (files_by_number v) m
  unfolding links_at
  names_of m = ap (file_links m) (file_same m) ∙ all_named m

  upper_bytes : SameUpper c d v
  upper_bytes = planned_upper touched table_streams records c g clusters v writes within spares

  index_bytes : (m : ℕ) → SameIndexAt c d v m
  index_bytes m = same_index_at (λ n. false) table_streams records c g clusters v writes within all_spared m refl

  table_stream : stream_at (longer_volume v more s) table_key ≡ Some (Placed f)
  table_stream = ap (file_stream data_type []) file_0 ∙ now.records

  numbers_stream : stream_at (longer_volume v more s) numbers_key ≡ Some new
  numbers_stream = ap (file_stream bitmap_type []) file_0 ∙ now.bitmap

  -- ---- the tree

  held : Holds d w (tree_of d w)
  held = changed_holds touched inside c d v files (tree_of c v) before touches agrees keeps

  flags_now : data_flags s ≡ data_flags r
  unfolding data_flags
  flags_now = now.flags []

  hole_now : has_sparse_run s ≡ has_sparse_run r
  unfolding data_stream
  hole_now = ap has_hole now.records ∙ new_whole ∙ sym (ap has_hole records_were ∙ whole_old.0)

  why_now : why_not s ≡ why_not r
  unfolding why_not
  why_now =
      ap₂ (λ (a b : Bool). option_or (why_by a b (data_flags s)) (sparse_if (has_sparse_run s))) (now.types attribute_list) (now.types reparse_point)
      ∙ ap₂ (λ (x : ℕ) (t : Bool). option_or (why_by (has_type attribute_list r) (has_type reparse_point r) x) (sparse_if t)) flags_now hole_now

  node_0 : node_at (bytes_or d w.per) w table_file ≡ node_at (bytes_or c v.per) v table_file
  unfolding node_at
  node_0 =
      ap (some_node (bytes_or d w.per) w table_file) at_0
      ∙ table_node d w s
      ∙ ap₂ (λ (l : List Link) (a : Node). cond (eqb (length l) 0) None (Some a)) (now.links table_file) same_node
      ∙ sym (ap (some_node (bytes_or c v.per) v table_file) k.file ∙ table_node c v r)
    where
      same_node : node_of table_file s.head.seq (cond (is_directory_record s) Directory System) (why_not s) (has_type object_id s) None [] (info_of s) ≡ node_of table_file r.head.seq (cond (is_directory_record r) Directory System) (why_not r) (has_type object_id r) None [] (info_of r)
      same_node =
          ap₂ (λ (q : ℕ) (t : Bool). node_of table_file q (cond t Directory System) (why_not s) (has_type object_id s) None [] (info_of s)) now.seq now.directory
          ∙ ap₂ (λ (y : Option Why) (t : Bool). node_of table_file r.head.seq (cond (is_directory_record r) Directory System) y t None [] (info_of s)) why_now (now.types object_id)
          ∙ ap (node_of table_file r.head.seq (cond (is_directory_record r) Directory System) (why_not r) (has_type object_id r) None []) now.info

  node_now : (m : ℕ) → node_at (bytes_or d w.per) w m ≡ node_at (bytes_or c v.per) v m
  node_now m =
      this_or_other (λ (x : ℕ). node_at (bytes_or d w.per) w x ≡ node_at (bytes_or c v.per) v x) table_file m node_0
      (λ other. untouched_node touched inside c d v files m touches (others_not m other) (planned_shown touched table_streams records c g clusters v writes m within spares (others_not m other)))

  nodes_now : nodes_by (bytes_or d w.per) w ≡ nodes_by (bytes_or c v.per) v
  unfolding nodes_by
  nodes_now =
      ap (λ (n : ℕ). filter_map (node_at (bytes_or d w.per) w) (range_with_len 0 n)) count_w
      ∙ same_given (node_at (bytes_or c v.per) v) (node_at (bytes_or d w.per) w) 0 (count_of v) (λ m low high. node_now m)

  spare_now : spare_numbers d w ≡ spare_numbers c v
  unfolding spare_numbers
  spare_now =
      ap (λ (n : ℕ). filter_map (spare_at d w) (range_with_len first_user_record (n - first_user_record))) count_w
      ∙ same_given (spare_at c v) (spare_at d w) first_user_record (count_of v - first_user_record)
      (λ m low high. untouched_spare touched inside c d v files m touches agrees (omega (arith, low, high)) (others_not m (λ same. omega (arith, low, same))))

  -- ---- as an edit of a plan

  -- each stream is the table, or the bitmap, or stays
  which : (t : StreamKey) → (t ≡ table_key) ⊎ (t ≡ numbers_key) ⊎ (stream_at u t ≡ stream_at v t)
  which t = elim (cases_eq t.file table_file) [
    | inl file ↦ elim (same_or_other data_type t.kind [] t.name) [
      | inl same ↦ inl (same_key t table_key file same.0 same.1)
      | inr no_data ↦ elim (same_or_other bitmap_type t.kind [] t.name) [
        | inl same ↦ inr (inl (same_key t numbers_key file same.0 same.1))
        | inr no_bits ↦
            inr
            (inr
            (ap (λ (m : ℕ). file_stream t.kind t.name (file_in u m)) file
            ∙ ap (file_stream t.kind t.name) file_0
            ∙ now.others t.kind t.name (no_data, no_bits)
            ∙ sym (ap (λ (m : ℕ). file_stream t.kind t.name (file_in v m)) file ∙ ap (file_stream t.kind t.name) k.file)))
      ]
    ]
    | inr other ↦ inr (inr (ap (file_stream t.kind t.name) (other_files t.file other)))
  ]

  owned_after : (p : NewBody) → IsOfTable v more new p.block → Owns v p.block ⊎ Owns u p.block
  unfolding stream_kind
  owned_after p (inl owned) = inl (record { stream = owned.stream; number = owned.number; lies = owned.lies })
  owned_after p (inr (inl its)) = inl (record_owned c g clusters v table_file p.block state its)
  owned_after p (inr (inr (inl fresh))) = inr (record { stream = table_key; number = fresh.0; lies = ap (λ (o : Option Stream). block_at v.per (runs_in o) FileRec fresh.0) table_stream ∙ fresh.3 })
  owned_after p (inr (inr (inr sector))) = inr (record { stream = numbers_key; number = sector.0; lies = ap (λ (o : Option Stream). block_at v.per (runs_in o) Plain sector.0) numbers_stream ∙ sector.1 })

  clusters_are : clusters ≡ v.clusters
  clusters_are = (volume_parts c g clusters v state.loaded).count

  bit_u : (x : ℕ) → bit (cluster_bits d u) x ≡ bit (cluster_bits d v) x
  unfolding cluster_bits
  bit_u x = ap (λ (o : Option Record). bit (bits_of_bytes (bytes_or d v.per (file_stream data_type [] o)) v.clusters) x) (file_same bitmap_file) ∙ bit_now x

  clusters_u : (x : ℕ) → uses (volume_runs u.files) x ≡ uses (volume_runs v.files) x + taken x
  clusters_u x = ap (λ (l : List Run). uses l x) (filled_runs (record_count f) files) ∙ all_clusters x

  set_now : (x : ℕ) → x < v.clusters → 0 < taken x → (bit (cluster_bits c v) x ≡ false) × (bit (cluster_bits d v) x ≡ true)
  unfolding taken
  set_now x low some = elim (cases_lt 0 (uses more x)) [
    | inl own_one ↦ (k.taken.clear x own_one, k.marked x low ∙ or_left _ _ (or_left _ _ (le-leb 1 (uses more x) own_one)))
    | inr none ↦
        (let other : 0 < uses bits_more x = omega (arith, some, none) in
        (k.bits_taken.clear x other, k.marked x low ∙ or_left _ _ (or_right _ _ (le-leb 1 (uses bits_more x) other))))
  ]

  same_bit : (x : ℕ) → x < v.clusters → taken x ≡ 0 → bit (cluster_bits d v) x ≡ bit (cluster_bits c v) x
  unfolding taken
  same_bit x low none =
      k.marked x low
      ∙ ap₂ (λ (a b : Bool). a || b || bit (cluster_bits c v) x) (lt-leb 1 (uses more x) (omega (arith, none))) (lt-leb 1 (uses bits_more x) (omega (arith, none)))

  follows : FollowsOwners clusters (cluster_bits c v) (cluster_bits d u) v.files u.files
  follows = record {
    cleared = λ x low less. (let sum = clusters_u x in absurd (omega (arith, sum, less)));
    set = λ x low some. (let sum = clusters_u x in let both = set_now x (subst (λ (y : ℕ). x < y) clusters_are low) (omega (arith, sum, some)) in (both.0, bit_u x ∙ both.1));
    others = λ x low equal. (let sum = clusters_u x in bit_u x ∙ same_bit x (subst (λ (y : ℕ). x < y) clusters_are low) (omega (arith, sum, equal)));
  }

  -- ---- the room

  one_counts : (x : ℕ) → x < v.clusters → cond {A = ℕ} (not (bit (cluster_bits c v) x) && bit (cluster_bits d u) x) 1 0 ≡ taken x
  unfolding taken
  one_counts x low = elim (cases_lt 0 (taken x)) [
    | inl some ↦
        (let both = set_now x low some in
        let most = k.apart x in
        let one : 1 ≡ taken x = omega (arith, some, most) in
        ap₂ (λ (a b : Bool). cond {A = ℕ} (not a && b) 1 0) both.0 (bit_u x ∙ both.1) ∙ one)
    | inr none ↦
        (let zero_now : 0 ≡ taken x = omega (arith, none) in
        ap (λ (b : Bool). cond {A = ℕ} (not (bit (cluster_bits c v) x) && b) 1 0) (bit_u x ∙ same_bit x low (omega (arith, none))) ∙ never (bit (cluster_bits c v) x) ∙ zero_now)
  ]
    where
      never : (t : Bool) → cond {A = ℕ} (not t && t) 1 0 ≡ 0
      never true = refl
      never false = refl

  none_clear : (x : ℕ) → x < v.clusters → cond {A = ℕ} (bit (cluster_bits c v) x && not (bit (cluster_bits d u) x)) 1 0 ≡ 0
  none_clear x low = by_bit (bit (cluster_bits c v) x) refl
    where
      by_bit : (t : Bool) → bit (cluster_bits c v) x ≡ t → cond {A = ℕ} (t && not (bit (cluster_bits d u) x)) 1 0 ≡ 0
      by_bit true is = ap (λ (b : Bool). cond {A = ℕ} (not b) 1 0) (bit_u x ∙ still_set x low is)
      by_bit false is = refl

  room_now : free_clusters d u + (new_clusters + total_clusters bits_more) ≡ free_clusters c v
  unfolding taken
  room_now =
      let n = v.clusters in
      let balance = room_balance c d v u refl in
      let set = count_as_sum (λ x. not (bit (cluster_bits c v) x) && bit (cluster_bits d u) x) taken 0 n (λ x low high. one_counts x (omega (arith, high))) in
      let clear = count_as_sum (λ x. bit (cluster_bits c v) x && not (bit (cluster_bits d u) x)) (λ x. 0) 0 n (λ x low high. none_clear x (omega (arith, high))) in
      let none = sum_of_none (λ x. 0) 0 n (λ x. refl) in
      let two = sum_of_two (uses more) (uses bits_more) taken 0 n (λ x. refl) in
      let own_sum = uses_sum more n k.taken.whole k.taken.inside in
      let other_sum = uses_sum bits_more n k.bits_taken.whole k.bits_taken.inside in
      let size = k.size in
      omega (arith, balance, set, clear, none, two, own_sum, other_sum, size)

  tree : HasLongerTable (new_clusters + total_clusters bits_more) (tree_of c v) (tree_of (content_with c bodies) (longer_volume v more s))
  unfolding tree_of tree_with volume_journal
  tree =
      let has = grown_tree d w f (tree_of d w) held grows in
      let size : (tree_of d u).count ≡ record_count f = grown_count d w f (tree_of d w) held grows in
      record {
        nodes = has.nodes ∙ nodes_now;
        links = has.links ∙ links_kept v.files files table_file differs names;
        spare = has.spare ∙ ap₂ (λ (l : List FileRef) (n : ℕ). l ++ new_numbers n (tree_of d u).count) spare_now count_w;
        count = size ∙ count_now ∙ ap (λ (n : ℕ). n + 256) (sym counted);
        journal = has.journal ∙ ap some_journal journal_now;
        room = room_now;
      }

  -- a cluster that is owned was owned as this kind, or came
  owned_or_new : (kind : BlockKind) (x : ℕ) → OwnsAs u kind x → OwnsAs v kind x ⊎ ((0 < uses more x) × (FileRec ≡ kind)) ⊎ ((0 < uses bits_more x) × (Plain ≡ kind))
  unfolding stream_kind
  owned_or_new kind x owns = elim (which owns.stream) [
    | inl same ↦
        (let has_now : 0 < uses f.runs x = subst (λ (o : Option Stream). 0 < uses (runs_in o) x) (ap (stream_at u) same ∙ table_stream) owns.has in
        let sum = uses-grown v.table.runs more x in
        elim (cases_lt 0 (uses more x)) [
          | inl some ↦ inr (inl (some, sym (ap stream_kind same) ∙ owns.is_kind))
          | inr none ↦ inl (record { stream = owns.stream; is_kind = owns.is_kind; has = subst (λ (o : Option Stream). 0 < uses (runs_in o) x) (sym (ap (stream_at v) same ∙ ap (file_stream data_type []) k.file ∙ records_were)) (omega (arith, has_now, sum, none)) })
        ])
    | inr (inl same) ↦
        (let has_now : 0 < uses (runs_in (Some new)) x = subst (λ (o : Option Stream). 0 < uses (runs_in o) x) (ap (stream_at u) same ∙ numbers_stream) owns.has in
        let sum = wider.balance x in
        elim (cases_lt 0 (uses bits_more x)) [
          | inl some ↦ inr (inr (some, sym (ap stream_kind same) ∙ owns.is_kind))
          | inr none ↦ inl (record { stream = owns.stream; is_kind = owns.is_kind; has = subst (λ (o : Option Stream). 0 < uses (runs_in o) x) (sym (ap (stream_at v) same ∙ is_numbers)) (omega (arith, has_now, sum, none)) })
        ])
    | inr (inr stays) ↦ inl (record { stream = owns.stream; is_kind = owns.is_kind; has = subst (λ (o : Option Stream). 0 < uses (runs_in o) x) stays owns.has })
  ]

  live_record : (m : ℕ) (b : Block) → block_at v.per f.runs FileRec m ≡ Some b → 512 * (2 * m) < f.initialised → IsLive v b ⊎ IsPut bodies b
  unfolding stream_kind
  live_record m b at begins = elim (cases_lt m (record_count v.table)) [
    | inl within_old ↦
        inl
        (record {
          owned = record { stream = table_key; number = m; lies = ap (λ (o : Option Stream). block_at v.per (runs_in o) FileRec m) (ap (file_stream data_type []) k.file ∙ records_were) ∙ sym (places m within_old) ∙ at };
          begins = subst (λ (o : Option Stream). 512 * (2 * m) < initialised_in o) (sym (ap (file_stream data_type []) k.file ∙ records_were)) (let same = initialised_old in omega (arith, within_old, same));
        })
    | inr past ↦ (let put = k.records m b past (omega (arith, begins)) at in inr (put.bytes, put.put))
  ]

  live_sector : (m : ℕ) (b : Block) → block_at v.per (runs_in (Some new)) Plain m ≡ Some b → 512 * (1 * m) < initialised_in (Some new) → IsLive v b ⊎ IsPut bodies b
  unfolding stream_kind
  live_sector m b at begins = elim (cases_lt (512 * m) (initialised_in (Some old))) [
    | inl was ↦
        inl
        (record {
          owned = record { stream = numbers_key; number = m; lies = ap (λ (o : Option Stream). block_at v.per (runs_in o) Plain m) is_numbers ∙ sym (wider.stays m was) ∙ at };
          begins = subst (λ (o : Option Stream). 512 * (1 * m) < initialised_in o) (sym is_numbers) (omega (arith, was));
        })
    | inr past ↦ inr (k.covers m b at past (omega (arith, begins)))
  ]

  covered : (b : Block) → IsLive u b → IsLive v b ⊎ IsPut bodies b
  unfolding stream_kind
  covered b live =
      let m = live.owned.number in
      elim (which live.owned.stream) [
        | inl same ↦
            (let at : block_at v.per (runs_in (stream_at u table_key)) FileRec m ≡ Some b = subst (λ (t : StreamKey). block_at v.per (runs_in (stream_at u t)) (stream_kind t) m ≡ Some b) same live.owned.lies in
            let begins : 512 * (2 * m) < initialised_in (stream_at u table_key) = subst (λ (t : StreamKey). 512 * (sectors (stream_kind t) * m) < initialised_in (stream_at u t)) same live.begins in
            live_record m b (sym (ap (λ (o : Option Stream). block_at v.per (runs_in o) FileRec m) table_stream) ∙ at) (subst (λ (o : Option Stream). 512 * (2 * m) < initialised_in o) table_stream begins))
        | inr (inl same) ↦
            (let at : block_at v.per (runs_in (stream_at u numbers_key)) Plain m ≡ Some b = subst (λ (t : StreamKey). block_at v.per (runs_in (stream_at u t)) (stream_kind t) m ≡ Some b) same live.owned.lies in
            let begins : 512 * (1 * m) < initialised_in (stream_at u numbers_key) = subst (λ (t : StreamKey). 512 * (sectors (stream_kind t) * m) < initialised_in (stream_at u t)) same live.begins in
            live_sector m b (sym (ap (λ (o : Option Stream). block_at v.per (runs_in o) Plain m) numbers_stream) ∙ at) (subst (λ (o : Option Stream). 512 * (1 * m) < initialised_in o) numbers_stream begins))
        | inr (inr stays) ↦
            inl
            (record {
              owned = record { stream = live.owned.stream; number = m; lies = ap (λ (o : Option Stream). block_at v.per (runs_in o) (stream_kind live.owned.stream) m) (sym stays) ∙ live.owned.lies };
              begins = subst (λ (o : Option Stream). 512 * (sectors (stream_kind live.owned.stream) * m) < initialised_in o) stays live.begins;
            })
      ]

  -- nothing of the bitmap's clusters is given as file records
  apart_kind : (first : Content) (begin : Volume) (gave : ℕ → Option BlockKind) → MayGive first begin Plain bits_more gave → (x : ℕ) (other : BlockKind) → 0 < uses bits_more x → gives_runs FileRec more gave x ≡ Some other → other ≡ Plain
  apart_kind first begin gave may x other some given_is =
      let both = k.apart x in
      let none : leb 1 (uses more x) ≡ false = lt-leb 1 (uses more x) (omega (arith, both, some)) in
      may.same x other some (sym (ap (λ (t : Bool). cond t (Some FileRec) (gave x)) none) ∙ given_is)

  table_goes_on : (first : Content) (begin : Volume) (gave : ℕ → Option BlockKind) → MayGive first begin FileRec more gave → MayGive first begin Plain bits_more gave → GoesOn first begin c g clusters v bodies (longer_volume v more s) gave (gives_table more bits_more gave)
  table_goes_on first begin gave may bits_may =
      let bits : List Bool = cluster_bits first begin in
      let inner : ℕ → Option BlockKind = gives_runs FileRec more gave in
      record {
        whole = k.whole;
        stands = stands;
        marks = follows;
        kept = λ kind x given_is. given_before Plain bits_more inner (apart_kind first begin gave bits_may) kind x (given_before FileRec more gave may.same kind x given_is);
        takes = λ kind x owns. elim (owned_or_new kind x owns) [
          | inl was ↦ inl was
          | inr (inl is) ↦ inr (given_before Plain bits_more inner (apart_kind first begin gave bits_may) kind x (given_here FileRec more gave x is.0 ∙ ap (λ (y : BlockKind). Some y) is.1))
          | inr (inr is) ↦ inr (given_here Plain bits_more inner x is.0 ∙ ap (λ (y : BlockKind). Some y) is.1)
        ];
        clear = given_clear Plain bits_more inner bits bits_may.taken (given_clear FileRec more gave bits may.taken may.before);
        touched = all_by (λ p. IsOfTable v more new p.block) (λ p. Owns v p.block ⊎ Owns u p.block) owned_after bodies k.each;
        covers = covered;
      }

pub table_grows : TableIsGrown
table_grows = record {
  stands = stands;
  file = file_0;
  table = table_stream;
  bitmap = numbers_stream;
  others = λ c g clusters v r more old bits_more new s bodies n sized eight state k other. other_files c g clusters v r more old bits_more new s bodies sized eight state k n other;
  streams = λ c g clusters v r more old bits_more new s bodies t sized eight state k. which c g clusters v r more old bits_more new s bodies sized eight state k t;
  places = λ c g clusters v r more old bits_more new s bodies m sized eight state k low. places c g clusters v r more old bits_more new s bodies sized eight state k m low;
  names = λ c g clusters v r more old bits_more new s bodies m sized eight state k. names_of c g clusters v r more old bits_more new s bodies sized eight state k m;
  upper = upper_bytes;
  indexes = λ c g clusters v r more old bits_more new s bodies m sized eight state k. index_bytes c g clusters v r more old bits_more new s bodies sized eight state k m;
  tree = tree;
  goes_on = λ first start c g clusters v r more old bits_more new s bodies gave sized eight state k may bits_may. table_goes_on c g clusters v r more old bits_more new s bodies sized eight state k first start gave may bits_may;
}
