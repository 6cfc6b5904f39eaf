-- A file's record is put with one stream in other clusters: the state that it leads to.
use Rattle.std.proofs.Common.{◌≡◌, ◌≢◌, ◌⊎◌, ℕ, ◌+◌, ◌*◌, ◌/◌, ◌<◌, ◌≤◌, Bool, true, false, not, ◌&&◌, ◌||◌, cond, eqb, nat_eq, leb, ltb, List, [], ◌∷◌, length, get_or, Option, Some, None, Result, Ok, Err, refl, sym, ap, ap₂, subst, ◌∙◌, inl, inr, arith}
use Rattle.std.specs.Prelude.{All}
use Rattle.std.specs.List.{list_all, list_any, flat_map, AllByRecursion}
use Rattle.std.specs.Cmp.Lexicographic.{pointwise}
use Rattle.std.proofs.lemmas.Bool.{cases_Bool, cases_lt, cases_eq, and_parts, and_from, and_left, and_right, both_ways, false_from_ne_true, or_left, or_from, eqb-true, eqb-false, ne_eqb, eq-eqb, lt-ltb}
use Rattle.plan_model.specs.disk_model.declared.block.Block.{Block}
use Rattle.plan_model.specs.disk_model.declared.block.BlockKind.{BlockKind}
use Rattle.plan_model.specs.disk_model.declared.block.BlockKind.TheVariants.{Plain, FileRec, Index}
use Rattle.plan_model.specs.disk_model.Sectors.{sectors, same_block, same_kind}
use Rattle.plan_model.specs.disk_model.Content.{Content, HasSizes}
use Rattle.plan_model.specs.disk_model.Writes.{Write}
use Rattle.plan_model.specs.record_model.declared.attribute.Attr.{Attr}
use Rattle.plan_model.specs.record_model.declared.runs.Run.{Run}
use Rattle.plan_model.specs.record_model.Records.{Record, shaped_at, has_lawful_values}
use Rattle.host_base.specs.Answers.{◌>>=◌, needs}
use Rattle.plan_model.specs.record_model.declared.record.RecHead.{RecHead}
use Rattle.plan_model.specs.record_model.Pairs.{HasSpelling}
use Rattle.plan_model.specs.record_model.Constants.{standard_information, file_name, attribute_list, data_type, index_allocation, bitmap_type, names_index, reparse_point, object_id}
use Rattle.plan_model.specs.file_tree.declared.link.Link.{Link}
use Rattle.host_base.specs.declared.file_ref.FileRef.{FileRef}
use Rattle.plan_model.specs.file_tree.Walks.{first_user_record}
use Rattle.plan_model.specs.bit_set.Bits.{bit}
use Rattle.plan_model.specs.state_model.declared.geometry.Geometry.{Geometry}
use Rattle.plan_model.specs.state_model.declared.stream.Extents.{Extents}
use Rattle.plan_model.specs.state_model.declared.stream.Stream.{Stream}
use Rattle.plan_model.specs.state_model.declared.stream.Stream.TheVariants.{Placed, Held}
use Rattle.plan_model.specs.state_model.Files.{file_at, reference, file_links, links_at, record_links, is_base_record, is_directory_record, has_type, info_of, is_encrypted, is_compressed, is_sparse, why_by}
use Rattle.plan_model.specs.record_model.declared.values.StdInfo.{StdInfo}
use Rattle.plan_model.specs.file_tree.declared.node.Kind.{Kind}
use Rattle.plan_model.specs.file_tree.declared.node.Kind.TheVariants.{Directory, File, Fixed, Opaque, System}
use Rattle.plan_model.specs.file_tree.declared.node.Why.{Why}
use Rattle.plan_model.specs.file_tree.declared.node.Node.{Node}
use Rattle.std.specs.Option.{option_or, option_map}
use Rattle.plan_model.specs.volume_state.Trees.{tree_with, tree_of, volume_journal}
use Rattle.resized_streams.proofs.record_streams.Streams.{placed_one}
use Rattle.plan_growth.specs.Trees.{with_data, TreeFollows}
use Rattle.plan_model.specs.state_model.Loads.{Slot, Free, Used, slot_of, slot_at, is_used, whole_record, has_fitting_pairs, has_all_pairs, table_slot, table_in, data_stream, has_cut_index_block}
use Rattle.plan_model.specs.state_model.Rules.{implies, at_file, is_directory_with, keeps_names, keeps_1, keeps_2, keeps_8}
use Rattle.plan_model.specs.state_model.Streams.{attributes_of, attribute_runs, stream_of, block_at, is_inside_block, cuts_block, has_cut_block}
use Rattle.plan_model.specs.state_model.Trees.{is_system, is_nameless}
use Rattle.plan_model.specs.volume_model.Volumes.{Volume, count_of, file_in, files_by_number, bytes_or, size_or, is_in_use, file_stream, record_bits, cluster_bits, table_file, mirror_file, bitmap_file, upcase_file, upper_of}
use Rattle.plan_model.specs.volume_model.Indexes.{void_block, index_place, index_links, index_stream, stream_blocks, links_below, lists_names, keeps_index}
use Rattle.plan_model.specs.volume_model.Nodes.{valid_or, clusters_or, data_flags, first_flags, has_sparse_run, sparse_if, why_not, is_unread, is_unchanged, kind_in, shows_data, data_shown, node_with, node_by, some_node, node_at, spare_numbers}
use Rattle.plan_model.specs.volume_model.Owners.{file_runs, volume_runs, uses, keeps_record_bit}
use Rattle.plan_model.specs.volume_model.Sizes.{fits_volume, keeps_stream, is_whole_file, has_hole, stream_has_torn, is_initialised, keeps_streams, keeps_sizes}
use Rattle.plan_model.specs.volume_state.Journals.{entries_name, limits_name, entries_flags, file_or_none, journal_file, journal_of_streams, journal_of_file, journal_of, fault_of, some_journal}
use Rattle.plan_model.specs.volume_state.Rules.{broken_1, broken_3, broken_9}
use Rattle.plan_model.specs.index_model.Indexes.{Place}
use Rattle.plan_model.specs.stream_laws.Leaving.{LiesFree}
use Rattle.plan_model.specs.stream_laws.Owners.{holds_records, stream_kind, initialised_in, Owns, IsLive}
use Rattle.plan_model.specs.stream_laws.Replacing.{FileEdit, OneFileDiffers, with_edits}
use Rattle.plan_model.specs.stream_laws.Rewrites.{StandsAlone, is_edited, with_files}
use Rattle.plan_model.specs.stream_laws.Sharing.{StreamKey, stream_at, runs_in}
use Rattle.plan_model.specs.stream_laws.Tables.{table_key}
use Rattle.plan_model.proofs.stream_laws.Changing.{bytes_stay}
use Rattle.plan_model.proofs.stream_laws.Editing.{length-with_edits, other_file, edited_files}
use Rattle.plan_model.proofs.stream_laws.Framing.{same_links}
use Rattle.plan_model.proofs.stream_laws.Placing.{lies}
use Rattle.plan_model.proofs.stream_laws.Replacing.{clusters_replaced}
use Rattle.plan_model.proofs.stream_laws.Rewriting.{volume_parts}
use Rattle.plan_model.proofs.stream_laws.Sharing.{same_key}
use Rattle.plan_model.proofs.stream_laws.Loading.{same_record_bits}
use Rattle.plan_model.proofs.stream_laws.Tabling.{inside_list, no_list_stream, read_in_use}
use Rattle.plan_model.specs.tree_laws.Changed.{TouchesFiles, KeepsTouched}
use Rattle.plan_model.specs.tree_laws.Contents.{AgreeBut}
use Rattle.plan_model.specs.tree_laws.Keeping.{KeepsNames, KeepsDirectory}
use Rattle.plan_model.specs.tree_laws.Leaves.{names_there}
use Rattle.plan_model.specs.tree_laws.Owners.{TakesClusters}
use Rattle.plan_model.specs.tree_laws.Parts.{journal_number}
use Rattle.plan_model.specs.tree_laws.Planned.{IsInStream, IsInRecord, WritesWithin, SparesOthers}
use Rattle.plan_model.proofs.tree_laws.Agreeing.{same_upper, kept_sizes, same_journal, same_spares}
use Rattle.plan_model.proofs.tree_laws.Ascending.{all_by}
use Rattle.plan_model.proofs.tree_laws.Changing.{all_keep}
use Rattle.plan_model.proofs.tree_laws.Keeping.{rules_of, passes_below}
use Rattle.plan_model.proofs.tree_laws.Naming.{this_or_other, names_everywhere, file_elsewhere, links_kept}
use Rattle.plan_model.proofs.tree_laws.Climbing.{system_everywhere}
use Rattle.plan_model.proofs.tree_laws.Owning.{takes_5, takes_6}
use Rattle.plan_model.proofs.tree_laws.Parting.{record_bits_stay, cluster_bits_stay, upper_stays, number_stays, spare_stay}
use Rattle.plan_model.proofs.tree_laws.Planning.{planned_agree, planned_bytes, same_index_at}
use Rattle.plan_model.proofs.tree_laws.Ruling.{same_listed, same_name_in, same_count, keeps_both, rule_7}
use Rattle.plan_model.specs.plan_owners.States.{Stands}
use Rattle.plan_model.specs.plan_owners.Kinds.{OwnsAs}
use Rattle.plan_model.proofs.plan_owners.Standing.{some_file, as_file, rule_4_at}
use Rattle.plan_model.specs.plan_bodies.Bodies.{NewBody, whole_write, writes_in, content_with}
use Rattle.plan_model.specs.Drafts.{FollowsOwners, GoesOn, IsPut}
use Rattle.plan_model.specs.Edits.{IsOwnedIn, WritesFiles, LeadsTo}
use Rattle.plan_model.specs.Informed.{with_record}
use Rattle.plan_model.proofs.Drafting.{per_is}
use Rattle.plan_model.proofs.Informing.{slot_in_use, marked_in_use, implied}
use Rattle.plan_model.proofs.OneRecord.{streams_test, by_test, sizes_from, OwnRecord, own_record, slot_begins, slot_put, file_slot}
use Rattle.plan_model.proofs.Quiet.{record_owned}
use Rattle.plan_model.proofs.Stepping.{written_within, files_edited, tree_nodes}
use Rattle.resized_streams.specs.record_streams.Placing.{placed_record}
use Rattle.plan_growth.specs.Streams.{IsOwnStream, IsWritten, key_of, marks_streams, PutsFile, IsFreshIn, PutsFresh}
use Rattle.plan_growth.proofs.Placed.{same_or_other, some_attributes, stream_type, placed_head, placed_types, placed_directory, placed_links, placed_names, placed_root, placed_info, placed_is_there, other_pieces, other_stream, placed_uses, placed_sizes, placed_all}
use Rattle.plan_growth.proofs.Written.{Reads, all_read, placed_reads, written_types, written_directory, written_links, written_names, written_root, written_info, written_stream, written_flags, written_runs, written_sizes}

-- What has to be known of the stream's new extents. The clusters of its attributes are those that it had. The new ones are lawful, sparse
-- and torn only where the old ones were; an index has the same blocks. Bits follow what is taken and given back.
pub record Follows (c d : Content) (v : Volume) (n kind : ℕ) (name : List ℕ) (r : Record) (old : Stream) (f : Extents) (taken given : ℕ → ℕ) : Type 0 where
  pub spelled : HasSpelling 0 f.runs
  pub before : (x : ℕ) → uses (flat_map attribute_runs (attributes_of kind name r.attrs)) x ≡ uses (runs_in (Some old)) x
  pub fits : fits_volume v.per v.clusters (Some (Placed f)) ≡ true
  pub holes : has_hole (Some old) ≡ false → has_hole (Some (Placed f)) ≡ false
  pub records : n ≡ mirror_file → data_type ≡ kind → [] ≡ name → stream_has_torn d v.per FileRec 1024 (Some old) ≡ false → stream_has_torn d v.per FileRec 1024 (Some (Placed f)) ≡ false
  pub nodes : index_allocation ≡ kind → names_index ≡ name → stream_has_torn d v.per Index 4096 (Some old) ≡ false → stream_has_torn d v.per Index 4096 (Some (Placed f)) ≡ false
  pub blocks : index_allocation ≡ kind → names_index ≡ name → stream_blocks v.per (Some (Placed f)) ≡ stream_blocks v.per (Some old)
  pub limits : limits_name ≡ name → (x : Extents) × (old ≡ Placed x)
  pub balance : (x : ℕ) → uses f.runs x + given x ≡ uses (runs_in (Some old)) x + taken x
  pub clear : (x : ℕ) → x < v.clusters → bit (cluster_bits c v) x ≡ false → taken x ≤ 1
  pub marked : (x : ℕ) → x < v.clusters → bit (cluster_bits c v) x ≡ true → taken x ≤ given x
  pub not_taken : (x : ℕ) → x < v.clusters → bit (cluster_bits d v) x ≡ false → taken x ≡ 0
  pub freed : (x : ℕ) → x < v.clusters → bit (cluster_bits c v) x ≡ true → bit (cluster_bits d v) x ≡ false → 1 ≤ given x

-- the streams that are put to are the marks, or the stream itself, which is no index
abbrev pub MayPutTo : ℕ → ℕ → List ℕ → (StreamKey → Bool) → Type 0
MayPutTo n kind name streams = (t : StreamKey) → streams t ≡ true → (marks_streams t ≡ true) ⊎ ((t ≡ key_of n kind name) × (index_allocation ≢ kind))

-- The bits follow what is taken and given back: those given back are clear, those taken were clear and are set, and the others stay.
pub record BitsFollow (clusters : ℕ) (bits new_bits : List Bool) (taken given : ℕ → ℕ) : Type 0 where
  pub cleared : (x : ℕ) → x < clusters → taken x < given x → bit new_bits x ≡ false
  pub set : (x : ℕ) → x < clusters → given x < taken x → (bit bits x ≡ false) × (bit new_bits x ≡ true)
  pub others : (x : ℕ) → x < clusters → taken x ≡ given x → bit new_bits x ≡ bit bits x

pub clusters_are : (c : Content) (g : Geometry) (clusters : ℕ) (v : Volume) → Stands c g clusters v → clusters ≡ v.clusters
clusters_are c g clusters v s = (volume_parts c g clusters v s.loaded).count

-- ---- tests of a file's streams

-- a test that asks less of the new stream holds where it held of the old one
asked : (a x y : Bool) → (x ≡ false → y ≡ false) → implies a (not x) ≡ true → implies a (not y) ≡ true
asked false x y less is = refl
asked true false y less is = ap not (less refl)
asked true true y less is = absurd cc

pub none_of_two : (t x : Bool) → x ≡ false → (t && x) ≡ false
none_of_two true x is = is
none_of_two false x is = refl

-- at eight sectors a cluster no index block is cut
pub inside_none : (count k : ℕ) → is_inside_block Index count (8 * k) ≡ false
inside_none count k = ap (λ (t : Bool). not t && ltb (8 * k / 8) count) (eq-eqb _ 0 (omega arith))

-- ---- which streams are put to

pub not_marks : (m kind : ℕ) (name : List ℕ) → kind ≢ data_type → marks_streams (record { file = m; kind = kind; name = name }) ≡ false
not_marks m kind name other = and_left ((eqb m bitmap_file || eqb m mirror_file) && eqb kind data_type) (pointwise nat_eq name []) (none_of_two (eqb m bitmap_file || eqb m mirror_file) (eqb kind data_type) (ne_eqb kind data_type other))

pub not_marked : (m : ℕ) (name : List ℕ) → m ≢ bitmap_file → m ≢ mirror_file → marks_streams (record { file = m; kind = data_type; name = name }) ≡ false
not_marked m name one two = ap₂ (λ (s t : Bool). (s || t) && eqb data_type data_type && pointwise nat_eq name []) (ne_eqb m bitmap_file one) (ne_eqb m mirror_file two)

pub not_named : (m kind u : ℕ) (name : List ℕ) → marks_streams (record { file = m; kind = kind; name = u ∷ name }) ≡ false
not_named m kind u name = none_of_two ((eqb m bitmap_file || eqb m mirror_file) && eqb kind data_type) false refl

-- files of the volume itself show no data
pub no_system_shown : (v : Volume) (m : ℕ) (r : Record) → m < first_user_record → shows_data (kind_in v m r) ≡ true → ⊥
unfolding kind_in is_system
no_system_shown v m r below shown = elim (cases_Bool (is_directory_record r)) [
  | inl directory ↦ (let none : false ≡ true = sym (rw directory refl) ∙ shown in absurd cc)
  | inr other ↦ (let none : false ≡ true = sym (rw (other, lt-ltb m first_user_record below) refl) ∙ shown in absurd cc)
]

from_some : (r q : Record) → Some r ≡ Some q → r ≡ q
from_some r q is = ap (or_this r) is
  where
    or_this : Record → Option Record → Record
    or_this x None = x
    or_this x (Some y) = y

-- none of these is an index block
pub void_apart : (b : Block) → Index ≢ b.kind → same_block void_block b ≡ false
void_apart b other = and_right (eqb void_block.first b.first) (same_kind Index b.kind) (by_kind b.kind other)
  where
    by_kind : (k : BlockKind) → Index ≢ k → same_kind Index k ≡ false
    by_kind Plain differ = refl
    by_kind FileRec differ = refl
    by_kind Index differ = absurd (differ refl)

-- the blocks of a stream that is no index are none
pub not_allocation : (t : StreamKey) → eqb t.kind index_allocation ≡ false → stream_kind t ≡ Index → ⊥
unfolding stream_kind
not_allocation t none = two_kinds (holds_records t) (eqb t.kind index_allocation) none
  where
    two_kinds : (x y : Bool) → y ≡ false → cond x FileRec (cond y Index Plain) ≡ Index → ⊥
    two_kinds true y no_index is = absurd cc
    two_kinds false true no_index is = absurd cc
    two_kinds false false no_index is = absurd cc

-- what is put to a file and to streams is put so
pub as_fresh : (streams : StreamKey → Bool) (v : Volume) (n kind : ℕ) (name : List ℕ) (s : Record) (bodies : List NewBody) → PutsFile streams v n s bodies → PutsFresh streams v n kind name s bodies
as_fresh streams v n kind name s bodies puts = record { whole = puts.whole; anew = puts.anew; each = all_by (λ p. IsOwnedIn streams v p.block ⊎ (block_at v.per v.table.runs FileRec n ≡ Some p.block)) (λ p. IsOwnedIn streams v p.block ⊎ (block_at v.per v.table.runs FileRec n ≡ Some p.block) ⊎ (IsFreshIn v (with_record v n s) (key_of n kind name) p.block × (index_allocation ≢ kind))) widen bodies puts.each }
  where
    widen : (p : NewBody) → IsOwnedIn streams v p.block ⊎ (block_at v.per v.table.runs FileRec n ≡ Some p.block) → IsOwnedIn streams v p.block ⊎ (block_at v.per v.table.runs FileRec n ≡ Some p.block) ⊎ (IsFreshIn v (with_record v n s) (key_of n kind name) p.block × (index_allocation ≢ kind))
    widen p (inl owned) = inl owned
    widen p (inr its) = inr (inl its)

-- ---- nodes

pub kind_by : Bool → Bool → Bool → Bool → Kind
kind_by directory system unread unchanged = cond directory Directory (cond system System (cond unread Opaque (cond unchanged Fixed File)))

pub node_of : ℕ → ℕ → Kind → Option Why → Bool → Option Stream → List ℕ → StdInfo → Node
node_of n seq kind why held shown bytes info = record {
  number = n;
  seq = seq;
  kind = kind;
  why = why;
  held = held;
  size = size_or shown;
  valid = valid_or shown;
  clusters = clusters_or shown;
  bytes = bytes;
  flags = info.flags;
  created = info.created;
  modified = info.modified;
  changed = info.changed;
  read_at = info.read_at;
}

pub mapped : (f : Node → Node) (t : Bool) (a : Node) → cond t None (Some (f a)) ≡ option_map f (cond t None (Some a))
mapped f true a = refl
mapped f false a = refl

-- ---- the pairs of a record in use

pub slot_open : (c : Content) (v : Volume) (n : ℕ) (r : Record) → table_slot c v.per v.table n ≡ Used r → cond (leb v.table.initialised (1024 * n)) Free (slot_at c (block_at v.per v.table.runs FileRec n)) ≡ Used r
unfolding table_slot
slot_open c v n r is = is

pub whole_pairs : (o : Result Record ℕ) (r : Record) → (o >>= λ x. needs {F = ℕ} (has_all_pairs x) 7 >>= λ y. needs {F = ℕ} (has_lawful_values x) 8 >>= λ z. Ok x) ≡ Ok r → has_all_pairs r ≡ true
whole_pairs (Err rule) r is = absurd cc
whole_pairs (Ok x) r is = chosen (has_all_pairs x) (has_lawful_values x) refl is
  where
    chosen : (s t : Bool) → has_all_pairs x ≡ s → (needs {F = ℕ} s 7 >>= λ y. needs {F = ℕ} t 8 >>= λ z. Ok x) ≡ Ok r → has_all_pairs r ≡ true
    chosen true true all same = (let e : x ≡ r = cc in ap has_all_pairs (sym e) ∙ all)
    chosen true false all same = absurd cc
    chosen false t all same = absurd cc

pub used_pairs : (initialised at : ℕ) (c : Content) (o : Option Block) (r : Record) → cond (leb initialised at) Free (slot_at c o) ≡ Used r → list_all has_fitting_pairs r.attrs ≡ true
unfolding slot_of whole_record has_all_pairs
used_pairs initialised at c o r is = by_test (leb initialised at) o is
  where
    by_test : (t : Bool) (b : Option Block) → cond t Free (slot_at c b) ≡ Used r → list_all has_fitting_pairs r.attrs ≡ true
    by_test true b same = absurd cc
    by_test false None same = absurd cc
    by_test false (Some b) same = whole_pairs (shaped_at (c b).bytes) r (read_in_use (c b).torn (is_used (c b).bytes) (whole_record (c b).bytes) r same).2

module _ (c : Content) (g : Geometry) (clusters : ℕ) (v : Volume) (n kind : ℕ) (name : List ℕ) (r : Record) (old : Stream) (f : Extents) (taken given : ℕ → ℕ) (bodies : List NewBody) (sized : HasSizes c) (eight : g.per_cluster ≡ 8) (state : Stands c g clusters v)
    (own_stream : IsOwnStream v n kind name r old) (streams : StreamKey → Bool) (only : MayPutTo n kind name streams) (s : Record) (written : IsWritten (placed_record v.per kind name f r) s) (put_file : PutsFresh streams v n kind name s bodies)
    (k : Follows c (content_with c bodies) v n kind name r old f taken given) where
  abbrev d : Content
  d = content_with c bodies

  abbrev p : Record
  p = placed_record v.per kind name f r

  abbrev writes : List Write
  writes = writes_in bodies

  abbrev edits : List FileEdit
  edits = record { number = n; file = Some s } ∷ []

  abbrev files : List (Option Record)
  files = with_edits edits v.files

  abbrev w : Volume
  w = with_record v n s

  abbrev touched : ℕ → Bool
  touched = is_edited edits

  abbrev inside : ℕ → Bool
  inside m = true

  per_8 : v.per ≡ 8
  per_8 = per_is c g clusters v eight state

  -- ---- its record

  some : (a : Attr) × (others : List Attr) × (attributes_of kind name r.attrs ≡ a ∷ others)
  unfolding stream_of
  some = some_attributes (attributes_of kind name r.attrs) old own_stream.stream

  own : OwnRecord c v n r
  own = own_record c g clusters v n r state own_stream.file own_stream.no_list

  all_pairs : list_all has_fitting_pairs r.attrs ≡ true
  unfolding has_all_pairs
  all_pairs = used_pairs v.table.initialised (1024 * n) c (block_at v.per v.table.runs FileRec n) r (slot_open c v n r own.slot)

  reads : All Reads p.attrs
  reads = placed_all v.per kind name f r some.0 some.1 some.2 k.spelled Reads (placed_reads v.per f some.0 k.spelled) (all_read r.attrs all_pairs)

  seq_now : s.head.seq ≡ r.head.seq
  seq_now = written.seq ∙ ap (λ (h : RecHead). h.seq) (placed_head v.per kind name f r some.0 some.1 some.2 k.spelled)

  types_now : (t : ℕ) → has_type t s ≡ has_type t r
  types_now t = written_types p s written reads t ∙ placed_types v.per kind name f r some.0 some.1 some.2 k.spelled t

  directory_now : is_directory_record s ≡ is_directory_record r
  directory_now = written_directory p s written reads ∙ placed_directory v.per kind name f r some.0 some.1 some.2 k.spelled

  not_info : standard_information ≢ kind
  not_info same = both_ways (eqb kind standard_information) own_stream.placeable.not_info (eq-eqb kind standard_information (sym same))

  not_name : file_name ≢ kind
  not_name same = both_ways (eqb kind file_name) own_stream.placeable.not_name (eq-eqb kind file_name (sym same))

  links_now : record_links n s ≡ record_links n r
  links_now = written_links p s written reads n ∙ placed_links v.per kind name f r some.0 some.1 some.2 k.spelled n not_name

  stream_now : stream_of kind name s.attrs ≡ Some (Placed f)
  stream_now = written_stream p s written reads kind name ∙ placed_is_there v.per kind name f r some.0 some.1 some.2 k.spelled

  others_now : (other : ℕ) (alias : List ℕ) → (other ≢ kind) ⊎ (alias ≢ name) → stream_of other alias s.attrs ≡ stream_of other alias r.attrs
  others_now other alias differ = written_stream p s written reads other alias ∙ other_stream v.per kind name f r some.0 some.1 some.2 k.spelled other alias differ

  -- what holds of a stream after it held before, where it holds of the new one so
  either : (P Q : Option Stream → Type 0) (other : ℕ) (alias : List ℕ) → (other ≡ kind → alias ≡ name → P (Some old) → Q (Some (Placed f))) → ((o : Option Stream) → P o → Q o) → P (stream_of other alias r.attrs) → Q (stream_of other alias s.attrs)
  either P Q other alias here elsewhere before = elim (same_or_other kind other name alias) [
    | inl same ↦
        (let was : stream_of other alias r.attrs ≡ Some old = ap₂ (λ (x : ℕ) (l : List ℕ). stream_of x l r.attrs) same.0 same.1 ∙ own_stream.stream in
        let is : stream_of other alias s.attrs ≡ Some (Placed f) = ap₂ (λ (x : ℕ) (l : List ℕ). stream_of x l s.attrs) same.0 same.1 ∙ stream_now in
        subst Q (sym is) (here same.0 same.1 (subst P was before)))
    | inr differ ↦ subst Q (sym (others_now other alias differ)) (elsewhere (stream_of other alias r.attrs) before)
  ]

  below : n < count_of v
  below = inside_list v.files n r (some_file v n r own_stream.file)

  slot : table_slot d v.per v.table n ≡ Used s
  slot = slot_put c v n s bodies put_file.anew.block put_file.anew.bytes sized put_file.whole (slot_begins c v n r own.slot) put_file.anew.place put_file.anew.put put_file.anew.reads

  base : is_base_record s ≡ true
  base =
      ap (λ (x : FileRef). eqb x.number 0 && eqb x.seq 0) written.base
      ∙ ap (λ (h : RecHead). eqb h.base.number 0 && eqb h.base.seq 0) (placed_head v.per kind name f r some.0 some.1 some.2 k.spelled)
      ∙ own.base

  no_list_now : has_type attribute_list s ≡ false
  no_list_now = types_now attribute_list ∙ own_stream.no_list

  -- ---- which files are touched

  at_own : touched n ≡ true
  at_own = or_left (eqb n n) false (eq-eqb n n refl)

  others_not : (m : ℕ) → m ≢ n → touched m ≡ false
  others_not m other = ap (λ (t : Bool). t || false) (ne_eqb n m (λ same. other (sym same)))

  not_other : (m : ℕ) → touched m ≡ false → m ≢ n
  not_other m is same = both_ways (touched m) is (ap touched same ∙ at_own)

  here : (P : ℕ → Type 0) → P n → (m : ℕ) → touched m ≡ true → P m
  here P holds m is = elim (cases_eq m n) [
    | inl same ↦ subst P (sym same) holds
    | inr other ↦ absurd (both_ways (touched m) (others_not m other) is)
  ]

  differs : OneFileDiffers n v.files files
  differs = record {
    count = length-with_edits v.files edits;
    others = λ m other. other_file v.files edits m ((λ same. other (sym same)), tt);
  }

  pub at_n : file_in w n ≡ Some s
  unfolding file_at
  at_n = as_file (get_or (with_edits edits v.files) n None) s (edited_files v.files edits (below, tt, tt)).0 base

  names : KeepsNames n (table_in v.files) (table_in files)
  unfolding links_at
  names = ap (file_links n) at_n ∙ links_now ∙ sym (ap (file_links n) own_stream.file)

  all_named : (m : ℕ) → links_at (table_in files) m ≡ links_at (table_in v.files) m
  all_named = names_everywhere (table_in v.files) (table_in files) n differs.others names

  directories : (m : ℕ) → KeepsDirectory m (table_in v.files) (table_in files)
  directories m seq =
      let before = table_in v.files in
      let after = table_in files in
      this_or_other (λ (x : ℕ). is_directory_with seq (file_at after x) ≡ is_directory_with seq (file_at before x)) n m (keeps_both before after n r s own_stream.file at_n seq_now directory_now seq)
      (λ other. ap (is_directory_with seq) (file_elsewhere before after n m differs.others other))

  touches : TouchesFiles touched inside v.files files
  touches = record {
    count = differs.count;
    others = λ m is. differs.others m (not_other m is);
    places = all_keep (table_in v.files) (table_in files) all_named directories;
    within = λ m is. refl;
  }

  -- ---- the writes

  as_write : (p : NewBody) → IsOwnedIn streams v p.block ⊎ (block_at v.per v.table.runs FileRec n ≡ Some p.block) ⊎ (IsFreshIn v (with_record v n s) (key_of n kind name) p.block × (index_allocation ≢ kind)) → IsInStream streams v (whole_write p) ⊎ IsInRecord touched v (whole_write p) ⊎ LiesFree v (whole_write p).block
  as_write p (inl owned) = inl (record { stream = owned.stream; chosen = owned.chosen; kind = stream_kind owned.stream; number = owned.number; lies = owned.lies })
  as_write p (inr (inl its)) = inr (inl (record { number = n; chosen = at_own; lies = its }))
  as_write p (inr (inr fresh)) = inr (inr fresh.0.free)

  each_write : (more : List NewBody) → AllByRecursion (λ p. IsOwnedIn streams v p.block ⊎ (block_at v.per v.table.runs FileRec n ≡ Some p.block) ⊎ (IsFreshIn v (with_record v n s) (key_of n kind name) p.block × (index_allocation ≢ kind))) more → AllByRecursion (λ x. IsInStream streams v x ⊎ IsInRecord touched v x ⊎ LiesFree v x.block) (writes_in more)
  each_write [] all = tt
  each_write (p ∷ more) all = (as_write p all.0, each_write more all.1)

  -- which streams are put to
  no_lists : attribute_list ≢ kind
  no_lists same = both_ways (has_type attribute_list r) own_stream.no_list (ap (λ (x : ℕ). has_type x r) same ∙ stream_type kind name r some.0 some.1 some.2)

  spared : (t : StreamKey) → marks_streams t ≡ false → t ≢ key_of n kind name → streams t ≡ false
  spared t no_mark other = false_from_ne_true (streams t) (λ chosen. elim (only t chosen) [
    | inl mark ↦ both_ways (marks_streams t) no_mark mark
    | inr itself ↦ other itself.0
  ])

  spared_index : (m : ℕ) (alias : List ℕ) → streams (record { file = m; kind = index_allocation; name = alias }) ≡ false
  spared_index m alias = false_from_ne_true (streams (record { file = m; kind = index_allocation; name = alias })) (λ chosen. elim (only (record { file = m; kind = index_allocation; name = alias }) chosen) [
    | inl mark ↦ both_ways (marks_streams (record { file = m; kind = index_allocation; name = alias })) (not_marks m index_allocation alias (λ e. omega (arith, e))) mark
    | inr itself ↦ itself.1 (ap (λ (t : StreamKey). t.kind) itself.0)
  ])

  no_allocation : (t : StreamKey) → streams t ≡ true → eqb t.kind index_allocation ≡ false
  no_allocation t chosen = elim (only t chosen) [
    | inl mark ↦
        (let own_file : Bool = eqb t.file bitmap_file || eqb t.file mirror_file in
        let kind_is : eqb t.kind data_type ≡ true = (and_parts own_file (eqb t.kind data_type) (and_parts (own_file && eqb t.kind data_type) (pointwise nat_eq t.name []) mark).0).1 in
        ne_eqb t.kind index_allocation (λ e. (let data_is : t.kind ≡ data_type = eqb-true t.kind data_type kind_is in omega (arith, e, data_is))))
    | inr itself ↦ ne_eqb t.kind index_allocation (λ e. itself.1 (sym e ∙ ap (λ (x : StreamKey). x.kind) itself.0))
  ]

  not_index_kind : (p : NewBody) → IsOwnedIn streams v p.block ⊎ (block_at v.per v.table.runs FileRec n ≡ Some p.block) ⊎ (IsFreshIn v (with_record v n s) (key_of n kind name) p.block × (index_allocation ≢ kind)) → Index ≢ p.block.kind
  unfolding stream_kind
  not_index_kind p (inl owned) same =
      let its : stream_kind owned.stream ≡ p.block.kind = (lies v.per (runs_in (stream_at v owned.stream)) (stream_kind owned.stream) owned.number p.block owned.lies).kind_is in
      not_allocation owned.stream (no_allocation owned.stream owned.chosen) (its ∙ sym same)
  not_index_kind p (inr (inl its)) same = let kind_is : FileRec ≡ p.block.kind = (lies v.per v.table.runs FileRec n p.block its).kind_is in absurd cc
  not_index_kind p (inr (inr fresh)) same =
      let its : stream_kind (key_of n kind name) ≡ p.block.kind = (lies v.per (runs_in (stream_at (with_record v n s) (key_of n kind name))) (stream_kind (key_of n kind name)) fresh.0.number p.block fresh.0.lies).kind_is in
      not_allocation (key_of n kind name) (ne_eqb kind index_allocation (λ e. fresh.1 (sym e))) (its ∙ sym same)

  no_void : (more : List NewBody) → AllByRecursion (λ p. IsOwnedIn streams v p.block ⊎ (block_at v.per v.table.runs FileRec n ≡ Some p.block) ⊎ (IsFreshIn v (with_record v n s) (key_of n kind name) p.block × (index_allocation ≢ kind))) more → AllByRecursion (λ (x : Write). same_block void_block x.block ≡ false) (writes_in more)
  no_void [] all = tt
  no_void (p ∷ more) all = (void_apart p.block (not_index_kind p all.0), no_void more all.1)

  not_shown : (m : ℕ) (q : Record) → m ≢ n → shows_data (kind_in v m q) ≡ true → streams (record { file = m; kind = data_type; name = [] }) ≡ false
  not_shown m q other shown =
      spared (record { file = m; kind = data_type; name = [] }) (not_marked m [] (λ same. no_system_shown v m q (omega (arith, same)) shown) (λ same. no_system_shown v m q (omega (arith, same)) shown))
      (λ same. other (ap (λ (t : StreamKey). t.file) same))

  no_upcase : streams (record { file = upcase_file; kind = data_type; name = [] }) ≡ false
  no_upcase = spared (record { file = upcase_file; kind = data_type; name = [] }) refl (λ same. own_stream.apart.upcase (sym (ap (λ (t : StreamKey). t.file) same)))

  uncut_runs : (count : ℕ) (runs : List Run) → list_any (cuts_block v.per Index count) runs ≡ false
  uncut_runs count [] = refl
  uncut_runs count (x ∷ runs) =
      or_from _ _
      (or_from _ _
      (ap (is_inside_block Index count) (ap (λ (p : ℕ). x.vcn * p) per_8 ∙ omega arith) ∙ inside_none count x.vcn)
      (ap (is_inside_block Index count) (ap (λ (p : ℕ). (x.vcn + x.len) * p) per_8 ∙ omega arith) ∙ inside_none count (x.vcn + x.len)))
      (uncut_runs count runs)

  uncut_stream : (o : Option Stream) → has_cut_index_block v.per o ≡ false
  unfolding has_cut_block
  uncut_stream None = refl
  uncut_stream (Some (Held value)) = refl
  uncut_stream (Some (Placed e)) = uncut_runs _ e.runs

  alone : StandsAlone v.per (Used s)
  alone = (no_list_stream s no_list_now, none_of_two (is_directory_record s) _ (uncut_stream (stream_of index_allocation names_index s.attrs)))

  puts : WritesFiles streams c v writes edits
  puts = record {
    distinct = (below, tt, tt);
    no_table = (own_stream.apart.table, tt);
    own = (inl (r, own_stream.file), tt);
    alone = (subst (λ (x : Slot). StandsAlone v.per x) (sym slot) alone, tt);
    files = (sym (file_slot d v n s slot base), tt);
    each = each_write bodies put_file.each;
    table = spared table_key refl (λ same. own_stream.apart.table (sym (ap (λ (t : StreamKey). t.file) same)));
    lists = λ m alias. spared (record { file = m; kind = attribute_list; name = alias }) (not_marks m attribute_list alias (λ e. omega (arith, e))) (λ same. no_lists (ap (λ (t : StreamKey). t.kind) same));
    spares = record {
      sized = sized;
      void = no_void bodies put_file.each;
      upcase = no_upcase;
      free = λ m low other clear. other;
      indexes = λ m q other is directory. spared_index m names_index;
      shown = λ m q other is shown. not_shown m q (not_other m other) shown;
    };
  }

  within : WritesWithin streams touched c g clusters v writes
  within = written_within streams c g clusters v writes edits state puts

  marked : bit (record_bits c v) n ≡ true
  marked = marked_in_use c v n (rules_of c v state.kept).rule_7 below (slot_in_use c v n r own.slot)

  shows_none : (m : ℕ) → is_directory_record r ≡ true → shows_data (kind_in v m r) ≡ true → ⊥
  unfolding kind_in
  shows_none m directory shown = (let none : false ≡ true = sym (rw directory refl) ∙ shown in absurd cc)

  -- no other record is written to, whether or not it is marked; a directory shows no data
  all_spared : is_directory_record r ≡ true → SparesOthers (λ m. false) streams touched c v writes
  all_spared directory = record {
    sized = sized;
    void = no_void bodies put_file.each;
    upcase = no_upcase;
    free = λ m low other clear. others_not m (λ same. both_ways (bit (record_bits c v) m) clear (ap (bit (record_bits c v)) same ∙ marked));
    indexes = λ m q other is directory. spared_index m names_index;
    shown = λ m q other is shown. not_shown m q (λ same. shows_none m directory (ap (λ (x : Record). shows_data (kind_in v m x)) (from_some r q (sym own_stream.file ∙ sym (ap (file_in v) same) ∙ is)) ∙ shown)) shown;
  }

  not_entries : (m : ℕ) → record { file = m; kind = data_type; name = entries_name } ≢ key_of n kind name
  not_entries m same = elim own_stream.no_entries [
    | inl kinds ↦ kinds (ap (λ (t : StreamKey). t.kind) same)
    | inr names_differ ↦ names_differ (ap (λ (t : StreamKey). t.name) same)
  ]

  agree : AgreeBut n c d v
  unfolding entries_name
  agree = planned_agree n streams touched c g clusters v writes within (record {
    sized = sized;
    void = no_void bodies put_file.each;
    upcase = no_upcase;
    free = λ m low other clear. others_not m (eqb-false m n other);
    indexes = λ m q other is directory. spared_index m names_index;
    shown = λ m q other is shown. not_shown m q (λ same. both_ways (eqb m n) other (eq-eqb m n same)) shown;
  }) marked (spared (record { file = table_file; kind = bitmap_type; name = [] }) (not_marks table_file bitmap_type [] (λ e. omega (arith, e))) (λ same. own_stream.apart.table (sym (ap (λ (t : StreamKey). t.file) same)))) (λ m is. spared (record { file = m; kind = data_type; name = entries_name }) (not_named m data_type 0x24 (0x4A ∷ [])) (not_entries m))

  -- what a stream reads that isn't put to stays
  pub reads_on : (t : StreamKey) → streams t ≡ false → table_key ≢ t → bytes_or d v.per (stream_at v t) ≡ bytes_or c v.per (stream_at v t)
  reads_on t apart other = bytes_stay c writes v.per (stream_at v t) (planned_bytes streams touched c g clusters v writes t within apart other)

  -- ---- the parts of the volume

  upper_now : upper_of d w ≡ upper_of c v
  upper_now = upper_stays d v files n differs own_stream.apart.upcase ∙ same_upper c d v agree.upper

  bits_now : record_bits d w ≡ record_bits c v
  bits_now = record_bits_stay d v files n differs own_stream.apart.table ∙ same_record_bits c d v agree.bits

  pub marks_now : cluster_bits d w ≡ cluster_bits d v
  marks_now = cluster_bits_stay d v files n differs own_stream.apart.bitmap

  flags_same : entries_flags s ≡ entries_flags r
  unfolding entries_flags
  flags_same =
      written_flags p s written reads data_type entries_name ∙ ap first_flags (other_pieces v.per kind name f r some.0 some.1 some.2 k.spelled data_type entries_name own_stream.no_entries)

  -- limits that stand in clusters are none, wherever they lie
  limits_in_clusters : (e : Extents) (flags : ℕ) (o : Option Stream) → journal_of_streams d v.per flags (Some (Placed f)) o ≡ journal_of_streams d v.per flags (Some (Placed e)) o
  limits_in_clusters e flags None = refl
  limits_in_clusters e flags (Some j) = refl

  own_journal : journal_of_file d v.per (Some s) ≡ journal_of_file d v.per (Some r)
  own_journal =
      ap₂ (λ (x : ℕ) (o : Option Stream). journal_of_streams d v.per x (stream_of data_type limits_name s.attrs) o) flags_same (others_now data_type entries_name own_stream.no_entries)
      ∙ elim (same_or_other kind data_type name limits_name) [
        | inl same ↦
            (let e = k.limits same.1 in
            ap (λ (o : Option Stream). journal_of_streams d v.per (entries_flags r) o (stream_of data_type entries_name r.attrs)) (ap₂ (λ (x : ℕ) (l : List ℕ). stream_of x l s.attrs) same.0 same.1 ∙ stream_now)
            ∙ limits_in_clusters e.0 (entries_flags r) (stream_of data_type entries_name r.attrs)
            ∙ sym (ap (λ (o : Option Stream). journal_of_streams d v.per (entries_flags r) o (stream_of data_type entries_name r.attrs)) (ap₂ (λ (x : ℕ) (l : List ℕ). stream_of x l r.attrs) same.0 same.1 ∙ own_stream.stream ∙ ap (λ (x : Stream). Some x) e.1)))
        | inr differ ↦ ap (λ (o : Option Stream). journal_of_streams d v.per (entries_flags r) o (stream_of data_type entries_name r.attrs)) (others_now data_type limits_name differ)
      ]

  journal_with : (o : Option ℕ) → journal_of_file d w.per (file_or_none w o) ≡ journal_of_file d v.per (file_or_none v o)
  journal_with None = refl
  journal_with (Some m) =
      this_or_other (λ (x : ℕ). journal_of_file d v.per (file_in w x) ≡ journal_of_file d v.per (file_in v x)) n m
      (ap (journal_of_file d v.per) at_n ∙ own_journal ∙ sym (ap (journal_of_file d v.per) own_stream.file))
      (λ other. ap (journal_of_file d v.per) (file_elsewhere (table_in v.files) (table_in files) n m differs.others other))

  pub journal_now : journal_of d (upper_of d w) w ≡ journal_of c (upper_of c v) v
  unfolding journal_of journal_file
  journal_now =
      ap (λ (u : List ℕ). journal_of d u w) upper_now
      ∙ ap (λ (o : Option ℕ). journal_of_file d w.per (file_or_none w o)) (number_stays v files (upper_of c v) n differs names)
      ∙ journal_with (journal_number (upper_of c v) v)
      ∙ same_journal c d v (upper_of c v) agree.journal

  index_now : is_directory_record r ≡ true → index_links d v.per (upper_of c v) s ≡ index_links c v.per (upper_of c v) r
  unfolding index_links index_place index_stream
  index_now directory =
      let place : List Block → Place = λ l. record { blocks = l; step = 8 / v.per } in
      ap₂ (λ (l : List Block) (x : Option (List ℕ)). links_below d (place l) (upper_of c v) x) same_blocks (written_root p s written reads ∙ placed_root v.per kind name f r some.0 some.1 some.2 k.spelled own_stream.no_root)
      ∙ same_links c d v.per (upper_of c v) r (same_index_at (λ m. false) streams touched c g clusters v writes within (all_spared directory) n refl r own_stream.file directory)
    where
      same_blocks : stream_blocks v.per (stream_of index_allocation names_index s.attrs) ≡ stream_blocks v.per (stream_of index_allocation names_index r.attrs)
      same_blocks = elim (same_or_other kind index_allocation name names_index) [
        | inl same ↦
            ap (stream_blocks v.per) (ap₂ (λ (x : ℕ) (l : List ℕ). stream_of x l s.attrs) same.0 same.1 ∙ stream_now)
            ∙ k.blocks same.0 same.1
            ∙ sym (ap (stream_blocks v.per) (ap₂ (λ (x : ℕ) (l : List ℕ). stream_of x l r.attrs) same.0 same.1 ∙ own_stream.stream))
        | inr differ ↦ ap (stream_blocks v.per) (others_now index_allocation names_index differ)
      ]

  -- ---- its clusters

  file_clusters : (x : ℕ) → uses (file_runs (table_in files n)) x + uses (runs_in (Some old)) x ≡ uses (file_runs (table_in v.files n)) x + uses f.runs x
  file_clusters x =
      let now : uses (file_runs (table_in files n)) x ≡ uses (file_runs (Some s)) x = ap (λ (o : Option Record). uses (file_runs o) x) (edited_files v.files edits (below, tt, tt)).0 in
      let was : uses (file_runs (table_in v.files n)) x ≡ uses (file_runs (Some r)) x = ap (λ (o : Option Record). uses (file_runs o) x) (some_file v n r own_stream.file) in
      let sums = placed_uses v.per kind name f r some.0 some.1 some.2 k.spelled x in
      let as_written : uses (file_runs (Some s)) x ≡ uses (file_runs (Some p)) x = ap (λ (l : List Run). uses l x) (written_runs p s written reads) in
      let before = k.before x in
      omega (arith, now, was, sums, as_written, before)

  -- what the volume has of a cluster changes by what is taken and given back
  pub all_clusters : (x : ℕ) → uses (volume_runs files) x + given x ≡ uses (volume_runs v.files) x + taken x
  all_clusters x =
      let sums = clusters_replaced v.files files n x differs in
      let own_sum = file_clusters x in
      let balance = k.balance x in
      omega (arith, sums, own_sum, balance)

  bit_now : (x : ℕ) → bit (cluster_bits d w) x ≡ bit (cluster_bits d v) x
  bit_now x = ap (λ (l : List Bool). bit l x) marks_now

  clusters_follow : TakesClusters taken given v.clusters (cluster_bits c v) (cluster_bits d (with_files v files)) v.files files
  clusters_follow = record {
    balance = λ x low. all_clusters x;
    clear = k.clear;
    marked = k.marked;
    not_taken = λ x low is. k.not_taken x low (sym (bit_now x) ∙ is);
    freed = λ x low was is. k.freed x low was (sym (bit_now x) ∙ is);
  }

  -- ---- the rules

  old_1 : keeps_names n r (record_links n r) ≡ true
  unfolding broken_1 keeps_1
  old_1 = sym (ap (at_file (λ q. keeps_names n q (record_links n q))) own_stream.file) ∙ passes_below (keeps_1 (files_by_number v)) (count_of v) (rules_of c v state.kept).rule_1 n below

  new_1 : keeps_1 (table_in files) n ≡ true
  unfolding keeps_1
  new_1 =
      ap (at_file (λ q. keeps_names n q (record_links n q))) at_n
      ∙ ap (keeps_names n s) links_now
      ∙ written_names p s written reads n (record_links n r)
      ∙ placed_names v.per kind name f r some.0 some.1 some.2 k.spelled n (record_links n r)
      ∙ old_1

  index_test : Content → Volume → Record → Bool
  index_test x u q = implies (is_directory_record q) (lists_names (upper_of c v) (files_by_number u) (count_of u) (reference n q) (index_links x u.per (upper_of c v) q))

  old_3 : index_test c v r ≡ true
  unfolding broken_3 keeps_index index_test
  old_3 = sym (ap (at_file (index_test c v)) own_stream.file) ∙ passes_below (keeps_index c v (upper_of c v)) (count_of v) (rules_of c v state.kept).rule_3 n below

  listed_now : is_directory_record r ≡ true
      → lists_names (upper_of c v) (files_by_number w) (count_of w) (reference n s) (index_links d w.per (upper_of c v) s) ≡ lists_names (upper_of c v) (files_by_number v) (count_of v) (reference n r) (index_links c v.per (upper_of c v) r)
  listed_now directory =
      let upper = upper_of c v in
      let before = table_in v.files in
      let after = table_in files in
      ap (λ (q : ℕ). lists_names upper after (length files) (record { number = n; seq = q }) (index_links d v.per upper s)) seq_now
      ∙ ap (λ (o : Option (List Link)). lists_names upper after (length files) (reference n r) o) (index_now directory)
      ∙ ap (λ (x : ℕ). lists_names upper after x (reference n r) (index_links c v.per upper r)) differs.count
      ∙ same_listed upper before after (count_of v) (reference n r) (index_links c v.per upper r) (same_name_in before after (reference n r) all_named) (same_count before after (reference n r) (count_of v) all_named)

  new_3 : keeps_index d w (upper_of c v) n ≡ true
  unfolding keeps_index index_test
  new_3 = ap (at_file (index_test d w)) at_n ∙ elim (cases_Bool (is_directory_record r)) [
    | inl directory ↦
        ap₂ implies directory_now (listed_now directory) ∙ old_3
    | inr none ↦ ap (λ (t : Bool). implies t (lists_names (upper_of c v) (files_by_number w) (count_of w) (reference n s) (index_links d w.per (upper_of c v) s))) (directory_now ∙ none)
  ]

  -- a test of no hole in a stream, and of none torn
  hole_kept : (t : Bool) (other : ℕ) (alias : List ℕ) → implies t (not (has_hole (stream_of other alias r.attrs))) ≡ true → implies t (not (has_hole (stream_of other alias s.attrs))) ≡ true
  hole_kept t other alias was =
      either (λ o. implies t (not (has_hole o)) ≡ true) (λ o. implies t (not (has_hole o)) ≡ true) other alias (λ same alike is. asked t (has_hole (Some old)) (has_hole (Some (Placed f))) k.holes is) (λ o is. is) was

  both_kept : (t : Bool) → implies t (not (has_hole (stream_of index_allocation names_index r.attrs)) && not (has_hole (stream_of bitmap_type names_index r.attrs))) ≡ true
      → implies t (not (has_hole (stream_of index_allocation names_index s.attrs)) && not (has_hole (stream_of bitmap_type names_index s.attrs))) ≡ true
  both_kept false was = refl
  both_kept true was = let parts = and_parts _ _ was in and_from _ _ (hole_kept true index_allocation names_index parts.0) (hole_kept true bitmap_type names_index parts.1)

  streams_now : keeps_streams d v n r ≡ true → keeps_streams d w n s ≡ true
  streams_now was =
      let test = sym (by_test d v n r) ∙ was in
      let torn_parts = and_parts _ _ test in
      let table_parts = and_parts _ _ torn_parts.0 in
      let hole_parts = and_parts _ _ table_parts.0 in
      let whole_parts = and_parts _ _ hole_parts.1 in
      let first_parts = and_parts _ _ whole_parts.0 in
      let untorn = and_parts _ _ torn_parts.1 in
      by_test d w n s
      ∙ ap (λ (t : Bool). streams_test d v.per n (list_all (keeps_stream v.per v.clusters s.attrs) s.attrs) t (stream_of data_type [] s.attrs) (stream_of bitmap_type [] s.attrs) (stream_of index_allocation names_index s.attrs) (stream_of bitmap_type names_index s.attrs)) directory_now
      ∙ and_from _ _
      (and_from _ _
      (and_from _ _
      (written_sizes p s written reads v.per v.clusters ∙ placed_sizes v.per kind name f r some.0 some.1 some.2 k.spelled v.per v.clusters k.fits hole_parts.0)
      (and_from _ _ (and_from _ _ (hole_kept (is_whole_file n) data_type [] first_parts.0) (hole_kept (eqb n table_file) bitmap_type [] first_parts.1)) (both_kept (is_directory_record r) whole_parts.1)))
      (ap (λ (t : Bool). implies t (is_initialised (stream_of data_type [] s.attrs))) (ne_eqb n table_file own_stream.apart.table)))
      (and_from _ _ (torn_kept ((eqb n table_file) || (eqb n mirror_file)) FileRec 1024 data_type [] (λ mirror type alike. k.records (is_mirror mirror) type alike) untorn.0) (torn_kept (is_directory_record r) Index 4096 index_allocation names_index (λ directory. k.nodes) untorn.1))
    where
      is_mirror : (eqb n table_file || eqb n mirror_file) ≡ true → n ≡ mirror_file
      is_mirror is = eqb-true n mirror_file (sym (ap (λ (t : Bool). t || eqb n mirror_file) (ne_eqb n table_file own_stream.apart.table)) ∙ is)

      torn_kept : (t : Bool) (block_kind : BlockKind) (size other : ℕ) (alias : List ℕ) → (t ≡ true → other ≡ kind → alias ≡ name → stream_has_torn d v.per block_kind size (Some old) ≡ false → stream_has_torn d v.per block_kind size (Some (Placed f)) ≡ false)
          → implies t (not (stream_has_torn d v.per block_kind size (stream_of other alias r.attrs))) ≡ true → implies t (not (stream_has_torn d v.per block_kind size (stream_of other alias s.attrs))) ≡ true
      torn_kept false block_kind size other alias less was = refl
      torn_kept true block_kind size other alias less was =
          either (λ o. implies true (not (stream_has_torn d v.per block_kind size o)) ≡ true) (λ o. implies true (not (stream_has_torn d v.per block_kind size o)) ≡ true) other alias
          (λ same alike is. asked true (stream_has_torn d v.per block_kind size (Some old)) (stream_has_torn d v.per block_kind size (Some (Placed f))) (less refl same alike) is) (λ o is. is) was

  new_4 : keeps_sizes d w n ≡ true
  unfolding keeps_sizes
  new_4 =
      let kept : keeps_sizes d v n ≡ true = kept_sizes c d v n agree.torn (rule_4_at c g clusters v n state (omega (arith, below))) in
      let was : keeps_streams d v n r ≡ true = sym (ap (at_file (keeps_streams d v n)) own_stream.file) ∙ (and_parts _ _ kept).0 in
      sizes_from d w n s at_n own_stream.apart.table own_stream.apart.bitmap (streams_now was)

  new_7 : keeps_record_bit d w n ≡ true
  unfolding keeps_record_bit
  new_7 =
      rule_7 d v files n n differs own_stream.apart.table
      ∙ implied (is_in_use d v n) (bit (record_bits d v) n) (ap (λ (l : List Bool). bit l n) (same_record_bits c d v agree.bits) ∙ marked)

  new_9 : broken_9 d w ≡ None
  unfolding broken_9
  new_9 = ap fault_of journal_now ∙ (rules_of c v state.kept).rule_9

  outside : (P : Type 0) (m : ℕ) → inside m ≡ false → P
  outside P m is = absurd cc

  keeps : KeepsTouched touched inside c d v w
  keeps = record {
    upcase = others_not upcase_file (λ same. own_stream.apart.upcase (sym same));
    rule_1 = λ m low. here (λ (x : ℕ). keeps_1 (table_in files) x ≡ true) new_1 m;
    rule_2 = λ m low. outside (keeps_2 (table_in files) m ≡ true) m;
    rule_3 = λ m low. here (λ (x : ℕ). keeps_index d w (upper_of c v) x ≡ true) new_3 m;
    listed = λ m j q other is directory. outside (names_there (reference m q) (links_at (table_in files) j) ≡ names_there (reference m q) (links_at (table_in v.files) j)) j;
    rule_4 = λ m low. here (λ (x : ℕ). keeps_sizes d w x ≡ true) new_4 m;
    rule_5 = takes_5 taken given c d v files (rules_of c v state.kept).rule_5 (rules_of c v state.kept).rule_6 clusters_follow;
    rule_6 = takes_6 taken given c d v files (rules_of c v state.kept).rule_5 (rules_of c v state.kept).rule_6 clusters_follow;
    rule_7 = λ m low. here (λ (x : ℕ). keeps_record_bit d w x ≡ true) new_7 m;
    rule_8 = λ m low. outside (keeps_8 (table_in files) (count_of w) m ≡ true) m;
    rule_9 = new_9;
  }

  pub resized_leads : LeadsTo (is_edited (record { number = n; file = Some s } ∷ [])) c v (content_with c bodies) g clusters (with_record v n s)
  resized_leads = files_edited streams inside c g clusters v writes edits state puts (λ m low other. ap (λ (l : List Bool). bit l m) bits_now) touches keeps

  -- ---- the streams of the new volume

  pub own_now : stream_at w (record { file = n; kind = kind; name = name }) ≡ Some (Placed f)
  own_now = ap (file_stream kind name) at_n ∙ stream_now

  pub own_was : stream_at v (record { file = n; kind = kind; name = name }) ≡ Some old
  own_was = ap (file_stream kind name) own_stream.file ∙ own_stream.stream

  -- each is the one that changes, or stays
  pub which : (t : StreamKey) → (t ≡ record { file = n; kind = kind; name = name }) ⊎ (stream_at w t ≡ stream_at v t)
  which t = elim (cases_eq t.file n) [
    | inl file ↦ elim (same_or_other kind t.kind name t.name) [
      | inl same ↦ inl (same_key t (record { file = n; kind = kind; name = name }) file same.0 same.1)
      | inr differ ↦
          inr
          (ap (λ (m : ℕ). file_stream t.kind t.name (file_in w m)) file
          ∙ ap (file_stream t.kind t.name) at_n
          ∙ others_now t.kind t.name differ
          ∙ sym (ap (λ (m : ℕ). file_stream t.kind t.name (file_in v m)) file ∙ ap (file_stream t.kind t.name) own_stream.file))
    ]
    | inr other ↦ inr (ap (file_stream t.kind t.name) (file_elsewhere (table_in v.files) (table_in files) n t.file differs.others other))
  ]

  -- each body is put into a block that one of the volumes owns
  is_owned : (p : NewBody) → IsOwnedIn streams v p.block ⊎ (block_at v.per v.table.runs FileRec n ≡ Some p.block) ⊎ (IsFreshIn v (with_record v n s) (key_of n kind name) p.block × (index_allocation ≢ kind)) → Owns v p.block ⊎ Owns w p.block
  is_owned p (inl owned) = inl (record { stream = owned.stream; number = owned.number; lies = owned.lies })
  is_owned p (inr (inl its)) = inl (record_owned c g clusters v n p.block state its)
  is_owned p (inr (inr fresh)) = inr (record { stream = key_of n kind name; number = fresh.0.number; lies = fresh.0.lies })

  all_owned : AllByRecursion (λ p. Owns v p.block ⊎ Owns w p.block) bodies
  all_owned = all_by (λ p. IsOwnedIn streams v p.block ⊎ (block_at v.per v.table.runs FileRec n ≡ Some p.block) ⊎ (IsFreshIn v (with_record v n s) (key_of n kind name) p.block × (index_allocation ≢ kind))) (λ p. Owns v p.block ⊎ Owns w p.block) is_owned bodies put_file.each

  -- ---- as an edit of a plan

  bit_as : (x : ℕ) → x < clusters → x < v.clusters
  bit_as x low = subst (λ (y : ℕ). x < y) (clusters_are c g clusters v state) low

  marks_follow : BitsFollow v.clusters (cluster_bits c v) (cluster_bits d v) taken given → FollowsOwners clusters (cluster_bits c v) (cluster_bits d w) v.files w.files
  marks_follow bits = record {
    cleared = λ x low less. (let sum = all_clusters x in bit_now x ∙ bits.cleared x (bit_as x low) (omega (arith, sum, less)));
    set = λ x low more. (let sum = all_clusters x in let both = bits.set x (bit_as x low) (omega (arith, sum, more)) in (both.0, bit_now x ∙ both.1));
    others = λ x low equal. (let sum = all_clusters x in bit_now x ∙ bits.others x (bit_as x low) (omega (arith, sum, equal)));
  }

  -- a block that is live was so, or is put whole, where this is so of the stream's own
  covered : ((m : ℕ) (b : Block) → block_at v.per f.runs (stream_kind (key_of n kind name)) m ≡ Some b → 512 * (sectors (stream_kind (key_of n kind name)) * m) < f.initialised → IsLive v b ⊎ IsPut bodies b) → (b : Block) → IsLive w b → IsLive v b ⊎ IsPut bodies b
  covered here b live =
      let t = live.owned.stream in
      let m = live.owned.number in
      elim (which t) [
        | inl same ↦
            (let is_f : stream_at w (key_of n kind name) ≡ Some (Placed f) = own_now in
            let lies_there : block_at v.per (runs_in (stream_at w (key_of n kind name))) (stream_kind (key_of n kind name)) m ≡ Some b = subst (λ (x : StreamKey). block_at v.per (runs_in (stream_at w x)) (stream_kind x) m ≡ Some b) same live.owned.lies in
            let begins_there : 512 * (sectors (stream_kind (key_of n kind name)) * m) < initialised_in (stream_at w (key_of n kind name)) = subst (λ (x : StreamKey). 512 * (sectors (stream_kind x) * m) < initialised_in (stream_at w x)) same live.begins in
            here m b (sym (ap (λ (o : Option Stream). block_at v.per (runs_in o) (stream_kind (key_of n kind name)) m) is_f) ∙ lies_there) (subst (λ (o : Option Stream). 512 * (sectors (stream_kind (key_of n kind name)) * m) < initialised_in o) is_f begins_there))
        | inr stays ↦
            inl
            (record {
              owned = record { stream = t; number = m; lies = ap (λ (o : Option Stream). block_at v.per (runs_in o) (stream_kind t) m) (sym stays) ∙ live.owned.lies };
              begins = subst (λ (o : Option Stream). 512 * (sectors (stream_kind t) * m) < initialised_in o) stays live.begins;
            })
      ]

  -- a cluster that is owned was owned as this kind, or is a new one of the stream's
  owned_or_new : (other : BlockKind) (x : ℕ) → OwnsAs w other x → OwnsAs v other x ⊎ ((0 < uses f.runs x) × (uses (runs_in (Some old)) x ≡ 0) × (stream_kind (key_of n kind name) ≡ other))
  owned_or_new other x owns = elim (which owns.stream) [
    | inl same ↦
        (let has_now : 0 < uses f.runs x = subst (λ (o : Option Stream). 0 < uses (runs_in o) x) (ap (stream_at w) same ∙ own_now) owns.has in
        elim (cases_lt 0 (uses (runs_in (Some old)) x)) [
          | inl was ↦ inl (record { stream = owns.stream; is_kind = owns.is_kind; has = subst (λ (o : Option Stream). 0 < uses (runs_in o) x) (sym (ap (stream_at v) same ∙ own_was)) was })
          | inr none ↦ inr (has_now, omega (arith, none), sym (ap stream_kind same) ∙ owns.is_kind)
        ])
    | inr stays ↦ inl (record { stream = owns.stream; is_kind = owns.is_kind; has = subst (λ (o : Option Stream). 0 < uses (runs_in o) x) stays owns.has })
  ]

  pub resized_goes_on : (first : Content) (start : Volume) (gave gives : ℕ → Option BlockKind) → BitsFollow v.clusters (cluster_bits c v) (cluster_bits d v) taken given
      → ((m : ℕ) (b : Block) → block_at v.per f.runs (stream_kind (key_of n kind name)) m ≡ Some b → 512 * (sectors (stream_kind (key_of n kind name)) * m) < f.initialised → IsLive v b ⊎ IsPut bodies b)
      → ((x : ℕ) → 0 < uses f.runs x → uses (runs_in (Some old)) x ≡ 0 → gives x ≡ Some (stream_kind (key_of n kind name))) → ((other : BlockKind) (x : ℕ) → gave x ≡ Some other → gives x ≡ Some other)
      → ((other : BlockKind) (x : ℕ) → gives x ≡ Some other → bit (cluster_bits first start) x ≡ false) → GoesOn first start c g clusters v bodies w gave gives
  resized_goes_on first start gave gives bits here new kept clear = record {
    whole = put_file.whole;
    stands = resized_leads.stands;
    marks = marks_follow bits;
    kept = kept;
    takes = λ other x owns. elim (owned_or_new other x owns) [
      | inl was ↦ inl was
      | inr is ↦ inr (new x is.0 is.1 ∙ ap (λ (y : BlockKind). Some y) is.2)
    ];
    clear = clear;
    touched = all_owned;
    covers = covered here;
  }

  -- ---- the tree

  system_now : is_system (files_by_number w) (count_of w) n (record_links n s) ≡ is_system (files_by_number v) (count_of v) n (record_links n r)
  system_now =
      ap (is_system (table_in files) (length files) n) links_now
      ∙ ap (λ (x : ℕ). is_system (table_in files) x n (record_links n r)) differs.count
      ∙ system_everywhere (table_in v.files) (table_in files) n (count_of v) n (record_links n r) differs.others names

  data_flags_now : data_flags s ≡ data_flags r
  unfolding data_flags
  data_flags_now = written_flags p s written reads data_type [] ∙ elim (same_or_other kind data_type name []) [
    | inl same ↦
        ap₂ (λ (x : ℕ) (l : List ℕ). first_flags (attributes_of x l p.attrs)) same.0 same.1
        ∙ ap first_flags (placed_one v.per kind name f r some.0 some.1 some.2)
        ∙ sym (ap₂ (λ (x : ℕ) (l : List ℕ). first_flags (attributes_of x l r.attrs)) same.0 same.1 ∙ ap first_flags some.2)
    | inr differ ↦ ap first_flags (other_pieces v.per kind name f r some.0 some.1 some.2 k.spelled data_type [] differ)
  ]

  info_now : info_of s ≡ info_of r
  info_now = written_info p s written reads ∙ placed_info v.per kind name f r some.0 some.1 some.2 k.spelled not_info

  spare_now : spare_numbers d w ≡ spare_numbers c v
  spare_now = spare_stay d v files n differs own_stream.apart.table ∙ same_spares c d v agree.bits agree.free

  hole_now : has_hole (Some old) ≡ false → has_sparse_run s ≡ has_sparse_run r
  unfolding data_stream
  hole_now whole = elim (same_or_other kind data_type name []) [
    | inl same ↦
        ap has_hole (ap₂ (λ (x : ℕ) (l : List ℕ). stream_of x l s.attrs) same.0 same.1 ∙ stream_now)
        ∙ k.holes whole
        ∙ sym (ap has_hole (ap₂ (λ (x : ℕ) (l : List ℕ). stream_of x l r.attrs) same.0 same.1 ∙ own_stream.stream) ∙ whole)
    | inr differ ↦ ap has_hole (others_now data_type [] differ)
  ]

  why_now : has_hole (Some old) ≡ false → why_not s ≡ why_not r
  unfolding why_not
  why_now whole =
      ap₂ (λ (a b : Bool). option_or (why_by a b (data_flags s)) (sparse_if (has_sparse_run s))) (types_now attribute_list) (types_now reparse_point)
      ∙ ap₂ (λ (x : ℕ) (t : Bool). option_or (why_by (has_type attribute_list r) (has_type reparse_point r) x) (sparse_if t)) data_flags_now (hole_now whole)

  kind_now : has_hole (Some old) ≡ false → kind_in w n s ≡ kind_in v n r
  unfolding kind_in is_unread is_unchanged kind_by
  kind_now whole =
      ap₂ (λ (a b : Bool). kind_by a b (is_unread s) (is_unchanged s)) directory_now system_now
      ∙ ap₂ (λ (t : Bool) (x : ℕ). kind_by (is_directory_record r) (is_system (files_by_number v) (count_of v) n (record_links n r)) (t || is_encrypted x || is_compressed x) (is_unchanged s)) (types_now reparse_point) data_flags_now
      ∙ ap₂ (λ (t : Bool) (x : ℕ). kind_by (is_directory_record r) (is_system (files_by_number v) (count_of v) n (record_links n r)) (is_unread r) (t || is_sparse x || has_sparse_run s)) (types_now attribute_list) data_flags_now
      ∙ ap (λ (t : Bool). kind_by (is_directory_record r) (is_system (files_by_number v) (count_of v) n (record_links n r)) (is_unread r) (has_type attribute_list r || is_sparse (data_flags r) || t)) (hole_now whole)

  one_node : (kind_is : Kind) (shown other : Option Stream) (bytes new : List ℕ) → has_hole (Some old) ≡ false → node_with n s kind_is other new ≡ with_data other new (node_with n r kind_is shown bytes)
  unfolding node_with node_of
  one_node kind_is shown other bytes new whole =
      ap₂ (λ (q : ℕ) (y : Option Why). node_of n q kind_is y (has_type object_id s) other new (info_of s)) seq_now (why_now whole)
      ∙ ap₂ (λ (h : Bool) (i : StdInfo). node_of n r.head.seq kind_is (why_not r) h other new i) (types_now object_id) info_now

  node_now : has_hole (Some old) ≡ false → node_at (bytes_or d w.per) w n ≡ option_map (with_data (data_shown (kind_in v n r) s) (bytes_or d v.per (data_shown (kind_in v n r) s))) (node_at (bytes_or c v.per) v n)
  unfolding node_at node_by
  node_now whole =
      let shown : Option Stream = data_shown (kind_in v n r) s in
      let was : Option Stream = data_shown (kind_in v n r) r in
      ap (some_node (bytes_or d v.per) w n) at_n
      ∙ ap₂ (λ (t : Bool) (x : Kind). cond t None (Some (node_with n s x (data_shown x s) (bytes_or d v.per (data_shown x s))))) (ap (λ (l : List Link). (ltb n first_user_record) && eqb (length l) 0) links_now) (kind_now whole)
      ∙ ap (λ (a : Node). cond (is_nameless n r) None (Some a)) (one_node (kind_in v n r) was shown (bytes_or c v.per was) (bytes_or d v.per shown) whole)
      ∙ mapped (with_data shown (bytes_or d v.per shown)) (is_nameless n r) (node_with n r (kind_in v n r) was (bytes_or c v.per was))
      ∙ sym (ap (λ (o : Option Record). option_map (with_data shown (bytes_or d v.per shown)) (some_node (bytes_or c v.per) v n o)) own_stream.file)

  pub resized_tree : has_hole (Some old) ≡ false → TreeFollows c (content_with c bodies) v n r s
  unfolding tree_of tree_with volume_journal
  resized_tree whole = record {
    node = tree_nodes d w n ∙ node_now whole ∙ sym (ap (option_map (with_data (data_shown (kind_in v n r) s) (bytes_or d v.per (data_shown (kind_in v n r) s)))) (tree_nodes c v n));
    others = λ m other. resized_leads.nodes m (others_not m other);
    links = links_kept v.files files n differs names;
    spare = spare_now;
    count = differs.count;
    journal = ap some_journal journal_now;
  }
