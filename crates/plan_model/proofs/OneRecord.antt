-- One record of a file is put whole into its block, with its standard information or the root of its index written anew.
use Rattle.std.proofs.Common.{◌≡◌, ◌≢◌, ◌⊎◌, ℕ, ◌*◌, ◌<◌, Bool, true, false, not, ◌&&◌, ◌||◌, cond, eqb, leb, ltb, List, [], ◌∷◌, ◌++◌, length, Option, Some, None, refl, sym, ap, ap₂, ◌∙◌, inl, inr, arith}
use Rattle.std.specs.List.{list_all, list_any}
use Rattle.std.specs.Option.{option_or, option_map}
use Rattle.std.proofs.lemmas.Bool.{cases_lt, and_from, and_right, or_parts, eqb-true, ne_eqb, le-leb, false_from_ne_true}
use Rattle.plan_bodies.specs.disk_model.declared.block.Block.{Block}
use Rattle.plan_bodies.specs.disk_model.declared.block.BlockKind.TheVariants.{FileRec, Index}
use Rattle.plan_bodies.specs.disk_model.Sectors.{same_block, same_kind}
use Rattle.plan_bodies.specs.disk_model.Content.{Content, HasSizes}
use Rattle.index_change.specs.record_model.declared.attribute.Attr.{Attr}
use Rattle.index_change.specs.record_model.declared.values.StdInfo.{StdInfo}
use Rattle.index_change.specs.record_model.Records.{Record}
use Rattle.index_change.specs.record_model.Constants.{standard_information, attribute_list, file_name, object_id, data_type, index_root, index_allocation, bitmap_type, reparse_point, names_index}
use Rattle.index_change.specs.file_tree.declared.link.Link.{Link}
use Rattle.index_change.specs.file_tree.declared.node.Kind.{Kind}
use Rattle.index_change.specs.file_tree.declared.node.Kind.TheVariants.{Directory, File, Fixed, Opaque, System}
use Rattle.index_change.specs.file_tree.declared.node.Why.{Why}
use Rattle.index_change.specs.file_tree.declared.node.Node.{Node}
use Rattle.index_change.specs.state_model.declared.geometry.Geometry.{Geometry}
use Rattle.index_change.specs.state_model.declared.stream.Stream.{Stream}
use Rattle.index_change.specs.state_model.Files.{only_base, is_base_record, record_links, is_directory_record, has_type, info_of, is_encrypted, is_compressed, is_sparse, why_by}
use Rattle.index_change.specs.state_model.Loads.{Slot, Free, Used, record_count, table_slot, slot_at, slot_of, used_record, list_stream, all_attrs, cuts_index, has_cut_index_block, breaks_9, joined_file, or_rule, broken_rule, rule_at, breaks_10, data_stream}
use Rattle.index_change.specs.state_model.Rules.{implies, at_file, keeps_names}
use Rattle.index_change.specs.state_model.Streams.{is_attribute_of, attributes_of, stream_of, block_at, has_cut_block}
use Rattle.index_change.specs.file_tree.Walks.{first_user_record}
use Rattle.index_change.specs.state_model.Trees.{is_system, is_nameless}
use Rattle.index_change.specs.volume_model.Volumes.{Volume, count_of, file_in, files_by_number, table_file, mirror_file, bitmap_file, size_or, record_bitmap, cluster_bitmap}
use Rattle.index_change.specs.volume_model.Indexes.{void_block}
use Rattle.index_change.specs.volume_model.Nodes.{valid_or, clusters_or, data_flags, first_flags, has_sparse_run, sparse_if, why_not, is_unread, is_unchanged, kind_in, shows_data, data_shown, node_with, node_by, some_node}
use Rattle.index_change.specs.volume_model.Sizes.{keeps_stream, is_whole_file, has_hole, keeps_whole, stream_has_torn, keeps_untorn, is_initialised, keeps_bitmaps, keeps_streams, keeps_sizes}
use Rattle.plan_owners.specs.stream_laws.Rewrites.{StandsAlone, new_file}
use Rattle.plan_owners.proofs.stream_laws.Placing.{lies}
use Rattle.plan_owners.proofs.stream_laws.Recording.{record_read}
use Rattle.plan_owners.proofs.stream_laws.Rewriting.{attrs_alone, parts_of_files}
use Rattle.plan_owners.proofs.stream_laws.Sharing.{attribute_kind}
use Rattle.plan_owners.proofs.stream_laws.Tabling.{no_list_stream}
use Rattle.plan_owners.specs.States.{Stands}
use Rattle.plan_owners.proofs.Standing.{slots, loaded_files, joined_at, FileParts, file_parts, some_file}
use Rattle.plan_model.specs.Attributes.{RewritesValues, SparesAll}
use Rattle.plan_bodies.specs.Bodies.{NewBody, content_with, AreBodies, body_in, body_or}
use Rattle.plan_model.specs.Informed.{with_info}
use Rattle.plan_bodies.proofs.Putting.{body_put}
use Rattle.plan_model.proofs.Rewriting.{same_types, same_directory, same_sizes, same_attributes, same_stream, same_links, same_names}

-- ---- what is written anew

-- standard information and roots of indexes alone
abbrev pub OnlySmall : (Attr → Bool) → Type 0
OnlySmall may = (a : Attr) → may a ≡ true → (a.head.kind ≡ standard_information) ⊎ (a.head.kind ≡ index_root)

pub spared : (may : Attr → Bool) (kind : ℕ) (name : List ℕ) → OnlySmall may → kind ≢ standard_information → kind ≢ index_root → SparesAll may (is_attribute_of kind name)
spared may kind name only not_info not_root a is =
    let same = (attribute_kind kind name a is).0 in
    false_from_ne_true (may a) (λ anew. elim (only a anew) [
      | inl info ↦ not_info (sym same ∙ info)
      | inr root ↦ not_root (sym same ∙ root)
    ])

pub spared_type : (may : Attr → Bool) (kind : ℕ) → OnlySmall may → kind ≢ standard_information → kind ≢ index_root → SparesAll may (λ a. eqb a.head.kind kind)
spared_type may kind only not_info not_root a is =
    let same = eqb-true a.head.kind kind is in
    false_from_ne_true (may a) (λ anew. elim (only a anew) [
      | inl info ↦ not_info (sym same ∙ info)
      | inr root ↦ not_root (sym same ∙ root)
    ])

module _ (may : Attr → Bool) (only : OnlySmall may) (r s : Record) (k : RewritesValues may r s) where
  pub small_data : (name : List ℕ) → stream_of data_type name s.attrs ≡ stream_of data_type name r.attrs
  small_data name = same_stream may r s data_type name k (spared may data_type name only (λ e. omega (arith, e)) (λ e. omega (arith, e)))

  pub small_pieces : (name : List ℕ) → attributes_of data_type name s.attrs ≡ attributes_of data_type name r.attrs
  small_pieces name = same_attributes may r s data_type name k (spared may data_type name only (λ e. omega (arith, e)) (λ e. omega (arith, e)))

  pub small_bits : (name : List ℕ) → stream_of bitmap_type name s.attrs ≡ stream_of bitmap_type name r.attrs
  small_bits name = same_stream may r s bitmap_type name k (spared may bitmap_type name only (λ e. omega (arith, e)) (λ e. omega (arith, e)))

  pub small_blocks : (name : List ℕ) → stream_of index_allocation name s.attrs ≡ stream_of index_allocation name r.attrs
  small_blocks name = same_stream may r s index_allocation name k (spared may index_allocation name only (λ e. omega (arith, e)) (λ e. omega (arith, e)))

  pub small_names : (n : ℕ) → record_links n s ≡ record_links n r
  small_names n = same_links may n r s k (spared_type may file_name only (λ e. omega (arith, e)) (λ e. omega (arith, e)))

  -- ---- rules at its number

  pub small_1 : (n : ℕ) → keeps_names n s (record_links n s) ≡ keeps_names n r (record_links n r)
  small_1 n = ap (keeps_names n s) (small_names n) ∙ same_names may n r s (record_links n r) k

abbrev pub streams_test : Content → ℕ → ℕ → Bool → Bool → Option Stream → Option Stream → Option Stream → Option Stream → Bool
streams_test c per n each directory records bits blocks used =
    each
    && (implies (is_whole_file n) (not (has_hole records)) && implies (eqb n table_file) (not (has_hole bits)) && implies directory (not (has_hole blocks) && not (has_hole used)))
    && implies (eqb n table_file) (is_initialised records)
    && (implies ((eqb n table_file) || (eqb n mirror_file)) (not (stream_has_torn c per FileRec 1024 records)) && implies directory (not (stream_has_torn c per Index 4096 blocks)))

pub by_test : (c : Content) (v : Volume) (n : ℕ) (r : Record)
    → keeps_streams c v n r ≡ streams_test c v.per n (list_all (keeps_stream v.per v.clusters r.attrs) r.attrs) (is_directory_record r) (stream_of data_type [] r.attrs) (stream_of bitmap_type [] r.attrs) (stream_of index_allocation names_index r.attrs) (stream_of bitmap_type names_index r.attrs)
unfolding keeps_streams keeps_whole keeps_untorn
by_test c v n r = refl

pub small_4 : (may : Attr → Bool) (only : OnlySmall may) (r s : Record) (k : RewritesValues may r s) (d : Content) (v w : Volume) (n : ℕ) → w.per ≡ v.per → w.clusters ≡ v.clusters → keeps_streams d w n s ≡ keeps_streams d v n r
small_4 may only r s k d v w n per clusters =
    let each : list_all (keeps_stream w.per w.clusters s.attrs) s.attrs ≡ list_all (keeps_stream v.per v.clusters r.attrs) r.attrs =
    ap₂ (λ (x y : ℕ). list_all (keeps_stream x y s.attrs) s.attrs) per clusters ∙ same_sizes may r s v.per v.clusters k
    in
    let data_of : Option Stream = stream_of data_type [] r.attrs in
    let bits_of : Option Stream = stream_of bitmap_type [] r.attrs in
    let blocks_of : Option Stream = stream_of index_allocation names_index r.attrs in
    by_test d w n s
    ∙ ap₂ (λ (p : ℕ) (t : Bool). streams_test d p n t (is_directory_record s) (stream_of data_type [] s.attrs) (stream_of bitmap_type [] s.attrs) (stream_of index_allocation names_index s.attrs) (stream_of bitmap_type names_index s.attrs)) per each
    ∙ ap₂ (λ (t : Bool) (o : Option Stream). streams_test d v.per n (list_all (keeps_stream v.per v.clusters r.attrs) r.attrs) t o (stream_of bitmap_type [] s.attrs) (stream_of index_allocation names_index s.attrs) (stream_of bitmap_type names_index s.attrs)) (same_directory may r s k) (small_data may only r s k [])
    ∙ ap₂ (λ (o p : Option Stream). streams_test d v.per n (list_all (keeps_stream v.per v.clusters r.attrs) r.attrs) (is_directory_record r) data_of o p (stream_of bitmap_type names_index s.attrs)) (small_bits may only r s k []) (small_blocks may only r s k names_index)
    ∙ ap (λ (o : Option Stream). streams_test d v.per n (list_all (keeps_stream v.per v.clusters r.attrs) r.attrs) (is_directory_record r) data_of bits_of blocks_of o) (small_bits may only r s k names_index)
    ∙ sym (by_test d v n r)

-- the bitmaps are asked of two files alone
no_bitmaps : (v : Volume) (n : ℕ) → n ≢ table_file → n ≢ bitmap_file → keeps_bitmaps v n ≡ true
unfolding keeps_bitmaps
no_bitmaps v n not_table not_bitmap =
    and_from _ _ (ap (λ (t : Bool). implies t (leb (count_of v) (8 * size_or (record_bitmap v)))) (ne_eqb n table_file not_table)) (ap (λ (t : Bool). implies t (leb v.clusters (8 * size_or (cluster_bitmap v)))) (ne_eqb n bitmap_file not_bitmap))

pub sizes_from : (d : Content) (w : Volume) (n : ℕ) (s : Record) → file_in w n ≡ Some s → n ≢ table_file → n ≢ bitmap_file → keeps_streams d w n s ≡ true → keeps_sizes d w n ≡ true
unfolding keeps_sizes
sizes_from d w n s is not_table not_bitmap kept = and_from _ _ (ap (at_file (keeps_streams d w n)) is ∙ kept) (no_bitmaps w n not_table not_bitmap)

-- ---- the record that is read after the writes

-- a file's own record, where it has no attribute list
pub record OwnRecord (c : Content) (v : Volume) (n : ℕ) (r : Record) : Type 0 where
  pub below : n < record_count v.table
  pub slot : table_slot c v.per v.table n ≡ Used r
  pub base : is_base_record r ≡ true
  pub alone : list_stream r ≡ None

has_front : (kind : ℕ) (front more : List Attr) → list_any (λ (a : Attr). eqb a.head.kind kind) (front ++ more) ≡ false → list_any (λ (a : Attr). eqb a.head.kind kind) front ≡ false
has_front kind [] more none = refl
has_front kind (a ∷ front) more none =
    let parts = or_parts (eqb a.head.kind kind) (list_any (λ (x : Attr). eqb x.head.kind kind) (front ++ more)) none in
    ap₂ (λ (s t : Bool). s || t) parts.0 (has_front kind front more parts.1)

base_has_none : (c : Content) (v : Volume) (n : ℕ) (r : Record) (parts : FileParts c v n r) → has_type attribute_list r ≡ false → has_type attribute_list parts.base ≡ false
unfolding has_type all_attrs
base_has_none c v n r parts none =
    has_front attribute_list parts.base.attrs _ (sym (ap (λ (x : Record). list_any (λ (a : Attr). eqb a.head.kind attribute_list) x.attrs) parts.whole) ∙ none)

record_with : Record → List Attr → Record
record_with r attrs = record { head = r.head; attrs = attrs }

pub own_record : (c : Content) (g : Geometry) (clusters : ℕ) (v : Volume) (n : ℕ) (r : Record) → Stands c g clusters v → file_in v n ≡ Some r → has_type attribute_list r ≡ false → OwnRecord c v n r
unfolding record_with
own_record c g clusters v n r s is none =
    let parts = file_parts c g clusters v n r s.loaded (some_file v n r is) in
    let alone : list_stream parts.base ≡ None = no_list_stream parts.base (base_has_none c v n r parts none) in
    let same : r ≡ parts.base = parts.whole ∙ ap (record_with parts.base) (attrs_alone c v.per (slots c v) (record_count v.table) n parts.base alone) in
    record {
      below = parts.below;
      slot = parts.slot ∙ ap (λ (x : Record). Used x) (sym same);
      base = ap is_base_record same ∙ parts.own;
      alone = ap list_stream same ∙ alone;
    }

used_begins : (initialised at : ℕ) (x : Slot) (r : Record) → cond (leb initialised at) Free x ≡ Used r → at < initialised
used_begins initialised at x r is = elim (cases_lt at initialised) [
  | inl below ↦ below
  | inr past ↦ (let free : Free ≡ Used r = sym (ap (λ (t : Bool). cond t Free x) (le-leb initialised at past)) ∙ is in absurd cc)
]

pub slot_begins : (c : Content) (v : Volume) (n : ℕ) (r : Record) → table_slot c v.per v.table n ≡ Used r → 1024 * n < v.table.initialised
unfolding table_slot
slot_begins c v n r is = used_begins v.table.initialised (1024 * n) (slot_at c (block_at v.per v.table.runs FileRec n)) r is

-- the slot of a record that is put whole among other bodies
pub slot_put : (c : Content) (v : Volume) (n : ℕ) (s : Record) (bodies : List NewBody) (b : Block) (bytes : List ℕ) → HasSizes c → AreBodies bodies → 1024 * n < v.table.initialised → block_at v.per v.table.runs FileRec n ≡ Some b → body_in bodies b ≡ Some bytes
    → slot_of (record { bytes = bytes; torn = false }) ≡ Used s → table_slot (content_with c bodies) v.per v.table n ≡ Used s
slot_put c v n s bodies b bytes sized are begins place put reads =
    record_read (content_with c bodies) v.per v.table n b begins place
    ∙ ap slot_of (body_put c bodies b sized are ∙ ap (body_or (c b)) put)
    ∙ reads

-- ---- a record that stands alone

no_ninth : (o : Option ℕ) (nine ten : Bool) → or_rule o nine ten ≡ None → nine ≡ false
no_ninth (Some rule) nine ten is = absurd cc
no_ninth None true ten is = absurd cc
no_ninth None false ten is = refl

ninth : (c : Content) (g : Geometry) (clusters : ℕ) (v : Volume) (n : ℕ) → Stands c g clusters v → n < record_count v.table → cuts_index v.per (joined_file c v.per (slots c v) (record_count v.table) n) ≡ false
unfolding rule_at breaks_9
ninth c g clusters v n s below =
    (or_parts ((eqb n 0) && has_cut_block v.per FileRec (record_count v.table) v.table.runs) (cuts_index v.per (joined_file c v.per (slots c v) (record_count v.table) n))
    (no_ninth (broken_rule (table_slot c v.per v.table n)) _ (breaks_10 c v.per (slots c v) n) ((parts_of_files c v.per v.table v.files (loaded_files c g clusters v s.loaded)).1 n below))).1

pub uncut : (c : Content) (g : Geometry) (clusters : ℕ) (v : Volume) (n : ℕ) (r : Record) → Stands c g clusters v → file_in v n ≡ Some r → n < record_count v.table → cuts_index v.per (Some r) ≡ false
unfolding joined_file
uncut c g clusters v n r s is below =
    ap (cuts_index v.per) (sym (some_file v n r is) ∙ joined_at c g clusters v s.loaded n below) ∙ ninth c g clusters v n s below

pub small_alone : (may : Attr → Bool) (only : OnlySmall may) (r s : Record) (k : RewritesValues may r s) (per : ℕ) → has_type attribute_list r ≡ false → cuts_index per (Some r) ≡ false → StandsAlone per (Used s)
small_alone may only r s k per no_list whole = (
  no_list_stream s (same_types may r s attribute_list k ∙ no_list),
  ap₂ (λ (t : Bool) (o : Option Stream). t && has_cut_index_block per o) (same_directory may r s k) (small_blocks may only r s k names_index) ∙ whole,
)

pub small_base : (may : Attr → Bool) (r s : Record) → RewritesValues may r s → is_base_record r ≡ true → is_base_record s ≡ true
small_base may r s k base = ap₂ (λ (x y : ℕ). eqb x 0 && eqb y 0) (ap (λ f. f.number) k.base) (ap (λ f. f.seq) k.base) ∙ base

pub file_slot : (d : Content) (v : Volume) (n : ℕ) (s : Record) → table_slot d v.per v.table n ≡ Used s → is_base_record s ≡ true → new_file d v n ≡ Some s
file_slot d v n s slot base = ap (λ (x : Slot). only_base (used_record x)) slot ∙ ap (λ (t : Bool). cond t (Some s) None) base

-- a file record is no index block
pub void_elsewhere : (v : Volume) (n : ℕ) (w : NewBody) → block_at v.per v.table.runs FileRec n ≡ Some w.block → same_block void_block w.block ≡ false
void_elsewhere v n w place =
    let kind = (lies v.per v.table.runs FileRec n w.block place).kind_is in
    and_right (eqb void_block.first w.block.first) (same_kind Index w.block.kind) (ap (same_kind Index) (sym kind))

-- ---- its node

kind_by : Bool → Bool → Bool → Bool → Kind
kind_by directory system unread unchanged = cond directory Directory (cond system System (cond unread Opaque (cond unchanged Fixed File)))

module _ (may : Attr → Bool) (only : OnlySmall may) (r s : Record) (k : RewritesValues may r s) where
  small_flags : data_flags s ≡ data_flags r
  unfolding data_flags
  small_flags = ap first_flags (small_pieces may only r s k [])

  small_unread : is_unread s ≡ is_unread r
  unfolding is_unread
  small_unread = ap₂ (λ (t : Bool) (f : ℕ). t || is_encrypted f || is_compressed f) (same_types may r s reparse_point k) small_flags

  small_hole : has_sparse_run s ≡ has_sparse_run r
  unfolding data_stream
  small_hole = ap has_hole (small_data may only r s k [])

  small_unchanged : is_unchanged s ≡ is_unchanged r
  unfolding is_unchanged
  small_unchanged =
      ap₂ (λ (t : Bool) (f : ℕ). t || is_sparse f || has_sparse_run s) (same_types may r s attribute_list k) small_flags
      ∙ ap (λ (t : Bool). has_type attribute_list r || is_sparse (data_flags r) || t) small_hole

  small_why : why_not s ≡ why_not r
  unfolding why_not
  small_why =
      ap₂ (λ (a b : Bool). option_or (why_by a b (data_flags s)) (sparse_if (has_sparse_run s))) (same_types may r s attribute_list k) (same_types may r s reparse_point k)
      ∙ ap₂ (λ (f : ℕ) (t : Bool). option_or (why_by (has_type attribute_list r) (has_type reparse_point r) f) (sparse_if t)) small_flags small_hole

  pub small_kind : (v w : Volume) (n : ℕ) → is_system (files_by_number w) (count_of w) n (record_links n r) ≡ is_system (files_by_number v) (count_of v) n (record_links n r) → kind_in w n s ≡ kind_in v n r
  unfolding kind_in kind_by
  small_kind v w n system =
      ap₂ (λ (a b : Bool). kind_by a b (is_unread s) (is_unchanged s)) (same_directory may r s k) (ap (is_system (files_by_number w) (count_of w) n) (small_names may only r s k n) ∙ system)
      ∙ ap₂ (λ (a b : Bool). kind_by (is_directory_record r) (is_system (files_by_number v) (count_of v) n (record_links n r)) a b) small_unread small_unchanged

  pub small_shown : (kind : Kind) → data_shown kind s ≡ data_shown kind r
  unfolding data_stream
  small_shown kind = ap (λ (o : Option Stream). cond (shows_data kind) o None) (small_data may only r s k [])

  node_of : ℕ → ℕ → Kind → Option Why → Bool → Option Stream → List ℕ → StdInfo → Node
  node_of n seq kind why held shown bytes info = record {
    number = n;
    seq = seq;
    kind = kind;
    why = why;
    held = held;
    size = size_or shown;
    valid = valid_or shown;
    clusters = clusters_or shown;
    bytes = bytes;
    flags = info.flags;
    created = info.created;
    modified = info.modified;
    changed = info.changed;
    read_at = info.read_at;
  }

  pub small_node : (n : ℕ) (kind other : Kind) (shown more : Option Stream) (bytes new : List ℕ) → other ≡ kind → more ≡ shown → new ≡ bytes → node_with n s other more new ≡ with_info (info_of s) (node_with n r kind shown bytes)
  unfolding node_with node_of
  small_node n kind other shown more bytes new same_kind same_shown same_bytes =
      ap₂ (λ (q : ℕ) (x : Kind). node_of n q x (why_not s) (has_type object_id s) more new (info_of s)) k.seq same_kind
      ∙ ap₂ (λ (y : Option Why) (h : Bool). node_of n r.head.seq kind y h more new (info_of s)) small_why (same_types may r s object_id k)
      ∙ ap₂ (λ (o : Option Stream) (l : List ℕ). node_of n r.head.seq kind (why_not r) (has_type object_id r) o l (info_of s)) same_shown same_bytes

  nameless_same : (n : ℕ) → is_nameless n s ≡ is_nameless n r
  nameless_same n = ap (λ (l : List Link). (ltb n first_user_record) && eqb (length l) 0) (small_names may only r s k n)

  pub small_some : (bytes other : Option Stream → List ℕ) (v w : Volume) (n : ℕ) → is_system (files_by_number w) (count_of w) n (record_links n r) ≡ is_system (files_by_number v) (count_of v) n (record_links n r)
      → other (data_shown (kind_in v n r) r) ≡ bytes (data_shown (kind_in v n r) r) → some_node other w n (Some s) ≡ option_map (with_info (info_of s)) (some_node bytes v n (Some r))
  unfolding node_by
  small_some bytes other v w n system same_bytes =
      let kind = small_kind v w n system in
      let shown : data_shown (kind_in w n s) s ≡ data_shown (kind_in v n r) r = ap (λ (x : Kind). data_shown x s) kind ∙ small_shown (kind_in v n r) in
      let node = small_node n (kind_in v n r) (kind_in w n s) (data_shown (kind_in v n r) r) (data_shown (kind_in w n s) s) (bytes (data_shown (kind_in v n r) r)) (other (data_shown (kind_in w n s) s)) kind shown (ap other shown ∙ same_bytes) in
      ap₂ (λ (t : Bool) (a : Node). cond t None (Some a)) (nameless_same n) node
      ∙ mapped (is_nameless n r) (node_with n r (kind_in v n r) (data_shown (kind_in v n r) r) (bytes (data_shown (kind_in v n r) r)))
    where
      mapped : (t : Bool) (a : Node) → cond t None (Some (with_info (info_of s) a)) ≡ option_map (with_info (info_of s)) (cond t None (Some a))
      mapped true a = refl
      mapped false a = refl
