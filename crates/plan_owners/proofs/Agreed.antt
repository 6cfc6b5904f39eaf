-- Two contents that agree on what a volume owns.
use Rattle.std.proofs.Common.{◌≡◌, ◌≢◌, ℕ, zero, suc, ◌+◌, ◌-◌, ◌*◌, ◌<◌, ◌≤◌, Bool, true, false, not, ◌&&◌, ◌||◌, cond, eqb, leb, nat_eq, List, [], ◌∷◌, Option, Some, None, Result, Ok, refl, sym, ap, ap₂, subst, ◌∙◌, inl, inr, arith}
use mathlib.Core.Path.{fun_ext}
use Rattle.std.specs.Prelude.{count_by}
use Rattle.std.specs.List.{list_any, filter_map, range_with_len}
use Rattle.std.specs.Cmp.Lexicographic.{pointwise}
use Rattle.std.proofs.Math.Nat.{le-div_iff_mul-le}
use Rattle.std.proofs.lemmas.Bool.{cases_Bool, cases_lt, and_parts, and_from, or_parts, or_from, both_ways, false_from_ne_true, eqb-true, ne_eqb, le-leb, lt-ltb}
use Rattle.log_model.specs.disk_model.declared.block.Block.{Block}
use Rattle.log_model.specs.disk_model.declared.block.Body.{Body}
use Rattle.log_model.specs.disk_model.declared.block.BlockKind.{BlockKind}
use Rattle.log_model.specs.disk_model.declared.block.BlockKind.TheVariants.{Plain, FileRec, Index}
use Rattle.log_model.specs.disk_model.Sectors.{sectors}
use Rattle.log_model.specs.disk_model.Content.{Content}
use Rattle.tree_laws.specs.record_model.Records.{Record}
use Rattle.tree_laws.specs.record_model.Constants.{attribute_list, data_type, index_allocation, bitmap_type, names_index}
use Rattle.tree_laws.specs.file_tree.declared.node.Kind.TheVariants.{Directory, System}
use Rattle.tree_laws.specs.file_tree.declared.node.Node.{Node}
use Rattle.tree_laws.specs.state_model.declared.geometry.Geometry.{Geometry}
use Rattle.tree_laws.specs.state_model.declared.geometry.MapRefusal.{MapRefusal}
use Rattle.tree_laws.specs.state_model.declared.stream.Extents.{Extents}
use Rattle.tree_laws.specs.state_model.declared.stream.Stream.{Stream}
use Rattle.tree_laws.specs.state_model.declared.stream.Stream.TheVariants.{Held, Placed}
use Rattle.tree_laws.specs.state_model.Files.{is_directory_record}
use Rattle.tree_laws.specs.state_model.Loads.{Torn, boot_block, slot_of, table_of, table_slot, record_count, torn_refusal, list_stream, extents_or}
use Rattle.tree_laws.specs.state_model.Rules.{implies, at_file}
use Rattle.tree_laws.specs.state_model.Streams.{stream_of, block_at}
use Rattle.tree_laws.specs.file_tree.Walks.{first_user_record}
use Rattle.tree_laws.specs.state_model.Trees.{is_system}
use Rattle.tree_laws.specs.volume_model.Volumes.{Volume, volume_of, count_of, file_in, file_stream, bytes_or, record_bitmap, cluster_bits, table_file, mirror_file, log_file, bitmap_file, upcase_file, upper_of}
use Rattle.tree_laws.specs.volume_model.Indexes.{void_block, or_void, index_block, index_stream, keeps_index}
use Rattle.tree_laws.specs.volume_model.Nodes.{shows_data, kind_in, node_at, nodes_by, free_clusters}
use Rattle.tree_laws.specs.volume_model.Owners.{volume_runs, keeps_cluster_bit, keeps_record_bit}
use Rattle.tree_laws.specs.volume_model.Sizes.{is_torn_at, begun, has_torn, stream_has_torn, is_initialised, keeps_untorn, keeps_table, keeps_streams, keeps_sizes}
use Rattle.tree_laws.specs.volume_state.Journals.{entries_name, journal_of, fault_of, some_journal}
use Rattle.tree_laws.specs.volume_state.Rules.{first_broken, file_count, broken_3, broken_4, broken_6, broken_7, broken_9}
use Rattle.tree_laws.specs.volume_state.Trees.{IsState, tree_with, tree_of, volume_journal}
use Rattle.tree_laws.specs.stream_laws.Frames.{SameBytesInSome, SameRecordIn, SameIndexIn}
use Rattle.tree_laws.specs.stream_laws.Owners.{stream_kind, initialised_in}
use Rattle.tree_laws.specs.stream_laws.Sharing.{StreamKey, stream_at, runs_in}
use Rattle.tree_laws.specs.stream_laws.Tables.{table_key}
use Rattle.tree_laws.specs.stream_laws.Volumes.{SameTableIn}
use Rattle.tree_laws.proofs.stream_laws.Loading.{same_volume, same_cluster_bits}
use Rattle.tree_laws.proofs.stream_laws.Rewriting.{volume_parts, parts_of_files}
use Rattle.tree_laws.proofs.stream_laws.Tabling.{table_extents_is, table_runs}
use Rattle.tree_laws.specs.Contents.{SameFreeRecords, SameIndexAt, SameShownAt, SameEntries}
use Rattle.tree_laws.proofs.Agreeing.{same_upper, same_index, kept_bit, same_spares, same_journal, same_node}
use Rattle.tree_laws.proofs.Keeping.{rules_of, from_rules, passes_below, fails_nowhere}
use Rattle.tree_laws.proofs.Planning.{holder_number}
use Rattle.plan_owners.specs.States.{Stands}
use Rattle.plan_owners.specs.Agreeing.{AgreeOnOwned, IsJudged, list_key, log_key}
use Rattle.plan_owners.proofs.Standing.{loaded_files, counted, some_file, begins, rule_4_parts, streams_at}
use Rattle.tree_laws.proofs.stream_laws.Recording.{record_read}
use Rattle.tree_laws.proofs.stream_laws.Tabling.{inside_list}
use Rattle.tree_laws.specs.host_base.declared.file_ref.FileRef.{FileRef}
use Rattle.tree_laws.specs.file_tree.declared.journal.Journal.{Journal}
use Rattle.tree_laws.specs.state_model.Trees.{all_links}
use Rattle.tree_laws.specs.volume_model.Volumes.{files_by_number}
use Rattle.tree_laws.specs.volume_model.Nodes.{spare_numbers}
use Rattle.tree_laws.specs.state_model.Rules.{first_failing}
use Rattle.tree_laws.specs.state_model.Loads.{data_stream}
use Rattle.std.proofs.Math.Nat.{mul_assoc}

-- ---- each record of the table begins below its initialised size

initialised_all : (s : Option Stream) (e : Extents) (n : ℕ) → is_initialised s ≡ true → extents_or s ≡ e → n < record_count e → 1024 * n < e.initialised
initialised_all None e n is same below = let none : 0 ≡ e.real = ap (λ (x : Extents). x.real) same in absurd (omega arith)
initialised_all (Some (Held value)) e n is same below = let none : 0 ≡ e.real = ap (λ (x : Extents). x.real) same in absurd (omega arith)
initialised_all (Some (Placed x)) e n is same below =
    let equal = eqb-true x.initialised x.real is in
    let one : x.initialised ≡ e.initialised = ap (λ (y : Extents). y.initialised) same in
    let two : x.real ≡ e.real = ap (λ (y : Extents). y.real) same in
    omega arith

table_kept : (c : Content) (v : Volume) (r : Record) → keeps_streams c v table_file r ≡ true → is_initialised (stream_of data_type [] r.attrs) ≡ true
unfolding keeps_streams
table_kept c v r kept = table_rule (and_parts _ _ (and_parts _ _ kept).0).1
  where
    table_rule : keeps_table table_file r ≡ true → is_initialised (stream_of data_type [] r.attrs) ≡ true
    table_rule is = is

pub table_begins : (c : Content) (g : Geometry) (clusters : ℕ) (v : Volume) (n : ℕ) → Stands c g clusters v → n < count_of v → 1024 * n < v.table.initialised
table_begins c g clusters v n s below =
    let start = begins c g clusters v s in
    let kept = table_kept c v start.file (streams_at c g clusters v table_file start.file s start.is_file) in
    let extents : extents_or (stream_of data_type [] start.file.attrs) ≡ v.table = sym (ap (λ (o : Option Record). extents_or (file_stream data_type [] o)) start.is_file) ∙ table_extents_is c g clusters v start in
    initialised_all (stream_of data_type [] start.file.attrs) v.table n kept extents (omega (arith, counted c g clusters v s.loaded))

-- ---- kinds of streams

plain_type : (n kind : ℕ) (name : List ℕ) → kind ≢ data_type → kind ≢ index_allocation → stream_kind (record { file = n; kind = kind; name = name }) ≡ Plain
unfolding stream_kind
plain_type n kind name one two =
    ap₂ (λ (a b : Bool). cond (((eqb n table_file) || (eqb n mirror_file)) && a && pointwise nat_eq name []) FileRec (cond b Index Plain)) (ne_eqb kind data_type one) (ne_eqb kind index_allocation two)
    ∙ no_records ((eqb n table_file) || (eqb n mirror_file)) (pointwise nat_eq name [])
  where
    no_records : (a b : Bool) → cond (a && false && b) FileRec Plain ≡ Plain
    no_records true b = refl
    no_records false b = refl

plain_data : (n : ℕ) → n ≢ table_file → n ≢ mirror_file → stream_kind (record { file = n; kind = data_type; name = [] }) ≡ Plain
unfolding stream_kind
plain_data n one two = ap₂ (λ (a b : Bool). cond ((a || b) && true && true) FileRec Plain) (ne_eqb n table_file one) (ne_eqb n mirror_file two)

plain_named : (n x : ℕ) (name : List ℕ) → stream_kind (record { file = n; kind = data_type; name = x ∷ name }) ≡ Plain
unfolding stream_kind
plain_named n x name = no_records ((eqb n table_file) || (eqb n mirror_file))
  where
    no_records : (a : Bool) → cond (a && true && false) FileRec Plain ≡ Plain
    no_records true = refl
    no_records false = refl

record_data : (n : ℕ) → ((eqb n table_file) || (eqb n mirror_file)) ≡ true → stream_kind (record { file = n; kind = data_type; name = [] }) ≡ FileRec
unfolding stream_kind
record_data n is = ap (λ (a : Bool). cond (a && true && true) FileRec Plain) is

index_type : (n : ℕ) (name : List ℕ) → stream_kind (record { file = n; kind = index_allocation; name = name }) ≡ Index
unfolding stream_kind
index_type n name = no_records ((eqb n table_file) || (eqb n mirror_file)) (pointwise nat_eq name [])
  where
    no_records : (a b : Bool) → cond (a && false && b) FileRec Index ≡ Index
    no_records true b = refl
    no_records false b = refl

-- ---- live blocks

live_block : (v : Volume) (s : StreamKey) (e : Extents) (kind : BlockKind) (n : ℕ) (b : Block) → stream_at v s ≡ Some (Placed e) → stream_kind s ≡ kind → s ≢ log_key → block_at v.per e.runs kind n ≡ Some b → 512 * (sectors kind * n) < e.initialised → IsJudged v b
live_block v s e kind n b is same other place below = record {
  live = record {
    owned = record { stream = s; number = n; lies = ap₂ (λ (o : Option Stream) (k : BlockKind). block_at v.per (runs_in o) k n) is same ∙ place };
    begins = subst (λ (k : BlockKind). 512 * (sectors k * n) < initialised_in (stream_at v s)) (sym same) (subst (λ (x : ℕ). 512 * (sectors kind * n) < x) (sym (ap initialised_in is)) below);
  };
  other = other;
}

-- the log is a stream of its own file, type and name, and has sectors
other_file : (s : StreamKey) → s.file ≢ log_file → s ≢ log_key
other_file s not same = not (ap (λ (k : StreamKey). k.file) same)

other_type : (s : StreamKey) → s.kind ≢ data_type → s ≢ log_key
other_type s not same = not (ap (λ (k : StreamKey). k.kind) same)

other_name : (n kind x : ℕ) (name : List ℕ) → record { file = n; kind = kind; name = x ∷ name } ≢ log_key
other_name n kind x name same = no_name (ap (λ (k : StreamKey). k.name) same)
  where
    no_name : x ∷ name ≡ [] → ⊥
    no_name is = absurd cc

other_kind : (s : StreamKey) (kind : BlockKind) → stream_kind s ≡ kind → kind ≢ Plain → s ≢ log_key
other_kind s kind is not same = not (sym is ∙ ap stream_kind same ∙ plain_data log_file (λ e. omega (arith, e)) (λ e. omega (arith, e)))

body_with : List ℕ → Bool → Body
body_with bytes torn = record { bytes = bytes; torn = torn }

same_body : (x y : Body) → y.bytes ≡ x.bytes → (y.torn ≡ true → x.torn ≡ true) → x.torn ≡ false → y ≡ x
unfolding body_with
same_body x y bytes torn whole =
    let also : y.torn ≡ false = false_from_ne_true y.torn (λ is. both_ways x.torn whole (torn is)) in
    ap₂ body_with bytes (also ∙ sym whole)

-- ---- torn blocks

none_at : (test : ℕ → Bool) (a k n : ℕ) → list_any test (range_with_len a k) ≡ false → a ≤ n → n < a + k → test n ≡ false
none_at test a zero n none low high = absurd (omega arith)
none_at test a (suc k) n none low high =
    let parts = or_parts (test a) (list_any test (range_with_len (a + 1) k)) none in
    elim (cases_lt a n) [
      | inl less ↦ none_at test (a + 1) k n parts.1 (omega arith) (omega arith)
      | inr least ↦ (let same : n ≡ a = omega arith in ap test same ∙ parts.0)
    ]

all_fail : (test : ℕ → Bool) (a k : ℕ) → ((n : ℕ) → a ≤ n → n < a + k → test n ≡ false) → list_any test (range_with_len a k) ≡ false
all_fail test a zero each = refl
all_fail test a (suc k) each = or_from (test a) (list_any test (range_with_len (a + 1) k)) (each a (omega arith) (omega arith)) (all_fail test (a + 1) k (λ n low high. each n (omega arith) (omega arith)))

begun_below : (size initialised n : ℕ) → 0 < size → n < begun size initialised → size * n < initialised
begun_below size initialised n some below =
    let low : (n + 1) * size ≤ initialised + (size - 1) = (le-div_iff_mul-le {k = size} {x = n + 1} {y = initialised + (size - 1)} some).0 (omega arith) in
    omega arith

below_begun : (size initialised n : ℕ) → 0 < size → size * n < initialised → n < begun size initialised
below_begun size initialised n some below =
    let whole : (n + 1) * size ≤ initialised + (size - 1) = omega arith in
    let most : n + 1 ≤ begun size initialised = (le-div_iff_mul-le {k = size} {x = n + 1} {y = initialised + (size - 1)} some).1 whole in
    omega arith

one_table : (x y : Extents) (t : Result Extents MapRefusal) → t ≡ Ok x → t ≡ Ok y → x ≡ y
one_table x y t first second = cc

module _ (c d : Content) (g : Geometry) (clusters : ℕ) (v : Volume) (s : Stands c g clusters v) (k : AgreeOnOwned c d v) where
  -- ---- bytes of streams

  same_in : (key : StreamKey) (o : Option Stream) → stream_kind key ≡ Plain → key ≢ log_key → stream_at v key ≡ o → SameBytesInSome c d v.per o
  same_in key None plain other is = tt
  same_in key (Some (Held value)) plain other is = tt
  same_in key (Some (Placed e)) plain other is = λ b read. (let low = read.below in k.bytes b (live_block v key e Plain read.sector b is plain other read.lies (omega arith)))

  same_data : (n : ℕ) → n ≢ table_file → n ≢ mirror_file → n ≢ log_file → SameBytesInSome c d v.per (file_stream data_type [] (file_in v n))
  same_data n one two three = same_in (record { file = n; kind = data_type; name = [] }) (file_stream data_type [] (file_in v n)) (plain_data n one two) (other_file (record { file = n; kind = data_type; name = [] }) three) refl

  same_bitmap : SameBytesInSome c d v.per (record_bitmap v)
  same_bitmap = same_in (record { file = table_file; kind = bitmap_type; name = [] }) (record_bitmap v) (plain_type table_file bitmap_type [] (λ e. omega (arith, e)) (λ e. omega (arith, e))) (other_file (record { file = table_file; kind = bitmap_type; name = [] }) (λ e. omega (arith, e))) refl

  -- ---- records

  table_size : initialised_in (stream_at v table_key) ≡ v.table.initialised
  table_size = of_extents (stream_at v table_key) ∙ ap (λ (e : Extents). e.initialised) (table_extents_is c g clusters v (begins c g clusters v s))
    where
      of_extents : (o : Option Stream) → initialised_in o ≡ (extents_or o).initialised
      of_extents None = refl
      of_extents (Some (Held value)) = refl
      of_extents (Some (Placed e)) = refl

  record_live : (n : ℕ) (b : Block) → 1024 * n < v.table.initialised → block_at v.per v.table.runs FileRec n ≡ Some b → IsJudged v b
  unfolding stream_kind
  record_live n b below place = record {
    live = record {
      owned = record { stream = table_key; number = n; lies = ap (λ l. block_at v.per l FileRec n) (table_runs c g clusters v (begins c g clusters v s)) ∙ place };
      begins = subst (λ (x : ℕ). 512 * (2 * n) < x) (sym table_size) (omega arith);
    };
    other = other_file table_key (λ e. omega (arith, e));
  }

  whole_slot : (b : Block) (n : ℕ) → torn_refusal n (slot_of (c b)) ≡ None → (c b).torn ≡ false
  unfolding slot_of
  whole_slot b n none = elim (cases_Bool (c b).torn) [
    | inl torn ↦ absurd (refused n (rw torn at none))
    | inr whole ↦ whole
  ]
    where
      refused : (n : ℕ) → torn_refusal n Torn ≡ None → ⊥
      refused n is = absurd cc

  slot_there : (n : ℕ) (b : Block) → 1024 * n < v.table.initialised → block_at v.per v.table.runs FileRec n ≡ Some b → table_slot c v.per v.table n ≡ slot_of (c b)
  slot_there n b below place = record_read c v.per v.table n b below place

  same_record : (n : ℕ) → n < record_count v.table → SameRecordIn c d v.per v.table n
  same_record n below b at =
      let live = record_live n b at.below at.lies in
      let none = (parts_of_files c v.per v.table v.files (loaded_files c g clusters v s.loaded)).0 n below in
      same_body (c b) (d b) (k.bytes b live) (k.torn b live) (whole_slot b n (sym (ap (torn_refusal n) (slot_there n b at.below at.lies)) ∙ none))

  same_free : SameFreeRecords c d v
  same_free m below clear = same_record m (omega (arith, counted c g clusters v s.loaded))

  -- ---- the volume

  some_files : 0 < record_count v.table
  some_files =
      let start = begins c g clusters v s in
      let size = counted c g clusters v s.loaded in
      let within = inside_list v.files table_file start.file (some_file v table_file start.file start.is_file) in
      omega arith

  same_boot : d (boot_block g 0) ≡ c (boot_block g 0)
  same_boot =
      let size = counted c g clusters v s.loaded in
      let some = some_files in
      same_record 0 some (boot_block g 0) (record { below = table_begins c g clusters v 0 s (omega arith); lies = (begins c g clusters v s).first })

  same_table_in : SameTableIn c d v.per v.table
  same_table_in = record { records = λ n below. same_record n below; lists = k.lists }

  same_for : (e : Extents) → table_of c g ≡ Ok e → SameTableIn c d g.per_cluster e
  same_for e is =
      let parts = volume_parts c g clusters v s.loaded in
      let same : e ≡ v.table = one_table e v.table (table_of c g) is parts.table in
      subst (λ (x : Extents). SameTableIn c d g.per_cluster x) (sym same) (subst (λ (p : ℕ). SameTableIn c d p v.table) (sym parts.per) same_table_in)

  pub volume_same : volume_of d g clusters ≡ Ok v
  volume_same = same_volume c d g clusters same_boot same_for ∙ s.loaded

  -- ---- indexes

  whole_place : (o : Option Block) → is_torn_at c o ≡ false → (b : Block) → o ≡ Some b → (c b).torn ≡ false
  whole_place o whole b is = sym (ap (is_torn_at c) is) ∙ whole

  untorn_index : (m : ℕ) (r : Record) → file_in v m ≡ Some r → is_directory_record r ≡ true → stream_has_torn c v.per Index 4096 (stream_of index_allocation names_index r.attrs) ≡ false
  unfolding keeps_streams keeps_untorn
  untorn_index m r is directory = not_asked (is_directory_record r) _ directory (and_parts _ _ (and_parts _ _ (streams_at c g clusters v m r s is)).1).1
    where
      not_asked : (t u : Bool) → t ≡ true → implies t (not u) ≡ true → u ≡ false
      not_asked true true on is = absurd cc
      not_asked true false on is = refl
      not_asked false u on is = absurd cc

  index_same : (m : ℕ) (e : Extents) → stream_at v (record { file = m; kind = index_allocation; name = names_index }) ≡ Some (Placed e) → has_torn c v.per Index 4096 e ≡ false → (i : ℕ) → d (index_block v.per e i) ≡ c (index_block v.per e i)
  unfolding index_block has_torn
  index_same m e is none i = elim (cases_Bool (leb e.initialised (4096 * i))) [
    | inl past ↦ ap (λ (t : Bool). d (cond t void_block (or_void (block_at v.per e.runs Index i)))) past ∙ k.void ∙ sym (ap (λ (t : Bool). c (cond t void_block (or_void (block_at v.per e.runs Index i)))) past)
    | inr before ↦
        ap (λ (t : Bool). d (cond t void_block (or_void (block_at v.per e.runs Index i)))) before
        ∙ at_place (block_at v.per e.runs Index i) refl (begins_below before)
        ∙ sym (ap (λ (t : Bool). c (cond t void_block (or_void (block_at v.per e.runs Index i)))) before)
  ]
    where
      begins_below : leb e.initialised (4096 * i) ≡ false → 4096 * i < e.initialised
      begins_below before = elim (cases_lt (4096 * i) e.initialised) [
        | inl less ↦ less
        | inr past ↦ absurd (both_ways (leb e.initialised (4096 * i)) before (le-leb e.initialised (4096 * i) past))
      ]

      at_place : (o : Option Block) → block_at v.per e.runs Index i ≡ o → 4096 * i < e.initialised → d (or_void o) ≡ c (or_void o)
      at_place None at below = k.void
      at_place (Some b) at below =
          let live = live_block v (record { file = m; kind = index_allocation; name = names_index }) e Index i b is (index_type m names_index) (other_type (record { file = m; kind = index_allocation; name = names_index }) (λ t. omega (arith, t))) at (omega arith) in
          let whole = none_at (λ n. is_torn_at c (block_at v.per e.runs Index n)) 0 (begun 4096 e.initialised) i none (omega arith) (omega (arith, below_begun 4096 e.initialised i (omega arith) below)) in
          same_body (c b) (d b) (k.bytes b live) (k.torn b live) (whole_place (block_at v.per e.runs Index i) whole b at)

  index_in : (m : ℕ) (o : Option Stream) → stream_at v (record { file = m; kind = index_allocation; name = names_index }) ≡ o → stream_has_torn c v.per Index 4096 o ≡ false → SameIndexIn c d v.per o
  index_in m None is none = tt
  index_in m (Some (Held value)) is none = tt
  index_in m (Some (Placed e)) is none = λ i below. index_same m e is none i

  same_index_at : (m : ℕ) → SameIndexAt c d v m
  unfolding index_stream
  same_index_at m r is directory =
      index_in m (stream_of index_allocation names_index r.attrs) (ap (file_stream index_allocation names_index) is) (untorn_index m r is directory)

  -- ---- rule 4

  untorn_place : (kind : BlockKind) (n : ℕ) (o : Option Block) → ((b : Block) → o ≡ Some b → IsJudged v b) → is_torn_at c o ≡ false → is_torn_at d o ≡ false
  untorn_place kind n None live whole = refl
  untorn_place kind n (Some b) live whole = false_from_ne_true (d b).torn (λ torn. both_ways (c b).torn whole (k.torn b (live b refl) torn))

  untorn_in : (key : StreamKey) (kind : BlockKind) (size : ℕ) (o : Option Stream) → stream_kind key ≡ kind → kind ≢ Plain → size ≡ 512 * sectors kind → 0 < size → stream_at v key ≡ o → stream_has_torn c v.per kind size o ≡ false → stream_has_torn d v.per kind size o ≡ false
  unfolding has_torn
  untorn_in key kind size None same sectored whole some is none = refl
  untorn_in key kind size (Some (Held value)) same sectored whole some is none = refl
  untorn_in key kind size (Some (Placed e)) same sectored whole some is none =
      all_fail (λ n. is_torn_at d (block_at v.per e.runs kind n)) 0 (begun size e.initialised) (λ n low high.
      let below : size * n < e.initialised = begun_below size e.initialised n some (omega arith) in
      let product : size * n ≡ 512 * (sectors kind * n) = ap (λ (x : ℕ). x * n) whole ∙ times 512 (sectors kind) n in
      untorn_place kind n (block_at v.per e.runs kind n) (λ b at. live_block v key e kind n b is same (other_kind key kind same sectored) at (omega arith))
      (none_at (λ m. is_torn_at c (block_at v.per e.runs kind m)) 0 (begun size e.initialised) n none low high))
    where
      times : (a b c : ℕ) → a * b * c ≡ a * (b * c)
      times a b c = mul_assoc a b c

  untorn_if : (t : Bool) (key : StreamKey) (kind : BlockKind) (size : ℕ) (o : Option Stream) → (t ≡ true → stream_kind key ≡ kind) → kind ≢ Plain → size ≡ 512 * sectors kind → 0 < size → stream_at v key ≡ o → implies t (not (stream_has_torn c v.per kind size o)) ≡ true → implies t (not (stream_has_torn d v.per kind size o)) ≡ true
  untorn_if false key kind size o same sectored whole some is kept = refl
  untorn_if true key kind size o same sectored whole some is kept = ap not (untorn_in key kind size o (same refl) sectored whole some is (not_true (stream_has_torn c v.per kind size o) kept))
    where
      not_true : (t : Bool) → not t ≡ true → t ≡ false
      not_true true e = absurd cc
      not_true false e = refl

  streams_now : (n : ℕ) (r : Record) → file_in v n ≡ Some r → keeps_streams d v n r ≡ true
  unfolding keeps_streams keeps_untorn
  streams_now n r is =
      let parts = and_parts _ _ (streams_at c g clusters v n r s is) in
      let torn = and_parts _ _ parts.1 in
      and_from _ _ parts.0
      (and_from _ _
      (untorn_if ((eqb n table_file) || (eqb n mirror_file)) (record { file = n; kind = data_type; name = [] }) FileRec 1024 (stream_of data_type [] r.attrs) (record_data n) no_records refl (omega arith) (ap (file_stream data_type []) is) torn.0)
      (untorn_if (is_directory_record r) (record { file = n; kind = index_allocation; name = names_index }) Index 4096 (stream_of index_allocation names_index r.attrs) (λ directory. index_type n names_index) no_index refl (omega arith) (ap (file_stream index_allocation names_index) is) torn.1))
    where
      no_records : FileRec ≢ Plain
      no_records is = absurd cc

      no_index : Index ≢ Plain
      no_index is = absurd cc

  at_some : (n : ℕ) (o : Option Record) → file_in v n ≡ o → at_file (keeps_streams d v n) o ≡ true
  at_some n None is = refl
  at_some n (Some r) is = streams_now n r is

  sizes_now : (n : ℕ) → n < file_count v → keeps_sizes d v n ≡ true
  unfolding keeps_sizes
  sizes_now n below = and_from _ _ (at_some n (file_in v n) refl) (and_parts _ _ ((rule_4_parts c v (rules_of c v s.kept).rule_4).1 n below)).1

  rule_4_now : broken_4 d v ≡ None
  unfolding broken_4
  rule_4_now = ap (λ (t : Bool). cond t (first_failing (keeps_sizes d v) (file_count v)) (Some table_file)) (rule_4_parts c v (rules_of c v s.kept).rule_4).0 ∙ fails_nowhere (keeps_sizes d v) (file_count v) sizes_now

  -- ---- the other rules

  upper_now : upper_of d v ≡ upper_of c v
  upper_now = same_upper c d v (same_data upcase_file (λ e. omega (arith, e)) (λ e. omega (arith, e)) (λ e. omega (arith, e)))

  clusters_now : cluster_bits d v ≡ cluster_bits c v
  clusters_now = same_cluster_bits c d v (same_data bitmap_file (λ e. omega (arith, e)) (λ e. omega (arith, e)) (λ e. omega (arith, e)))

  entries_in : SameEntries c d (upper_of c v) v
  unfolding entries_name
  entries_in r is =
      let holder = holder_number v (upper_of c v) r is in
      same_in (record { file = holder.0; kind = data_type; name = entries_name }) (stream_of data_type entries_name r.attrs) (plain_named holder.0 _ _) (other_name holder.0 data_type _ _) (ap (file_stream data_type entries_name) holder.2)

  journal_now : journal_of d (upper_of d v) v ≡ journal_of c (upper_of c v) v
  journal_now = ap (λ (u : List ℕ). journal_of d u v) upper_now ∙ same_journal c d v (upper_of c v) entries_in

  rule_3_now : broken_3 d v ≡ None
  unfolding broken_3
  rule_3_now =
      fails_nowhere (keeps_index d v (upper_of d v)) (count_of v) (λ m below.
      ap (λ (u : List ℕ). keeps_index d v u m) upper_now ∙ same_index c d v (upper_of c v) m (same_index_at m) ∙ passes_below (keeps_index c v (upper_of c v)) (count_of v) (rules_of c v s.kept).rule_3 m below)

  rule_6_now : broken_6 d v ≡ None
  unfolding broken_6
  rule_6_now = ap (λ (l : List Bool). first_failing (keeps_cluster_bit l (volume_runs v.files)) v.clusters) clusters_now ∙ (rules_of c v s.kept).rule_6

  rule_7_now : broken_7 d v ≡ None
  unfolding broken_7
  rule_7_now =
      fails_nowhere (keeps_record_bit d v) (count_of v) (λ m below. kept_bit c d v m same_bitmap same_free below (passes_below (keeps_record_bit c v) (count_of v) (rules_of c v s.kept).rule_7 m below))

  rule_9_now : broken_9 d v ≡ None
  unfolding broken_9
  rule_9_now = ap fault_of journal_now ∙ (rules_of c v s.kept).rule_9

  kept_now : first_broken d v ≡ None
  kept_now =
      let old = rules_of c v s.kept in
      from_rules d v (record { rule_1 = old.rule_1; rule_2 = old.rule_2; rule_3 = rule_3_now; rule_4 = rule_4_now; rule_5 = old.rule_5; rule_6 = rule_6_now; rule_7 = rule_7_now; rule_8 = old.rule_8; rule_9 = rule_9_now })

  pub stands_now : Stands d g clusters v
  stands_now = record { loaded = volume_same; kept = kept_now; some = s.some; room = s.room }

  -- ---- the tree

  shown_user : (m : ℕ) (r : Record) → shows_data (kind_in v m r) ≡ true → first_user_record ≤ m
  unfolding kind_in is_system
  shown_user m r shown = elim (cases_lt m first_user_record) [
    | inl below ↦ absurd (never (is_directory_record r) (rw (lt-ltb m first_user_record below) at shown))
    | inr user ↦ user
  ]
    where
      never : (t : Bool) → shows_data (cond t Directory System) ≡ true → ⊥
      never true e = absurd cc
      never false e = absurd cc

  shown_at : (m : ℕ) → SameShownAt c d v m
  unfolding data_stream
  shown_at m r is = by (shows_data (kind_in v m r)) refl
    where
      by : (t : Bool) → shows_data (kind_in v m r) ≡ t → SameBytesInSome c d v.per (cond t (stream_of data_type [] r.attrs) None)
      by true shown =
          let user = shown_user m r shown in
          subst (λ (o : Option Record). SameBytesInSome c d v.per (file_stream data_type [] o)) is (same_data m (λ e. omega arith) (λ e. omega arith) (λ e. omega arith))
      by false shown = tt

  nodes_now : nodes_by (bytes_or d v.per) v ≡ nodes_by (bytes_or c v.per) v
  unfolding nodes_by
  nodes_now =
      let each : (m : ℕ) → node_at (bytes_or d v.per) v m ≡ node_at (bytes_or c v.per) v m = λ m. same_node c d v m (shown_at m) in
      ap (λ (f : ℕ → Option Node). filter_map f (range_with_len 0 (count_of v))) (fun_ext each)

  pub tree_now : tree_of d v ≡ tree_of c v
  unfolding tree_of tree_with volume_journal free_clusters
  tree_now =
      ap₂ (λ (x : List Node) (y : Option Journal). record { nodes = x; links = all_links (files_by_number v) (count_of v); spare = spare_numbers d v; count = count_of v; journal = y; room = count_by not (cluster_bits d v) }) nodes_now (ap some_journal journal_now)
      ∙ ap₂ (λ (x : List FileRef) (y : List Bool). record { nodes = nodes_by (bytes_or c v.per) v; links = all_links (files_by_number v) (count_of v); spare = x; count = count_of v; journal = some_journal (journal_of c (upper_of c v) v); room = count_by not y }) (same_spares c d v same_bitmap same_free) clusters_now

  pub state_now : IsState d g clusters (tree_of c v)
  state_now = record { volume = v; loaded = volume_same; holds = record { kept = kept_now; tree = sym tree_now } }

pub list_owned : (c d : Content) (v : Volume) (n : ℕ) (r : Record) → ((b : Block) → IsJudged v b → (d b).bytes ≡ (c b).bytes) → stream_at v (list_key n r) ≡ list_stream r → SameBytesInSome c d v.per (list_stream r)
list_owned c d v n r bytes is = by (list_stream r) is
  where
    by : (o : Option Stream) → stream_at v (list_key n r) ≡ o → SameBytesInSome c d v.per o
    by None at = tt
    by (Some (Held value)) at = tt
    by (Some (Placed e)) at = λ b read. (let low = read.below in bytes b (live_block v (list_key n r) e Plain read.sector b at (plain_type n attribute_list _ (λ e. omega (arith, e)) (λ e. omega (arith, e))) (other_type (list_key n r) (λ t. omega (arith, t))) read.lies (omega arith)))
