-- What two contents share of a volume's rules, parts and nodes.
use Rattle.std.proofs.Common.{◌≡◌, ℕ, zero, suc, ◌+◌, ◌-◌, ◌<◌, ◌≤◌, Bool, true, false, not, cond, ◌||◌, eqb, List, [], ◌∷◌, Option, Some, None, Result, Ok, Err, refl, ap, ap₂, ◌∙◌, inl, inr, arith}
use mathlib.Core.Path.{fun_ext}
use Rattle.std.specs.List.{list_any, filter_map, cons_option, range_with_len}
use Rattle.std.proofs.lemmas.Bool.{cases_Bool, cases_lt, and_parts, and_from, or_parts, or_from, both_ways, le-ltb, eqb-true}
use Rattle.volume_state.specs.host_base.Answers.{◌>>=◌, needs}
use Rattle.volume_state.specs.host_base.declared.file_ref.FileRef.{FileRef}
use Rattle.volume_state.specs.disk_model.declared.block.Block.{Block}
use Rattle.volume_state.specs.disk_model.declared.block.BlockKind.{BlockKind}
use Rattle.volume_state.specs.disk_model.declared.block.BlockKind.TheVariants.{FileRec, Index}
use Rattle.volume_state.specs.disk_model.Content.{Content}
use Rattle.volume_state.specs.disk_model.Writes.{Write, overlay}
use Rattle.volume_state.specs.record_model.declared.values.JournalMax.{JournalMax}
use Rattle.volume_state.specs.record_model.Records.{Record}
use Rattle.volume_state.specs.record_model.Constants.{data_type, names_index, index_allocation}
use Rattle.volume_state.specs.file_tree.declared.journal.Journal.{Journal}
use Rattle.volume_state.specs.file_tree.declared.journal.Usn.{Usn}
use Rattle.volume_state.specs.file_tree.declared.link.Link.{Link}
use Rattle.volume_state.specs.file_tree.declared.node.Node.{Node}
use Rattle.volume_state.specs.bit_set.Bits.{bit}
use Rattle.volume_state.specs.upcase_order.Tables.{upcase_of}
use Rattle.volume_state.specs.journal_model.Journals.{journal_in, is_owned}
use Rattle.volume_state.specs.state_model.declared.stream.Extents.{Extents}
use Rattle.volume_state.specs.state_model.declared.stream.Stream.{Stream}
use Rattle.volume_state.specs.state_model.declared.stream.Stream.TheVariants.{Held, Placed}
use Rattle.volume_state.specs.state_model.Files.{is_directory_record, reference}
use Rattle.volume_state.specs.state_model.Rules.{implies, at_file}
use Rattle.volume_state.specs.state_model.Streams.{stream_of, block_at, byte_at}
use Rattle.volume_state.specs.file_tree.Walks.{first_user_record}
use Rattle.volume_state.specs.state_model.Trees.{is_nameless}
use Rattle.volume_state.specs.volume_model.Volumes.{Volume, files_by_number, count_of, file_in, table_file, mirror_file, upcase_file, file_stream, bytes_or, record_bytes, is_in_use, record_bitmap, record_bits, table_or_standard, upper_of}
use Rattle.volume_state.specs.volume_model.Indexes.{index_stream, index_links, lists_names, keeps_index}
use Rattle.volume_state.specs.volume_model.Sizes.{is_torn_at, begun, has_torn, stream_has_torn, keeps_untorn, keeps_streams, keeps_sizes}
use Rattle.volume_state.specs.volume_model.Owners.{keeps_record_bit}
use Rattle.volume_state.specs.volume_model.Nodes.{kind_in, data_shown, node_with, node_by, some_node, node_at, spare_sequence, spare_at, spare_numbers}
use Rattle.volume_state.specs.Journals.{entries_name, journal_file, journal_first, has_journal_shape, limits_in, entries_in, journal_entries, journal_owned, journal_of_streams, journal_of_file, entries_flags, limits_name, journal_of}
use Rattle.stream_laws.specs.Frames.{SameBytesIn, SameBytesInStream, SameBytesInSome, SameIndexIn}
use Rattle.stream_laws.proofs.Framing.{same_byte, same_file, same_record_bytes, same_in_use, same_links}
use Rattle.stream_laws.proofs.Loading.{same_record_bits}
use Rattle.tree_laws.specs.Contents.{IsNoMoreTorn, SameUpper, SameFreeRecords, SameIndexAt, SameShownAt, SameEntries, AgreeBut}

-- ---- writes

pub no_more_torn : (c : Content) (writes : List Write) → IsNoMoreTorn c (overlay c writes)
no_more_torn c writes b torn = (and_parts _ _ torn).0

-- ---- a content and itself

same_in_stream : (c : Content) (per : ℕ) (s : Stream) → SameBytesInStream c c per s
same_in_stream c per (Held value) = tt
same_in_stream c per (Placed e) = λ b read. refl

same_in_some : (c : Content) (per : ℕ) (s : Option Stream) → SameBytesInSome c c per s
same_in_some c per None = tt
same_in_some c per (Some s) = same_in_stream c per s

same_in_index : (c : Content) (per : ℕ) (s : Option Stream) → SameIndexIn c c per s
same_in_index c per None = tt
same_in_index c per (Some (Held value)) = tt
same_in_index c per (Some (Placed e)) = λ i below. refl

pub agrees_with_itself : (n : ℕ) (c : Content) (v : Volume) → AgreeBut n c c v
agrees_with_itself n c v = record {
  torn = λ b torn. torn;
  upper = same_in_some c v.per (file_stream data_type [] (file_in v upcase_file));
  bits = same_in_some c v.per (record_bitmap v);
  free = λ m below clear b is. refl;
  journal = λ r is. same_in_some c v.per (stream_of data_type entries_name r.attrs);
  indexes = λ m other r is directory. same_in_index c v.per (index_stream r);
  shown = λ m other r is. same_in_some c v.per (data_shown (kind_in v m r) r);
}

-- ---- the table of upper-case units and rule 3

pub same_upper : (c d : Content) (v : Volume) → SameUpper c d v → upper_of d v ≡ upper_of c v
unfolding upper_of
same_upper c d v same = ap (λ (l : List ℕ). table_or_standard (upcase_of l)) (same_file c d v.per (file_stream data_type [] (file_in v upcase_file)) same)

pub same_asked : (f g : Record → Bool) (o : Option Record) → ((r : Record) → o ≡ Some r → g r ≡ f r) → at_file g o ≡ at_file f o
same_asked f g None same = refl
same_asked f g (Some r) same = same r refl

pub asked_if : (a x y : Bool) → (a ≡ true → y ≡ x) → implies a y ≡ implies a x
asked_if true x y same = same refl
asked_if false x y same = refl

pub same_index : (c d : Content) (v : Volume) (upper : List ℕ) (n : ℕ) → SameIndexAt c d v n → keeps_index d v upper n ≡ keeps_index c v upper n
unfolding keeps_index
same_index c d v upper n same =
    let listed : Record → Option (List Link) → Bool = λ r. lists_names upper (files_by_number v) (count_of v) (reference n r) in
    same_asked
    (λ r. implies (is_directory_record r) (lists_names upper (files_by_number v) (count_of v) (reference n r) (index_links c v.per upper r)))
    (λ r. implies (is_directory_record r) (lists_names upper (files_by_number v) (count_of v) (reference n r) (index_links d v.per upper r)))
    (file_in v n)
    (λ r is. asked_if (is_directory_record r) _ _ (λ directory. ap (listed r) (same_links c d v.per upper r (same r is directory))))

-- ---- rule 4

any_less : (f g : ℕ → Bool) → ((m : ℕ) → f m ≡ false → g m ≡ false) → (numbers : List ℕ) → list_any f numbers ≡ false → list_any g numbers ≡ false
any_less f g less [] none = refl
any_less f g less (m ∷ numbers) none =
    let parts = or_parts (f m) (list_any f numbers) none in
    or_from (g m) (list_any g numbers) (less m parts.0) (any_less f g less numbers parts.1)

module _ (c d : Content) (less : IsNoMoreTorn c d) where
  untorn_block : (o : Option Block) → is_torn_at c o ≡ false → is_torn_at d o ≡ false
  untorn_block None whole = refl
  untorn_block (Some b) whole = elim (cases_Bool (d b).torn) [
    | inl torn ↦ absurd (both_ways (c b).torn whole (less b torn))
    | inr untorn ↦ untorn
  ]

  untorn_extents : (per : ℕ) (kind : BlockKind) (size : ℕ) (e : Extents) → has_torn c per kind size e ≡ false → has_torn d per kind size e ≡ false
  unfolding has_torn
  untorn_extents per kind size e none =
      any_less (λ n. is_torn_at c (block_at per e.runs kind n)) (λ n. is_torn_at d (block_at per e.runs kind n)) (λ n whole. untorn_block (block_at per e.runs kind n) whole) (range_with_len 0 (begun size e.initialised)) none

  untorn_stream : (per : ℕ) (kind : BlockKind) (size : ℕ) (s : Option Stream) → stream_has_torn c per kind size s ≡ false → stream_has_torn d per kind size s ≡ false
  untorn_stream per kind size None none = refl
  untorn_stream per kind size (Some (Held value)) none = refl
  untorn_stream per kind size (Some (Placed e)) none = untorn_extents per kind size e none

asked_less : (a x y : Bool) → (x ≡ false → y ≡ false) → implies a (not x) ≡ true → implies a (not y) ≡ true
asked_less false x y less asked = refl
asked_less true false y less asked = ap not (less refl)
asked_less true true y less asked = absurd cc

untorn : (c d : Content) (per n : ℕ) (r : Record) → IsNoMoreTorn c d → keeps_untorn c per n r ≡ true → keeps_untorn d per n r ≡ true
unfolding keeps_untorn
untorn c d per n r less kept =
    let parts = and_parts _ _ kept in
    let records = stream_of data_type [] r.attrs in
    let blocks = stream_of index_allocation names_index r.attrs in
    and_from _ _
    (asked_less ((eqb n table_file) || (eqb n mirror_file)) (stream_has_torn c per FileRec 1024 records) (stream_has_torn d per FileRec 1024 records) (untorn_stream c d less per FileRec 1024 records) parts.0)
    (asked_less (is_directory_record r) (stream_has_torn c per Index 4096 blocks) (stream_has_torn d per Index 4096 blocks) (untorn_stream c d less per Index 4096 blocks) parts.1)

kept_streams : (c d : Content) (v : Volume) (n : ℕ) (r : Record) → IsNoMoreTorn c d → keeps_streams c v n r ≡ true → keeps_streams d v n r ≡ true
unfolding keeps_streams
kept_streams c d v n r less kept = let parts = and_parts _ _ kept in and_from _ _ parts.0 (untorn c d v.per n r less parts.1)

kept_at : (f g : Record → Bool) (o : Option Record) → ((r : Record) → f r ≡ true → g r ≡ true) → at_file f o ≡ true → at_file g o ≡ true
kept_at f g None each kept = refl
kept_at f g (Some r) each kept = each r kept

pub kept_sizes : (c d : Content) (v : Volume) (n : ℕ) → IsNoMoreTorn c d → keeps_sizes c v n ≡ true → keeps_sizes d v n ≡ true
unfolding keeps_sizes
kept_sizes c d v n less kept =
    let parts = and_parts _ _ kept in
    and_from _ _ (kept_at (keeps_streams c v n) (keeps_streams d v n) (file_in v n) (λ r was. kept_streams c d v n r less was) parts.0) parts.1

-- ---- rule 7 and the spare numbers

pub asked_when_clear : (a x y : Bool) → (y ≡ false → a ≡ x) → implies x y ≡ true → implies a y ≡ true
asked_when_clear true x true same kept = refl
asked_when_clear false x true same kept = refl
asked_when_clear a x false same kept = ap (λ (t : Bool). implies t false) (same refl) ∙ kept

pub kept_bit : (c d : Content) (v : Volume) (n : ℕ) → SameBytesInSome c d v.per (record_bitmap v) → SameFreeRecords c d v → n < count_of v → keeps_record_bit c v n ≡ true → keeps_record_bit d v n ≡ true
unfolding keeps_record_bit
kept_bit c d v n bits free below kept =
    ap (λ (l : List Bool). implies (is_in_use d v n) (bit l n)) (same_record_bits c d v bits)
    ∙ asked_when_clear (is_in_use d v n) (is_in_use c v n) (bit (record_bits c v) n) (λ clear. same_in_use c d v n (free n below clear)) kept

abbrev pub spare_with : ℕ → Bool → List ℕ → Option FileRef
spare_with n marked bytes = cond marked None (Some (record { number = n; seq = spare_sequence bytes }))

pub same_spare_with : (n : ℕ) (marked : Bool) (bytes other : List ℕ) → (marked ≡ false → other ≡ bytes) → spare_with n marked other ≡ spare_with n marked bytes
same_spare_with n true bytes other same = refl
same_spare_with n false bytes other same = ap (spare_with n false) (same refl)

same_spare : (c d : Content) (v : Volume) (n : ℕ) → SameBytesInSome c d v.per (record_bitmap v) → SameFreeRecords c d v → n < count_of v → spare_at d v n ≡ spare_at c v n
unfolding spare_at
same_spare c d v n bits free below =
    ap (λ (l : List Bool). spare_with n (bit l n) (record_bytes d v n)) (same_record_bits c d v bits)
    ∙ same_spare_with n (bit (record_bits c v) n) (record_bytes c v n) (record_bytes d v n) (λ clear. same_record_bytes c d v n (free n below clear))

same_filter : {X : Type 0} (f g : ℕ → Option X) (a k : ℕ) → ((m : ℕ) → a ≤ m → m < a + k → g m ≡ f m) → filter_map g (range_with_len a k) ≡ filter_map f (range_with_len a k)
same_filter f g a zero each = refl
same_filter {X} f g a (suc k) each =
    ap (λ (o : Option X). cons_option o (filter_map g (range_with_len (a + 1) k))) (each a (omega arith) (omega arith))
    ∙ ap (λ (l : List X). cons_option (f a) l) (same_filter f g (a + 1) k (λ m low high. each m (omega arith) (omega arith)))

pub same_spares : (c d : Content) (v : Volume) → SameBytesInSome c d v.per (record_bitmap v) → SameFreeRecords c d v → spare_numbers d v ≡ spare_numbers c v
unfolding spare_numbers
same_spares c d v bits free =
    same_filter (spare_at c v) (spare_at d v) first_user_record (count_of v - first_user_record) (λ m low high. same_spare c d v m bits free (omega arith))

-- ---- rule 9

same_bytes : (c d : Content) (per : ℕ) (e : Extents) → e.initialised ≤ e.real → SameBytesIn c d per e → (i : ℕ) → byte_at d per e i ≡ byte_at c per e i
unfolding byte_at
same_bytes c d per e sized same i = elim (cases_lt i e.initialised) [
  | inl below ↦ same_byte c d per e i (omega arith) same
  | inr past ↦ rw (le-ltb i e.initialised past) refl
]

same_entries : (c d : Content) (per : ℕ) (e : Extents) → e.initialised ≤ e.real → SameBytesIn c d per e → journal_entries d per e ≡ journal_entries c per e
unfolding journal_entries
same_entries c d per e sized same = ap (λ (byte : ℕ → ℕ). journal_in byte (journal_first per e) e.real) (fun_ext (same_bytes c d per e sized same))

same_le : (a b : ℕ) → a ≡ b → a ≤ b
same_le a b same = omega arith

shape_sized : (per flags : ℕ) (e : Extents) → has_journal_shape per flags e ≡ true → e.initialised ≤ e.real
unfolding has_journal_shape
shape_sized per flags e shaped =
    let first = and_parts _ _ shaped in
    let second = and_parts _ _ first.0 in
    let third = and_parts _ _ second.0 in
    let fourth = and_parts _ _ third.0 in
    let fifth = and_parts _ _ fourth.0 in
    same_le e.initialised e.real (eqb-true e.initialised e.real fifth.1)

same_owned : (c d : Content) (per : ℕ) (e : Extents) → e.initialised ≤ e.real → SameBytesIn c d per e → journal_owned d per e ≡ journal_owned c per e
unfolding journal_owned
same_owned c d per e sized same = ap (λ (byte : ℕ → ℕ). is_owned byte (journal_first per e) e.real) (fun_ext (same_bytes c d per e sized same))

-- the journal with these limits, from its entries
from_entries : ℕ → JournalMax → Extents → Bool → Result (List Usn) ℕ → Result (Option Journal) ℕ
from_entries per limits e owned read =
    read >>= λ entries. Ok (Some (record { max = limits.max; delta = limits.delta; first = journal_first per e; next = e.real; reach = e.allocated; owned = owned; entries = entries }))

asked_shape : (shaped : Bool) (e : Extents) (f g : Extents → Result (Option Journal) ℕ) → (shaped ≡ true → g e ≡ f e) → ((needs shaped 0 >>= λ _. Ok e) >>= g) ≡ ((needs shaped 0 >>= λ _. Ok e) >>= f)
asked_shape true e f g same = same refl
asked_shape false e f g same = refl

same_journal_in : (c d : Content) (per flags : ℕ) (limits : JournalMax) (j : Stream) → SameBytesInStream c d per j
    → (entries_in per flags j >>= λ e. from_entries per limits e (journal_owned d per e) (journal_entries d per e)) ≡ (entries_in per flags j >>= λ e. from_entries per limits e (journal_owned c per e) (journal_entries c per e))
same_journal_in c d per flags limits (Held value) same = refl
same_journal_in c d per flags limits (Placed e) same =
    asked_shape (has_journal_shape per flags e) e
    (λ x. from_entries per limits x (journal_owned c per x) (journal_entries c per x))
    (λ x. from_entries per limits x (journal_owned d per x) (journal_entries d per x))
    (λ shaped. ap₂ (from_entries per limits e) (same_owned c d per e (shape_sized per flags e shaped) same) (same_entries c d per e (shape_sized per flags e shaped) same))

after_limits : (read : Result JournalMax ℕ) (f g : JournalMax → Result (Option Journal) ℕ) → ((limits : JournalMax) → g limits ≡ f limits) → (read >>= g) ≡ (read >>= f)
after_limits (Ok limits) f g same = same limits
after_limits (Err place) f g same = refl

same_of_streams : (c d : Content) (per flags : ℕ) (max j : Option Stream) → SameBytesInSome c d per j → journal_of_streams d per flags max j ≡ journal_of_streams c per flags max j
unfolding from_entries
same_of_streams c d per flags None j same = refl
same_of_streams c d per flags (Some max) None same = refl
same_of_streams c d per flags (Some max) (Some j) same =
    after_limits (limits_in max)
    (λ limits. entries_in per flags j >>= λ e. from_entries per limits e (journal_owned c per e) (journal_entries c per e))
    (λ limits. entries_in per flags j >>= λ e. from_entries per limits e (journal_owned d per e) (journal_entries d per e))
    (λ limits. same_journal_in c d per flags limits j same)

same_of_file : (c d : Content) (per : ℕ) (o : Option Record) → ((r : Record) → o ≡ Some r → SameBytesInSome c d per (stream_of data_type entries_name r.attrs)) → journal_of_file d per o ≡ journal_of_file c per o
same_of_file c d per None same = refl
same_of_file c d per (Some r) same = same_of_streams c d per (entries_flags r) (stream_of data_type limits_name r.attrs) (stream_of data_type entries_name r.attrs) (same r refl)

pub same_journal : (c d : Content) (v : Volume) (upper : List ℕ) → SameEntries c d upper v → journal_of d upper v ≡ journal_of c upper v
unfolding journal_of
same_journal c d v upper same = same_of_file c d v.per (journal_file upper v) same

-- ---- nodes

same_node_by : (c d : Content) (v : Volume) (n : ℕ) (r : Record) → SameBytesInSome c d v.per (data_shown (kind_in v n r) r) → node_by (bytes_or d v.per) v n r ≡ node_by (bytes_or c v.per) v n r
unfolding node_by
same_node_by c d v n r same = ap (node_with n r (kind_in v n r) (data_shown (kind_in v n r) r)) (same_file c d v.per (data_shown (kind_in v n r) r) same)

same_some_node : (c d : Content) (v : Volume) (n : ℕ) (o : Option Record) → ((r : Record) → o ≡ Some r → SameBytesInSome c d v.per (data_shown (kind_in v n r) r)) → some_node (bytes_or d v.per) v n o ≡ some_node (bytes_or c v.per) v n o
same_some_node c d v n None same = refl
same_some_node c d v n (Some r) same = ap (λ (x : Node). cond (is_nameless n r) None (Some x)) (same_node_by c d v n r (same r refl))

pub same_node : (c d : Content) (v : Volume) (n : ℕ) → SameShownAt c d v n → node_at (bytes_or d v.per) v n ≡ node_at (bytes_or c v.per) v n
unfolding node_at
same_node c d v n same = same_some_node c d v n (file_in v n) same
