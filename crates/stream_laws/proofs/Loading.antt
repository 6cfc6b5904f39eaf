-- A volume is the same where two contents agree on what it is loaded from.
use Rattle.std.proofs.Common.{◌≡◌, ℕ, zero, suc, ◌<◌, Bool, true, false, not, cond, ◌&&◌, ◌||◌, eqb, List, ◌++◌, map, Option, Some, None, Result, Ok, Err, refl, ap, ◌∙◌, arith}
use Rattle.std.specs.List.{flat_map, range_with_len}
use Rattle.volume_model.specs.host_base.Answers.{◌>>=◌}
use Rattle.volume_model.specs.disk_model.declared.block.Body.{Body}
use Rattle.volume_model.specs.disk_model.declared.block.BlockKind.TheVariants.{FileRec}
use Rattle.volume_model.specs.disk_model.Content.{Content, HasSizes}
use Rattle.volume_model.specs.disk_model.Writes.{Write, overlay}
use Rattle.volume_model.specs.record_model.Records.{Record, record_at}
use Rattle.volume_model.specs.record_model.declared.attribute.Attr.{Attr}
use Rattle.volume_model.specs.record_model.ListEntries.{ReadEntries, list_entries}
use Rattle.volume_model.specs.file_tree.declared.node.Node.{Node}
use Rattle.volume_model.specs.bit_set.Words.{bits_of_bytes}
use Rattle.volume_model.specs.state_model.declared.geometry.Geometry.{Geometry}
use Rattle.volume_model.specs.state_model.declared.geometry.MapRefusal.{MapRefusal}
use Rattle.volume_model.specs.state_model.declared.stream.Extents.{Extents}
use Rattle.volume_model.specs.state_model.declared.stream.Stream.{Stream}
use Rattle.volume_model.specs.state_model.Files.{Table, file_at}
use Rattle.volume_model.specs.state_model.Trees.{is_nameless}
use Rattle.volume_model.specs.state_model.Streams.{has_cut_block}
use Rattle.volume_model.specs.state_model.Loads.{Slot, slot_by, boot_block, judged, extents_in, record_count, table_of, table_slot, records_of, table_in, list_stream, list_entries_in, entries_of, holds_all, has_held_list, named_attrs, all_attrs, whole_file, joined_file, cuts_index, breaks_9, breaks_list, breaks_10, broken_rule, or_rule, rule_at, torn_refusal, rule_refusal, first_some, first_of, unless, files_of, files_in, data_stream}
use Rattle.volume_model.specs.Volumes.{Volume, volume_of, count_of, file_in, bytes_or, cluster_bitmap, record_bitmap, cluster_bits, record_bits}
use Rattle.volume_model.specs.Nodes.{kind_in, shows_data, data_shown, node_with, node_by, some_node, node_at}
use Rattle.stream_laws.specs.Frames.{SameBytesInSome}
use Rattle.stream_laws.specs.Changes.{AreElsewhere}
use Rattle.stream_laws.specs.Volumes.{SameTableIn, LeavesTable, SameDataIn}
use Rattle.stream_laws.proofs.Framing.{same_map, same_stream, same_file, same_slot, same_records}
use Rattle.stream_laws.proofs.Changing.{body_elsewhere, bytes_agree, record_agrees}

-- ---- attribute lists

same_entries_in : (c d : Content) (per : ℕ) (s : Option Stream) → SameBytesInSome c d per s → list_entries_in d per s ≡ list_entries_in c per s
same_entries_in c d per None same = refl
same_entries_in c d per (Some s) same = ap list_entries (same_stream c d per s same)

pub same_entries : (c d : Content) (per : ℕ) (r : Record) → SameBytesInSome c d per (list_stream r) → entries_of d per r ≡ entries_of c per r
unfolding entries_of
same_entries c d per r same = same_entries_in c d per (list_stream r) same

-- what is known of the list of a record, if there is one
abbrev SameListIn : Content → Content → ℕ → Option Record → Type 0
SameListIn c d per o = (r : Record) → o ≡ Some r → SameBytesInSome c d per (list_stream r)

with_attrs : Record → List Attr → Option Record
with_attrs r attrs = Some (record { head = r.head; attrs = attrs })

same_attrs : (c d : Content) (per : ℕ) (p : Table) (count n : ℕ) (r : Record) → SameBytesInSome c d per (list_stream r) → all_attrs d per p count n r ≡ all_attrs c per p count n r
unfolding all_attrs
same_attrs c d per p count n r same = ap (λ (l : ReadEntries). r.attrs ++ flat_map (λ m. named_attrs l.entries n r m (p m)) (range_with_len 0 count)) (same_entries c d per r same)

same_whole : (c d : Content) (per : ℕ) (p : Table) (count n : ℕ) (o : Option Record) → SameListIn c d per o → whole_file d per p count n o ≡ whole_file c per p count n o
unfolding with_attrs
same_whole c d per p count n None same = refl
same_whole c d per p count n (Some r) same = ap (with_attrs r) (same_attrs c d per p count n r (same r refl))

same_joined : (c d : Content) (per : ℕ) (p : Table) (count n : ℕ) → SameListIn c d per (file_at p n) → joined_file d per p count n ≡ joined_file c per p count n
unfolding joined_file
same_joined c d per p count n same = same_whole c d per p count n (file_at p n) same

same_held : (c d : Content) (per : ℕ) (p : Table) (n : ℕ) (r : Record) → SameBytesInSome c d per (list_stream r) → has_held_list d per p n r ≡ has_held_list c per p n r
unfolding has_held_list
same_held c d per p n r same = ap (holds_all p n r) (same_entries c d per r same)

same_list_test : (c d : Content) (per : ℕ) (p : Table) (n : ℕ) (o : Option Record) → SameListIn c d per o → breaks_list d per p n o ≡ breaks_list c per p n o
same_list_test c d per p n None same = refl
same_list_test c d per p n (Some r) same = ap not (same_held c d per p n r (same r refl))

same_9 : (c d : Content) (per : ℕ) (e : Extents) (p : Table) (count n : ℕ) → SameListIn c d per (file_at p n) → breaks_9 d per e p count n ≡ breaks_9 c per e p count n
unfolding breaks_9
same_9 c d per e p count n same = ap (λ (o : Option Record). ((eqb n 0) && has_cut_block per FileRec count e.runs) || cuts_index per o) (same_joined c d per p count n same)

same_10 : (c d : Content) (per : ℕ) (p : Table) (n : ℕ) → SameListIn c d per (file_at p n) → breaks_10 d per p n ≡ breaks_10 c per p n
unfolding breaks_10
same_10 c d per p n same = same_list_test c d per p n (file_at p n) same

-- ---- the records of the table

module _ (c d : Content) (per : ℕ) (e : Extents) (same : SameTableIn c d per e) where
  table : records_of (table_slot d per e) (record_count e) ≡ records_of (table_slot c per e) (record_count e)
  table = same_records c d per e (record_count e) same.records

  same_rule : (n : ℕ) → n < record_count e → rule_at d per e n ≡ rule_at c per e n
  unfolding rule_at
  same_rule n below =
      let p = table_in (records_of (table_slot c per e) (record_count e)) in
      let lists : SameListIn c d per (file_at p n) = λ r is. same.lists n r is in
      ap (λ (l : List (Option Record)). or_rule (broken_rule (table_slot d per e n)) (breaks_9 d per e (table_in l) (record_count e) n) (breaks_10 d per (table_in l) n)) table
      ∙ ap (λ (x : Slot). or_rule (broken_rule x) (breaks_9 d per e p (record_count e) n) (breaks_10 d per p n)) (same_slot c d per e n (same.records n below))
      ∙ ap (λ (t : Bool). or_rule (broken_rule (table_slot c per e n)) t (breaks_10 d per p n)) (same_9 c d per e p (record_count e) n lists)
      ∙ ap (λ (t : Bool). or_rule (broken_rule (table_slot c per e n)) (breaks_9 c per e p (record_count e) n) t) (same_10 c d per p n lists)

  same_files_of : files_of d per (table_in (records_of (table_slot d per e) (record_count e))) (record_count e) ≡ files_of c per (table_in (records_of (table_slot c per e) (record_count e))) (record_count e)
  unfolding files_of
  same_files_of =
      let p = table_in (records_of (table_slot c per e) (record_count e)) in
      ap (λ (l : List (Option Record)). map (joined_file d per (table_in l) (record_count e)) (range_with_len 0 (record_count e))) table
      ∙ same_map (joined_file d per p (record_count e)) (joined_file c per p (record_count e)) 0 (record_count e) (λ n low high. same_joined c d per p (record_count e) n (λ r is. same.lists n r is))

first_same : {A : Type 0} (f g : ℕ → Option A) (count : ℕ) → ((n : ℕ) → n < count → f n ≡ g n) → first_of f count ≡ first_of g count
unfolding first_of
first_same f g zero each = refl
first_same {A} f g (suc count) each =
    ap (λ (o : Option A). first_some o (f count)) (first_same f g count (λ n below. each n (omega arith)))
    ∙ ap (λ (o : Option A). first_some (first_of g count) o) (each count (omega arith))

answer : Option MapRefusal → Option MapRefusal → List (Option Record) → Result (List (Option Record)) MapRefusal
answer torn broken files = unless torn >>= λ _. unless broken >>= λ _. Ok files

pub same_files : (c d : Content) (per : ℕ) (e : Extents) → SameTableIn c d per e → files_in d per e ≡ files_in c per e
unfolding files_in answer
same_files c d per e same =
    let count = record_count e in
    let torn : Content → Option MapRefusal = λ x. first_of (λ n. torn_refusal n (table_slot x per e n)) count in
    let broken : Content → Option MapRefusal = λ x. first_of (λ n. rule_refusal n (rule_at x per e n)) count in
    let files : Content → List (Option Record) = λ x. files_of x per (table_in (records_of (table_slot x per e) count)) count in
    ap (λ (o : Option MapRefusal). answer o (broken d) (files d)) (first_same (λ n. torn_refusal n (table_slot d per e n)) (λ n. torn_refusal n (table_slot c per e n)) count (λ n below. ap (torn_refusal n) (same_slot c d per e n (same.records n below))))
    ∙ ap (λ (o : Option MapRefusal). answer (torn c) o (files d)) (first_same (λ n. rule_refusal n (rule_at d per e n)) (λ n. rule_refusal n (rule_at c per e n)) count (λ n below. ap (rule_refusal n) (same_rule c d per e same n below)))
    ∙ ap (answer (torn c) (broken c)) (same_files_of c d per e same)

-- ---- the volume

pub same_table : (c d : Content) (g : Geometry) → d (boot_block g 0) ≡ c (boot_block g 0) → table_of d g ≡ table_of c g
unfolding table_of
same_table c d g same = ap (λ (b : Body). judged 0 (slot_by record_at b) >>= extents_in) same

of_files : ℕ → ℕ → ℕ → Extents → Result (List (Option Record)) MapRefusal → Result Volume MapRefusal
of_files per clusters mft e read = read >>= λ files. Ok (record { per = per; clusters = clusters; mft = mft; table = e; files = files })

for_table : (per clusters mft : ℕ) (f g : Extents → Result (List (Option Record)) MapRefusal) (t : Result Extents MapRefusal) → ((e : Extents) → t ≡ Ok e → f e ≡ g e) → (t >>= λ e. of_files per clusters mft e (f e)) ≡ (t >>= λ e. of_files per clusters mft e (g e))
for_table per clusters mft f g (Ok e) same = ap (of_files per clusters mft e) (same e refl)
for_table per clusters mft f g (Err refusal) same = refl

pub same_volume : (c d : Content) (g : Geometry) (clusters : ℕ) → d (boot_block g 0) ≡ c (boot_block g 0) → ((e : Extents) → table_of c g ≡ Ok e → SameTableIn c d g.per_cluster e) → volume_of d g clusters ≡ volume_of c g clusters
unfolding volume_of of_files
same_volume c d g clusters boot same =
    ap (λ (t : Result Extents MapRefusal). t >>= λ e. of_files g.per_cluster clusters g.mft e (files_in d g.per_cluster e)) (same_table c d g boot)
    ∙ for_table g.per_cluster clusters g.mft (files_in d g.per_cluster) (files_in c g.per_cluster) (table_of c g) (λ e is. same_files c d g.per_cluster e (same e is))

left_table : (c : Content) (writes : List Write) (per : ℕ) (e : Extents) → HasSizes c → LeavesTable c writes per e → SameTableIn c (overlay c writes) per e
left_table c writes per e sized leaves = record {
  records = λ n below. record_agrees c writes per e n sized (leaves.records n below);
  lists = λ n r is. bytes_agree c writes per (list_stream r) (leaves.lists n r is);
}

pub volume_stays : (c : Content) (writes : List Write) (g : Geometry) (clusters : ℕ) → HasSizes c → AreElsewhere writes (boot_block g 0) → ((e : Extents) → table_of c g ≡ Ok e → LeavesTable c writes g.per_cluster e) → volume_of (overlay c writes) g clusters ≡ volume_of c g clusters
volume_stays c writes g clusters sized boot leaves =
    same_volume c (overlay c writes) g clusters (body_elsewhere c writes (boot_block g 0) sized boot) (λ e is. left_table c writes g.per_cluster e sized (leaves e is))

-- ---- bitmaps and nodes

pub same_cluster_bits : (c d : Content) (v : Volume) → SameBytesInSome c d v.per (cluster_bitmap v) → cluster_bits d v ≡ cluster_bits c v
unfolding cluster_bits
same_cluster_bits c d v same = ap (λ (l : List ℕ). bits_of_bytes l v.clusters) (same_file c d v.per (cluster_bitmap v) same)

pub same_record_bits : (c d : Content) (v : Volume) → SameBytesInSome c d v.per (record_bitmap v) → record_bits d v ≡ record_bits c v
unfolding record_bits
same_record_bits c d v same = ap (λ (l : List ℕ). bits_of_bytes l (count_of v)) (same_file c d v.per (record_bitmap v) same)

same_shown : (c d : Content) (per : ℕ) (t : Bool) (s : Option Stream) → SameBytesInSome c d per s → bytes_or d per (cond t s None) ≡ bytes_or c per (cond t s None)
same_shown c d per true s same = same_file c d per s same
same_shown c d per false s same = refl

same_node_by : (c d : Content) (v : Volume) (n : ℕ) (r : Record) → SameBytesInSome c d v.per (data_stream r) → node_by (bytes_or d v.per) v n r ≡ node_by (bytes_or c v.per) v n r
unfolding node_by
same_node_by c d v n r same =
    ap (node_with n r (kind_in v n r) (data_shown (kind_in v n r) r)) (same_shown c d v.per (shows_data (kind_in v n r)) (data_stream r) same)

same_some : (c d : Content) (v : Volume) (n : ℕ) (o : Option Record) → ((r : Record) → o ≡ Some r → SameBytesInSome c d v.per (data_stream r)) → some_node (bytes_or d v.per) v n o ≡ some_node (bytes_or c v.per) v n o
same_some c d v n None same = refl
same_some c d v n (Some r) same = ap (λ (x : Node). cond (is_nameless n r) None (Some x)) (same_node_by c d v n r (same r refl))

pub same_node_at : (c d : Content) (v : Volume) (n : ℕ) → SameDataIn c d v n → node_at (bytes_or d v.per) v n ≡ node_at (bytes_or c v.per) v n
unfolding node_at
same_node_at c d v n same = same_some c d v n (file_in v n) same
