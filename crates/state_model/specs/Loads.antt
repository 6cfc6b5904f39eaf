-- The records in use of a volume's file table, with the attributes that their lists name, or what refuses them.
use Rattle.std.specs.Prelude.{ℕ, zero, suc, ◌+◌, ◌*◌, ◌/◌, ◌%◌, ◌^◌, Bool, true, false, not, ◌&&◌, ◌||◌, ◌==◌, nat_le, nat_eq, if◌then◌else◌, List, [], ◌∷◌, ◌++◌, map, filter, find, slice_index_or, Option, Some, None, Result, Ok, Err}
use Rattle.std.specs.List.{list_all, list_any, flat_map, range_with_len}
use Rattle.std.specs.Cmp.Lexicographic.{pointwise}
use Rattle.record_model.specs.host_base.Answers.{◌>>=◌, needs}
use Rattle.record_model.specs.host_base.FileRefs.{same_reference}
use Rattle.record_model.specs.disk_model.declared.block.Block.{Block}
use Rattle.record_model.specs.disk_model.declared.block.Body.{Body}
use Rattle.record_model.specs.disk_model.declared.block.BlockKind.TheVariants.{FileRec, Index}
use Rattle.record_model.specs.disk_model.Content.{Content, is_signed}
use Rattle.record_model.specs.declared.attribute.Sizes.{Sizes}
use Rattle.record_model.specs.declared.attribute.OwnForm.{OwnForm}
use Rattle.record_model.specs.declared.attribute.OwnForm.TheVariants.{Resident, Mapped}
use Rattle.record_model.specs.declared.attribute.Attr.{Attr}
use Rattle.record_model.specs.declared.list_entry.ListEntry.{ListEntry}
use Rattle.record_model.specs.declared.runs.Run.{Run}
use Rattle.record_model.specs.declared.runs.PairsFault.{PairsFault}
use Rattle.record_model.specs.Pairs.{runs_of}
use Rattle.record_model.specs.Records.{Record, record_at, shaped_at, has_lawful_values, has_in_use_flag}
use Rattle.record_model.specs.ListEntries.{ReadEntries, list_entries}
use Rattle.record_model.specs.Constants.{attribute_list, data_type, index_allocation, names_index}
use Rattle.state_model.specs.declared.geometry.Geometry.{Geometry}
use Rattle.state_model.specs.declared.geometry.MapRefusal.{MapRefusal}
use Rattle.state_model.specs.declared.geometry.MapRefusal.TheVariants.{BadFixup, BadRecord, MftList, MftLarge}
use Rattle.state_model.specs.declared.stream.Extents.{Extents}
use Rattle.state_model.specs.declared.stream.Stream.{Stream}
use Rattle.state_model.specs.declared.stream.Stream.TheVariants.{Held, Placed}
use Rattle.state_model.specs.Files.{Table, file_at, reference, is_directory_record, has_type}
use Rattle.state_model.specs.Streams.{first_vcn, stream_of, stream_bytes, block_at, has_cut_block}

-- ---- one record

-- torn, not in use, breaking a rule, or in use
pub data Slot : Type 0 where
  Torn : Slot
  Free : Slot
  Broken : ℕ → Slot
  Used : Record → Slot

-- the clusters of runs
abbrev pub total_clusters : List Run → ℕ
total_clusters [] = 0
total_clusters (r ∷ runs) = r.len + total_clusters runs

-- the runs are those from the first VCN to the last one, modulo 2^64
abbrev pub span : Sizes → Result (List Run) PairsFault → Bool
span sizes (Ok runs) = (sizes.first + total_clusters runs) % 2 ^ 64 == (sizes.last + 1) % 2 ^ 64
span sizes (Err fault) = false

abbrev pub form_fits : OwnForm → Bool
form_fits (Resident value indexed) = true
form_fits (Mapped sizes pairs) = span sizes (runs_of sizes.first pairs)

abbrev pub has_fitting_pairs : Attr → Bool
has_fitting_pairs a = form_fits a.form

-- rule 7: mapping pairs are read, and have the clusters from the first VCN to the last one
unfoldable pub has_all_pairs : Record → Bool
has_all_pairs r = list_all has_fitting_pairs r.attrs

-- the record of a body, or the least of the rules 1 to 8 that it breaks
unfoldable pub whole_record : List ℕ → Result Record ℕ
whole_record body = shaped_at body >>= λ r. needs (has_all_pairs r) 7 >>= λ _. needs (has_lawful_values r) 8 >>= λ _. Ok r

abbrev pub slot_in : Result Record ℕ → Slot
slot_in (Ok r) = Used r
slot_in (Err rule) = Broken rule

-- a record in use begins FILE and has the flag in use
abbrev pub is_used : List ℕ → Bool
is_used bytes = is_signed FileRec bytes && has_in_use_flag bytes

-- what a body is, by a reader of records in use
abbrev pub slot_by : (List ℕ → Result Record ℕ) → Body → Slot
slot_by read body = if body.torn then Torn else if is_used body.bytes then slot_in (read body.bytes) else Free

unfoldable pub slot_of : Body → Slot
slot_of body = slot_by whole_record body

-- ---- records that are read where the boot sector says

abbrev pub boot_block : Geometry → ℕ → Block
boot_block g n = record { first = g.mft * g.per_cluster + 2 * n; kind = FileRec }

-- a record that is read alone: torn, or breaking a rule, it is refused
abbrev pub judged : ℕ → Slot → Result (Option Record) MapRefusal
judged n Torn = Err (BadFixup n)
judged n Free = Ok None
judged n (Broken rule) = Err (BadRecord n rule)
judged n (Used r) = Ok (Some r)

-- the unnamed data
unfoldable pub data_stream : Record → Option Stream
data_stream r = stream_of data_type [] r.attrs

-- ---- the file table

abbrev pub no_extents : Extents
no_extents = record { runs = []; allocated = 0; real = 0; initialised = 0 }

-- a value in a record is too short for records
abbrev pub extents_or : Option Stream → Extents
extents_or None = no_extents
extents_or (Some (Held value)) = no_extents
extents_or (Some (Placed e)) = e

abbrev pub record_count : Extents → ℕ
record_count e = e.real / 1024

abbrev pub most_records : ℕ
most_records = 1048576

unfoldable pub table_extents : Record → Extents
table_extents r = extents_or (data_stream r)

-- the clusters of the file table, by record 0: it has no attribute list, not too many records, and its mapping pairs fit
unfoldable pub extents_in : Option Record → Result Extents MapRefusal
extents_in None = Ok no_extents
extents_in (Some r) =
    needs (not (has_type attribute_list r)) MftList
    >>= λ _. needs (nat_le (record_count (table_extents r)) most_records) (MftLarge (record_count (table_extents r)))
    >>= λ _. needs (has_all_pairs r) (BadRecord 0 7)
    >>= λ _. Ok (table_extents r)

-- Rule 7 of record 0 comes after the others and after the bounds on the table.
unfoldable pub table_of : Content → Geometry → Result Extents MapRefusal
table_of c g = judged 0 (slot_by record_at (c (boot_block g 0))) >>= extents_in

abbrev pub slot_at : Content → Option Block → Slot
slot_at c None = Free
slot_at c (Some b) = slot_of (c b)

-- the record of that number; one wholly past the initialised size isn't in use
unfoldable pub table_slot : Content → ℕ → Extents → ℕ → Slot
table_slot c per e n = if nat_le e.initialised (1024 * n) then Free else slot_at c (block_at per e.runs FileRec n)

abbrev pub used_record : Slot → Option Record
used_record Torn = None
used_record Free = None
used_record (Broken rule) = None
used_record (Used r) = Some r

-- the records in use of the first so many, by number
unfoldable pub records_of : (ℕ → Slot) → ℕ → List (Option Record)
records_of piece count = map (λ n. used_record (piece n)) (range_with_len 0 count)

-- the record of each number; there is none past the last
abbrev pub table_in : List (Option Record) → Table
table_in records n = slice_index_or records n None

-- ---- attribute lists

abbrev pub attr_name : Option Attr → List ℕ
attr_name None = []
attr_name (Some a) = a.name

-- the attribute list of a record, whose pieces stand in the record itself
unfoldable pub list_stream : Record → Option Stream
list_stream r = stream_of attribute_list (attr_name (find (λ (a : Attr). a.head.kind == attribute_list) r.attrs)) r.attrs

abbrev pub no_entries : ReadEntries
no_entries = record { entries = []; whole = true }

abbrev pub list_entries_in : Content → ℕ → Option Stream → ReadEntries
list_entries_in c per None = no_entries
list_entries_in c per (Some s) = list_entries (stream_bytes c per s)

-- the entries of a record's attribute list
unfoldable pub entries_of : Content → ℕ → Record → ReadEntries
entries_of c per r = list_entries_in c per (list_stream r)

-- the entry names the attribute by type, name, id and first VCN
abbrev pub names_attr : ListEntry → Attr → Bool
names_attr e a = a.head.kind == e.kind && pointwise nat_eq a.name e.name && a.head.id == e.id && first_vcn a == e.first

-- the record of that number holds attributes of the base record: it is that record itself, or refers to it
abbrev pub belongs_to : ℕ → Record → ℕ → Record → Bool
belongs_to n r m q = (m == n) || same_reference q.head.base (reference n r)

abbrev pub holds_named : ℕ → Record → ListEntry → Option Record → Bool
holds_named n r e None = false
holds_named n r e (Some q) = q.head.seq == e.holder.seq && belongs_to n r e.holder.number q && list_any (names_attr e) q.attrs

-- the record that the entry names holds the attribute
unfoldable pub is_held : Table → ℕ → Record → ListEntry → Bool
is_held p n r e = holds_named n r e (p e.holder.number)

abbrev pub holds_all : Table → ℕ → Record → ReadEntries → Bool
holds_all p n r read = read.whole && list_all (is_held p n r) read.entries

-- rule 10: each entry of an attribute list has room for its fields, and names a record that holds the attribute
unfoldable pub has_held_list : Content → ℕ → Table → ℕ → Record → Bool
has_held_list c per p n r = holds_all p n r (entries_of c per r)

-- an entry names the attribute in the record of that number
abbrev pub is_named_in : ℕ → Record → Attr → ListEntry → Bool
is_named_in m q a e = e.holder.number == m && e.holder.seq == q.head.seq && names_attr e a

-- the attributes of another record that a base record's list names
abbrev pub named_attrs : List ListEntry → ℕ → Record → ℕ → Option Record → List Attr
named_attrs entries n r m None = []
named_attrs entries n r m (Some q) = if not (m == n) && same_reference q.head.base (reference n r) then filter (λ a. list_any (is_named_in m q a) entries) q.attrs else []

-- the attributes of a base record: its own, and those of other records that its list names, by their numbers
unfoldable pub all_attrs : Content → ℕ → Table → ℕ → ℕ → Record → List Attr
all_attrs c per p count n r = r.attrs ++ flat_map (λ m. named_attrs (entries_of c per r).entries n r m (p m)) (range_with_len 0 count)

abbrev pub whole_file : Content → ℕ → Table → ℕ → ℕ → Option Record → Option Record
whole_file c per p count n None = None
whole_file c per p count n (Some r) = Some (record { head = r.head; attrs = all_attrs c per p count n r })

-- the file with this number, with all its attributes
unfoldable pub joined_file : Content → ℕ → Table → ℕ → ℕ → Option Record
joined_file c per p count n = whole_file c per p count n (file_at p n)

-- ---- rules over more than one record

abbrev pub has_cut_index_block : ℕ → Option Stream → Bool
has_cut_index_block per None = false
has_cut_index_block per (Some (Held value)) = false
has_cut_index_block per (Some (Placed e)) = has_cut_block per Index (e.real / 4096) e.runs

abbrev pub cuts_index : ℕ → Option Record → Bool
cuts_index per None = false
cuts_index per (Some r) = is_directory_record r && has_cut_index_block per (stream_of index_allocation names_index r.attrs)

-- rule 9: no file record of the table, and no block of a directory's index, lies in two runs
unfoldable pub breaks_9 : Content → ℕ → Extents → Table → ℕ → ℕ → Bool
breaks_9 c per e p count n = ((n == 0) && has_cut_block per FileRec count e.runs) || cuts_index per (joined_file c per p count n)

abbrev pub breaks_list : Content → ℕ → Table → ℕ → Option Record → Bool
breaks_list c per p n None = false
breaks_list c per p n (Some r) = not (has_held_list c per p n r)

unfoldable pub breaks_10 : Content → ℕ → Table → ℕ → Bool
breaks_10 c per p n = breaks_list c per p n (file_at p n)

abbrev pub broken_rule : Slot → Option ℕ
broken_rule Torn = None
broken_rule Free = None
broken_rule (Broken rule) = Some rule
broken_rule (Used r) = None

-- ---- all records

abbrev pub or_rule : Option ℕ → Bool → Bool → Option ℕ
or_rule (Some rule) nine ten = Some rule
or_rule None nine ten = if nine then Some 9 else if ten then Some 10 else None

-- the least rule that the record of that number breaks
unfoldable pub rule_at : Content → ℕ → Extents → ℕ → Option ℕ
rule_at c per e n =
    let p = table_in (records_of (table_slot c per e) (record_count e)) in
    or_rule (broken_rule (table_slot c per e n)) (breaks_9 c per e p (record_count e) n) (breaks_10 c per p n)

abbrev pub torn_refusal : ℕ → Slot → Option MapRefusal
torn_refusal n Torn = Some (BadFixup n)
torn_refusal n Free = None
torn_refusal n (Broken rule) = None
torn_refusal n (Used r) = None

abbrev pub rule_refusal : ℕ → Option ℕ → Option MapRefusal
rule_refusal n None = None
rule_refusal n (Some rule) = Some (BadRecord n rule)

abbrev pub first_some : {A : Type 0} → Option A → Option A → Option A
first_some (Some x) other = Some x
first_some None other = other

-- the first of the first n that there is
unfoldable pub first_of : {A : Type 0} → (ℕ → Option A) → ℕ → Option A
first_of at zero = None
first_of at (suc n) = first_some (first_of at n) (at n)

abbrev pub unless : Option MapRefusal → Result (Unit {0}) MapRefusal
unless None = Ok tt
unless (Some refusal) = Err refusal

-- the files below a count, by number, each with all its attributes
unfoldable pub files_of : Content → ℕ → Table → ℕ → List (Option Record)
files_of c per p count = map (joined_file c per p count) (range_with_len 0 count)

-- First a record that is torn, then one that breaks a rule, each by rising number; else the files.
unfoldable pub files_in : Content → ℕ → Extents → Result (List (Option Record)) MapRefusal
files_in c per e =
    unless (first_of (λ n. torn_refusal n (table_slot c per e n)) (record_count e))
    >>= λ _. unless (first_of (λ n. rule_refusal n (rule_at c per e n)) (record_count e))
    >>= λ _. Ok (files_of c per (table_in (records_of (table_slot c per e) (record_count e))) (record_count e))

-- The files of a volume: the base records in use of its file table, each with the attributes that its list names; or the
-- first refusal that applies.
unfoldable pub loaded : Content → Geometry → Result (List (Option Record)) MapRefusal
loaded c g = table_of c g >>= files_in c g.per_cluster
