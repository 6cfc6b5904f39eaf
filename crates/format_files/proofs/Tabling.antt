-- The volume that is loaded of a new volume.
use Rattle.std.specs.Prelude.{◌==◌}
use Rattle.std.proofs.Common.{◌≡◌, ℕ, zero, suc, ◌*◌, ◌%◌, ◌^◌, ◌<◌, ◌≤◌, inl, inr, Bool, true, false, not, cond, leb, eqb, ◌&&◌, List, [], ◌∷◌, ◌++◌, map, Option, Some, None, Ok, refl, sym, ap, ◌∙◌, subst, arith}
use Rattle.std.specs.List.{filter, flat_map, range_with_len}
use Rattle.std.proofs.lemmas.Bool.{cases_lt, lt-ltb, le-ltb, lt-leb, or_from}
use Rattle.std.proofs.lemmas.List.{append-nil, get_or_past}
use Rattle.std.proofs.lemmas.List.FromFn.{length-map-range_with_len, get_or-map-range_with_len}
use Rattle.host_base.specs.Answers.{◌>>=◌}
use Rattle.disk_model.specs.declared.block.Body.{Body}
use Rattle.disk_model.specs.declared.block.BlockKind.TheVariants.{FileRec}
use Rattle.disk_model.specs.Numbers.{field}
use Rattle.disk_model.specs.Content.{Content}
use Rattle.record_model.specs.declared.attribute.Attr.{Attr}
use Rattle.record_model.specs.declared.record.RecHead.{RecHead}
use Rattle.record_model.specs.ListEntries.{ReadEntries}
use Rattle.record_model.specs.Records.{Record, record_at, rec_head_of, has_in_use_flag, record_spelling}
use Rattle.record_model.proofs.RecordSpelling.{spelling_signed, record_spells}
use Rattle.record_model.specs.Constants.{attribute_list}
use Rattle.format_blocks.proofs.record_writer.Again.{read_again}
use Rattle.state_model.specs.declared.geometry.MapRefusal.{MapRefusal}
use Rattle.state_model.specs.declared.geometry.MapRefusal.TheVariants.{MftList, MftLarge, BadRecord}
use Rattle.state_model.specs.declared.stream.Extents.{Extents}
use Rattle.state_model.specs.Files.{Table, only_base, file_at, has_type}
use Rattle.state_model.specs.Streams.{block_at, has_cut_block}
use Rattle.state_model.specs.Loads.{Free, Used, is_used, slot_by, whole_record, slot_of, boot_block, judged, has_all_pairs, table_extents, extents_or, record_count, most_records, extents_in, table_of, slot_at, table_slot, used_record, records_of, table_in, list_stream, no_entries, list_entries_in, entries_of, holds_all, has_held_list, named_attrs, all_attrs, whole_file, joined_file, cuts_index, breaks_9, breaks_list, breaks_10, broken_rule, or_rule, rule_at, torn_refusal, rule_refusal, first_some, first_of, unless, files_of, files_in}
use Rattle.volume_model.specs.Volumes.{volume_of}
use Rattle.format_blocks.specs.volume_format.declared.layout.Layout.{Layout}
use Rattle.format_blocks.specs.volume_format.Layouts.{IsLayout, table_first}
use Rattle.format_blocks.specs.volume_format.Files.{standard, name_attribute, system_attrs, system_data, other_streams, system_record, record_of}
use Rattle.format_blocks.specs.Blocks.{whole, HasBlocks}
use Rattle.format_files.specs.Volumes.{new_geometry, extents_at, new_file, new_files, new_volume, NewVolumeIsLoaded}
use Rattle.format_blocks.proofs.Recording.{record_fits}
use Rattle.format_files.proofs.Streams.{block_in_run, data_is, all_pairs_of}
use Rattle.format_files.proofs.Loading.{passes, goes_on, same_map, and_false, whole_is, used_slot, free_slot, flags_set, flags_clear, is_base, no_list, uncut}

-- ---- the files by number

pub file_used : (v : Layout) (time n : ℕ) → n < 16 → new_file v time n ≡ Some (record_of v time n)
unfolding new_file
file_used v time n lt = ap (λ (b : Bool). cond b (Some (record_of v time n)) None) (lt-ltb n 16 lt)

pub file_none : (v : Layout) (time n : ℕ) → 16 ≤ n → new_file v time n ≡ None
unfolding new_file
file_none v time n le = ap (λ (b : Bool). cond b (Some (record_of v time n)) None) (le-ltb n 16 le)

pub of_table : (v : Layout) (time n : ℕ) → table_in (new_files v time) n ≡ new_file v time n
unfolding new_files
of_table v time n = elim (cases_lt n 64) [
  | inl lt ↦ get_or-map-range_with_len (new_file v time) 0 64 n n None lt (omega arith)
  | inr le ↦ get_or_past (map (new_file v time) (range_with_len 0 64)) n None (omega (arith, length-map-range_with_len (new_file v time) 0 64)) ∙ sym (file_none v time n (omega arith))
]

-- what holds of each number, in use or not
pub of_numbers : (P : Option Record → Type 0) (v : Layout) (time : ℕ) → ((n : ℕ) → n < 16 → P (Some (record_of v time n))) → P None → (n : ℕ) → P (new_file v time n)
of_numbers P v time used free n = elim (cases_lt n 16) [
  | inl lt ↦ subst P (sym (file_used v time n lt)) (used n lt)
  | inr le ↦ subst P (sym (file_none v time n le)) free
]

-- each record in use is a file
pub only_file : (v : Layout) (time n : ℕ) → only_base (new_file v time n) ≡ new_file v time n
only_file v time n = of_numbers (λ (o : Option Record). only_base o ≡ o) v time (λ k lt. ap (λ (b : Bool). cond b (Some (record_of v time k)) None) (is_base v time k lt)) refl n

-- ---- attribute lists

never : {A : Type 0} (xs : List A) → filter (λ (x : A). false) xs ≡ []
never [] = refl
never (x ∷ xs) = never xs

nothing : {A : Type 0} (f : ℕ → List A) (xs : List ℕ) → ((m : ℕ) → f m ≡ []) → flat_map f xs ≡ []
nothing f [] none = refl
nothing {A} f (x ∷ xs) none = ap (λ (l : List A). l ++ flat_map f xs) (none x) ∙ nothing f xs none

chosen : {A : Type 0} (b : Bool) (xs : List A) → xs ≡ [] → cond b xs [] ≡ []
chosen true xs is = is
chosen false xs is = refl

none_named : (n m : ℕ) (r : Record) (o : Option Record) → named_attrs [] n r m o ≡ []
none_named n m r None = refl
none_named n m r (Some q) = chosen _ (filter (λ (a : Attr). false) q.attrs) (never q.attrs)

no_entries_of : (c : Content) (per : ℕ) (r : Record) → list_stream r ≡ None → entries_of c per r ≡ no_entries
unfolding entries_of
no_entries_of c per r is = ap (list_entries_in c per) is

attrs_alone : (c : Content) (per : ℕ) (p : Table) (count n : ℕ) (r : Record) → list_stream r ≡ None → all_attrs c per p count n r ≡ r.attrs
unfolding all_attrs
attrs_alone c per p count n r is =
    ap (λ (l : ReadEntries). r.attrs ++ flat_map (λ m. named_attrs l.entries n r m (p m)) (range_with_len 0 count)) (no_entries_of c per r is)
    ∙ ap (λ (l : List Attr). r.attrs ++ l) (nothing (λ m. named_attrs [] n r m (p m)) (range_with_len 0 count) (λ m. none_named n m r (p m)))
    ∙ append-nil r.attrs

same_attrs : Record → List Attr → Option Record
same_attrs r attrs = Some (record { head = r.head; attrs = attrs })

whole_alone : (c : Content) (per : ℕ) (p : Table) (count n : ℕ) (r : Record) → list_stream r ≡ None → whole_file c per p count n (Some r) ≡ Some r
unfolding same_attrs
whole_alone c per p count n r is = ap (same_attrs r) (attrs_alone c per p count n r is)

held_alone : (c : Content) (per : ℕ) (p : Table) (n : ℕ) (r : Record) → list_stream r ≡ None → breaks_list c per p n (Some r) ≡ false
unfolding has_held_list
held_alone c per p n r is = ap (λ (l : ReadEntries). not (holds_all p n r l)) (no_entries_of c per r is)

-- ---- the pieces

module _ (v : Layout) (layout : IsLayout v) (time : ℕ) (small : time < 2 ^ 64) where
  abbrev spelled : ℕ → List ℕ
  spelled n = record_spelling (record_of v time n)

  pub used_by : (n : ℕ) → n < 64 → is_used (spelled n) ≡ eqb ((record_of v time n).head.flags % 2) 1
  unfolding has_in_use_flag rec_head_of
  used_by n lt =
      let r = record_of v time n in
      let head = (record_spells r (record_fits v layout time small n lt)).head in
      ap (λ (signed : Bool). signed && eqb (field 0x16 2 (spelled n) % 2) 1) (spelling_signed r) ∙ ap (λ (h : RecHead). eqb (h.flags % 2) 1) head

  pub read_record : (n : ℕ) → n < 64 → record_at (spelled n) ≡ Ok (record_of v time n)
  read_record n lt = (read_again (record_of v time n) (record_fits v layout time small n lt)).read

  pub used : (n : ℕ) → n < 16 → slot_of (whole (spelled n)) ≡ Used (record_of v time n)
  unfolding slot_of
  used n lt = used_slot whole_record (spelled n) (record_of v time n) (used_by n (omega arith) ∙ flags_set v time n lt)
      (whole_is (spelled n) (record_of v time n) (read_record n (omega arith)) (all_pairs_of v layout time n (omega arith)))

  free : (n : ℕ) → 16 ≤ n → n < 64 → slot_of (whole (spelled n)) ≡ Free
  unfolding slot_of
  free n le lt = free_slot whole_record (spelled n) (used_by n lt ∙ flags_clear v time n le)

  -- ---- over a content

  module _ (seed : ℕ) (c : Content) (has : HasBlocks v seed time c) where
    abbrev table : Extents
    table = extents_at table_first 16 65536

    slot_here : (n : ℕ) → n < 64 → table_slot c 8 table n ≡ slot_of (whole (spelled n))
    unfolding table_slot
    slot_here n lt =
        ap (λ (b : Bool). cond b Free (slot_at c (block_at 8 table.runs FileRec n))) (lt-leb 65536 (1024 * n) (omega arith))
        ∙ ap (slot_at c) (block_in_run 4 16 FileRec n (omega arith) (omega arith))
        ∙ ap slot_of (has.table n lt)

    slot_used : (n : ℕ) → n < 16 → table_slot c 8 table n ≡ Used (record_of v time n)
    slot_used n lt = slot_here n (omega arith) ∙ used n lt

    slot_free : (n : ℕ) → 16 ≤ n → n < 64 → table_slot c 8 table n ≡ Free
    slot_free n le lt = slot_here n lt ∙ free n le lt

    record_here : (n : ℕ) → n < 64 → used_record (table_slot c 8 table n) ≡ new_file v time n
    record_here n lt = elim (cases_lt n 16) [
      | inl low ↦ ap used_record (slot_used n low) ∙ sym (file_used v time n low)
      | inr high ↦ ap used_record (slot_free n high lt) ∙ sym (file_none v time n high)
    ]

    records_here : records_of (table_slot c 8 table) 64 ≡ new_files v time
    unfolding records_of new_files
    records_here = same_map (λ n. used_record (table_slot c 8 table n)) (new_file v time) 0 64 (λ n low high. record_here n (omega arith))

    abbrev p : Table
    p = table_in (records_of (table_slot c 8 table) 64)

    table_here : (n : ℕ) → p n ≡ new_file v time n
    table_here n = ap (λ (l : List (Option Record)). table_in l n) records_here ∙ of_table v time n

    file_here : (n : ℕ) → file_at p n ≡ new_file v time n
    unfolding file_at
    file_here n = ap only_base (table_here n) ∙ only_file v time n

    joined_here : (n : ℕ) → joined_file c 8 p 64 n ≡ new_file v time n
    unfolding joined_file
    joined_here n = ap (whole_file c 8 p 64 n) (file_here n) ∙ of_numbers (λ (o : Option Record). whole_file c 8 p 64 n o ≡ o) v time (λ k lt. whole_alone c 8 p 64 n (record_of v time k) (no_list v time k lt)) refl n

    -- ---- no rule is broken

    uncut_here : (n : ℕ) → cuts_index 8 (new_file v time n) ≡ false
    uncut_here n = of_numbers (λ (o : Option Record). cuts_index 8 o ≡ false) v time (λ k lt. uncut v layout time k lt) refl n

    table_uncut : has_cut_block 8 FileRec 64 table.runs ≡ false
    unfolding has_cut_block
    table_uncut = refl

    keeps_9 : (n : ℕ) → breaks_9 c 8 table p 64 n ≡ false
    unfolding breaks_9
    keeps_9 n = or_from ((n == 0) && has_cut_block 8 FileRec 64 table.runs) (cuts_index 8 (joined_file c 8 p 64 n)) (and_false (n == 0) (has_cut_block 8 FileRec 64 table.runs) table_uncut) (ap (cuts_index 8) (joined_here n) ∙ uncut_here n)

    keeps_10 : (n : ℕ) → breaks_10 c 8 p n ≡ false
    unfolding breaks_10
    keeps_10 n = ap (breaks_list c 8 p n) (file_here n) ∙ of_numbers (λ (o : Option Record). breaks_list c 8 p n o ≡ false) v time (λ k lt. held_alone c 8 p n (record_of v time k) (no_list v time k lt)) refl n

    unbroken : (n : ℕ) → n < 64 → broken_rule (table_slot c 8 table n) ≡ None
    unbroken n lt = elim (cases_lt n 16) [
      | inl low ↦ ap broken_rule (slot_used n low)
      | inr high ↦ ap broken_rule (slot_free n high lt)
    ]

    no_rule : (o : Option ℕ) (nine ten : Bool) → o ≡ None → nine ≡ false → ten ≡ false → or_rule o nine ten ≡ None
    no_rule None false false o_is nine_is ten_is = refl
    no_rule None false true o_is nine_is ten_is = absurd cc
    no_rule None true ten o_is nine_is ten_is = absurd cc
    no_rule (Some rule) nine ten o_is nine_is ten_is = absurd cc

    lawful : (n : ℕ) → n < 64 → rule_at c 8 table n ≡ None
    unfolding rule_at
    lawful n lt = no_rule (broken_rule (table_slot c 8 table n)) (breaks_9 c 8 table p 64 n) (breaks_10 c 8 p n) (unbroken n lt) (keeps_9 n) (keeps_10 n)

    untorn : (n : ℕ) → n < 64 → torn_refusal n (table_slot c 8 table n) ≡ None
    untorn n lt = elim (cases_lt n 16) [
      | inl low ↦ ap (torn_refusal n) (slot_used n low)
      | inr high ↦ ap (torn_refusal n) (slot_free n high lt)
    ]

    none_first : (at : ℕ → Option MapRefusal) (count : ℕ) → ((n : ℕ) → n < count → at n ≡ None) → first_of at count ≡ None
    unfolding first_of
    none_first at zero none = refl
    none_first at (suc n) none = ap (λ (o : Option MapRefusal). first_some o (at n)) (none_first at n (λ k lt. none k (omega arith))) ∙ none n (omega arith)

    answered : (torn broken : Option MapRefusal) (files : List (Option Record)) → torn ≡ None → broken ≡ None → (unless torn >>= λ _. unless broken >>= λ _. Ok files) ≡ Ok files
    answered None None files torn_is broken_is = refl
    answered None (Some b) files torn_is broken_is = absurd cc
    answered (Some t) broken files torn_is broken_is = absurd cc

    files_here : files_of c 8 p 64 ≡ new_files v time
    unfolding files_of new_files
    files_here = same_map (joined_file c 8 p 64) (new_file v time) 0 64 (λ n low high. joined_here n)

    files_read : files_in c 8 table ≡ Ok (new_files v time)
    unfolding files_in
    files_read =
        answered (first_of (λ n. torn_refusal n (table_slot c 8 table n)) 64) (first_of (λ n. rule_refusal n (rule_at c 8 table n)) 64) (files_of c 8 p 64)
        (none_first (λ n. torn_refusal n (table_slot c 8 table n)) 64 untorn)
        (none_first (λ n. rule_refusal n (rule_at c 8 table n)) 64 (λ n lt. ap (rule_refusal n) (lawful n lt)))
        ∙ ap (λ (files : List (Option Record)). Ok files) files_here

    -- ---- record 0

    abbrev first : Record
    first = record_of v time 0

    first_judged : judged 0 (slot_by record_at (c (boot_block new_geometry 0))) ≡ Ok (Some first)
    first_judged =
        ap (λ (b : Body). judged 0 (slot_by record_at b)) (has.table 0 (omega arith))
        ∙ ap (judged 0) (used_slot record_at (spelled 0) first (used_by 0 (omega arith) ∙ flags_set v time 0 (omega arith)) (read_record 0 (omega arith)))

    no_list_first : has_type attribute_list first ≡ false
    unfolding has_type record_of system_record system_attrs system_data other_streams standard name_attribute
    no_list_first = refl

    first_extents : table_extents first ≡ table
    unfolding table_extents record_of system_data
    first_extents = ap extents_or (data_is v layout time 0 (omega arith))

    extents_read : extents_in (Some first) ≡ Ok table
    unfolding extents_in
    extents_read =
        passes (not (has_type attribute_list first)) MftList _ (ap not no_list_first)
        ∙ passes (leb (record_count (table_extents first)) most_records) (MftLarge (record_count (table_extents first))) _ (ap (λ (e : Extents). leb (record_count e) most_records) first_extents)
        ∙ passes (has_all_pairs first) (BadRecord 0 7) _ (all_pairs_of v layout time 0 (omega arith))
        ∙ ap (λ (e : Extents). Ok e) first_extents

    table_read : table_of c new_geometry ≡ Ok table
    unfolding table_of
    table_read = goes_on _ (Some first) extents_in first_judged ∙ extents_read

    loaded_here : volume_of c new_geometry v.clusters ≡ Ok (new_volume v time)
    unfolding volume_of
    loaded_here =
        goes_on _ table (λ e. files_in c 8 e >>= λ files. Ok (record { per = 8; clusters = v.clusters; mft = table_first; table = e; files = files })) table_read
        ∙ goes_on _ (new_files v time) (λ files. Ok (record { per = 8; clusters = v.clusters; mft = table_first; table = table; files = files })) files_read

pub volume_loaded : NewVolumeIsLoaded
volume_loaded = λ v seed time c layout small has. loaded_here v layout time small seed c has
