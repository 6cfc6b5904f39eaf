-- The records and the index block that are put have spellings, which are read back as them.
use Rattle.std.proofs.Common.{◌≡◌, ℕ, zero, suc, ◌+◌, ◌*◌, ◌%◌, ◌^◌, ◌<◌, ◌≤◌, Bool, true, eqb, leb, ◌&&◌, List, [], ◌∷◌, ◌++◌, length, map, get_or, Some, None, Ok, refl, sym, ap, ◌∙◌, subst, arith}
use Rattle.std.specs.Prelude.{is_ok}
use Rattle.std.specs.List.{AllByRecursion, list_all}
use Rattle.std.proofs.lemmas.Bool.{le-leb, and_from}
use Rattle.std.proofs.lemmas.List.Elements.{All-from_recursion}
use Rattle.std.proofs.lemmas.List.Sums.{sum_by-cons}
use Rattle.disk_model.specs.Numbers.{field, spell}
use Rattle.disk_model.specs.Bytes.{zeros}
use Rattle.disk_model.proofs.Fields.{length-spell}
use Rattle.utf16_name.specs.Names.{name_of}
use Rattle.utf16_name.specs.Lawful.{IsName}
use Rattle.record_model.specs.declared.record.RecHead.{RecHead}
use Rattle.record_model.specs.declared.entry.Entry.{Entry}
use Rattle.record_model.specs.declared.values.StdInfo.{StdInfo}
use Rattle.record_model.specs.Constants.{standard_information, data_type, index_root, index_allocation, bitmap_type, names_index}
use Rattle.record_model.specs.Nodes.{entry_length, entries_length, node_used, down_flag, children_of, FitEntries, FitsEntry, FitsNode, last_entry}
use Rattle.record_model.specs.Records.{Record, record_at, rec_head_of, has_in_use_flag, record_spelling, FitsRecord}
use Rattle.record_model.specs.StdValues.{std_info_over, FitsFileName, file_name_of}
use Rattle.record_model.specs.Values.{has_lawful_value, is_standard_information, is_file_name}
use Rattle.record_model.proofs.FileNames.{name-of_ok, length-file_name_over, file_name_spelled, file_name_read, file_name_lawful}
use Rattle.record_model.proofs.FixedValues.{length-std_info_over}
use Rattle.record_model.proofs.RecordSpelling.{spelling_signed, record_spells}
use Rattle.record_model.proofs.UnitBytes.{length-zeros}
use Rattle.record_writer.proofs.Again.{read_again}
use Rattle.record_writer.proofs.Measures.{length-spelling}
use Rattle.index_node.specs.Roots.{root_spelling}
use Rattle.index_node.proofs.RootSpelled.{root_law}
use Rattle.state_model.specs.Loads.{Used, is_used, whole_record, slot_of, has_all_pairs}
use Rattle.volume_format.specs.declared.layout.Layout.{Layout}
use Rattle.volume_format.specs.Layouts.{IsLayout, block_first}
use Rattle.volume_format.specs.Files.{sequence, system_data, other_streams, system_attrs, resident, in_clusters, name_attribute, root_streams}
use Rattle.volume_format.specs.Indexes.{in_order, entry_of}
use Rattle.format_rules.specs.format_blocks.Blocks.{whole}
use Rattle.format_rules.proofs.format_blocks.Naming.{length-name_value, name_lawful, name_short}
use Rattle.format_rules.proofs.format_blocks.Fitting.{Fits, fits_resident, fits_named, fits_mapped}
use Rattle.format_rules.proofs.format_blocks.Recording.{fits_record, sequence_small, root_fits}
use Rattle.format_rules.proofs.format_files.Streams.{mapped_spans, block_run}
use Rattle.format_rules.proofs.format_files.Loading.{whole_is, used_slot}
use Rattle.format_plans.specs.Files.{title, title_fields, title_value, titled, information, stamped, first_record, root_info, changed_root, title_entry, entries_with, node_with}

-- ---- a record that has a spelling

module _ (r : Record) (fits : FitsRecord r) where
  used_by : is_used (record_spelling r) ≡ eqb (r.head.flags % 2) 1
  unfolding has_in_use_flag rec_head_of
  used_by =
      ap (λ (signed : Bool). signed && eqb (field 0x16 2 (record_spelling r) % 2) 1) (spelling_signed r)
      ∙ ap (λ (h : RecHead). eqb (h.flags % 2) 1) (record_spells r fits).head

  pub slot_is : eqb (r.head.flags % 2) 1 ≡ true → has_all_pairs r ≡ true → slot_of (whole (record_spelling r)) ≡ Used r
  unfolding slot_of
  slot_is used pairs = used_slot whole_record (record_spelling r) r (used_by ∙ used) (whole_is (record_spelling r) r (read_again r fits).read pairs)

-- ---- the name

title_small : (k : ℕ) → get_or title k 0 < 2 ^ 16
title_small zero = omega arith
title_small (suc k) = omega arith

title_is : IsName title
title_is = name-of_ok title title_small refl

root_small : sequence 5 < 2 ^ 16
root_small = sequence_small 5

fits_title : (stamp : ℕ) → stamp < 2 ^ 64 → FitsFileName (title_fields stamp)
fits_title stamp small = record {
  number = omega arith;
  seq = root_small;
  created = small;
  modified = small;
  changed = small;
  read_at = small;
  allocated = omega arith;
  real = omega arith;
  flags = omega arith;
  space = omega arith;
  name = title_is;
}

length-title_value : (stamp : ℕ) → length (title_value stamp) ≡ 0x44
unfolding title_value
length-title_value stamp = length-file_name_over (title_fields stamp) (zeros 0x44) ∙ length-zeros 0x44

pub title_read : (stamp : ℕ) → stamp < 2 ^ 64 → file_name_of (title_value stamp) ≡ Ok (title_fields stamp)
unfolding title_value
title_read stamp small = file_name_read (title_value stamp) (title_fields stamp) (file_name_spelled (title_fields stamp) (zeros 0x44) (fits_title stamp small) (length-zeros 0x44))

title_lawful : (stamp : ℕ) → stamp < 2 ^ 64 → is_file_name (title_value stamp) ≡ true
title_lawful stamp small = sym (file_name_lawful (title_value stamp)) ∙ ap is_ok (title_read stamp small)

titled_fits : (stamp : ℕ) → stamp < 2 ^ 64 → Fits 127 (titled stamp)
unfolding titled has_lawful_value
titled_fits stamp small = record {
  attr = record {
    kind = omega arith;
    flags = omega arith;
    id = omega arith;
    name_short = omega arith;
    units = All-from_recursion (λ (unit : ℕ). unit < 2 ^ 16) [] tt;
    form = record { value_short = omega (arith, length-title_value stamp); indexed_byte = omega arith };
  };
  lawful = title_lawful stamp small;
  size = omega (arith, length-spelling (titled stamp), length-title_value stamp);
}

-- ---- standard information

length-information : (info : StdInfo) → length (std_info_over info (zeros 0x48)) ≡ 72
length-information info = length-std_info_over info (zeros 0x48) ∙ length-zeros 0x48

lawful_information : (value : List ℕ) → length value ≡ 72 → is_standard_information value ≡ true
unfolding is_standard_information
lawful_information value size = le-leb 0x30 (length value) (omega arith)

information_fits : (info : StdInfo) → Fits 111 (information info)
unfolding information has_lawful_value
information_fits info =
    let value = std_info_over info (zeros 0x48) in
    fits_resident 0 standard_information 72 [] value (omega arith) (omega arith) (omega arith) tt (omega (arith, length-information info)) (omega arith) (lawful_information value (length-information info))

-- ---- the record of the file

empty_fits : Fits 39 (resident 2 data_type [] [])
unfolding has_lawful_value
empty_fits = fits_resident 2 data_type 0 [] [] (omega arith) (omega arith) (omega arith) tt (omega arith) (omega arith) refl

pub first_fits : (stamp : ℕ) → stamp < 2 ^ 64 → FitsRecord (first_record stamp)
unfolding information titled
first_fits stamp small =
    fits_record (first_record stamp) (111 ∷ 127 ∷ 39 ∷ [])
    (record { lsn = omega arith; seq = sequence_small 24; links = omega arith; flags = omega arith; base = omega arith; base_seq = omega arith; next_id = omega arith; number = omega arith })
    (information_fits (stamped stamp), (titled_fits stamp small, (empty_fits, tt))) refl refl (omega arith)

first_pairs : (stamp : ℕ) → has_all_pairs (first_record stamp) ≡ true
unfolding has_all_pairs information titled
first_pairs stamp = refl

pub first_slot : (stamp : ℕ) → stamp < 2 ^ 64 → slot_of (whole (record_spelling (first_record stamp))) ≡ Used (first_record stamp)
first_slot stamp small = slot_is (first_record stamp) (first_fits stamp small) refl (first_pairs stamp)

-- ---- the record of the root

index_units : AllByRecursion (λ unit. unit < 2 ^ 16) names_index
index_units = (omega arith, (omega arith, (omega arith, (omega arith, tt))))

length-root : length (root_spelling 1 (last_entry (Some 0) ∷ [])) ≡ 56
unfolding entry_length
length-root = root_law.size 1 (last_entry (Some 0) ∷ []) root_fits

module _ (v : Layout) (layout : IsLayout v) (time stamp : ℕ) (small : time < 2 ^ 64) where
  root_place : Fits 95 (resident 2 index_root names_index (root_spelling 1 (last_entry (Some 0) ∷ [])))
  unfolding has_lawful_value
  root_place = fits_resident 2 index_root 56 names_index (root_spelling 1 (last_entry (Some 0) ∷ [])) (omega arith) (omega arith) (omega arith) index_units (omega (arith, length-root)) (omega arith) refl

  block_fits : Fits 104 (in_clusters 3 index_allocation names_index (block_first v) 1 4096)
  unfolding has_lawful_value
  block_fits = fits_mapped 3 index_allocation names_index (Some (block_first v)) 1 4096 4096 (omega arith) (omega arith) (omega arith) index_units (omega arith) (omega arith) (omega arith) refl

  bit_fits : Fits 47 (resident 4 bitmap_type names_index (spell 8 1))
  unfolding has_lawful_value
  bit_fits = fits_resident 4 bitmap_type 8 names_index (spell 8 1) (omega arith) (omega arith) (omega arith) index_units (omega (arith, length-spell 8 1)) (omega arith) refl

  few_attrs : length (system_attrs v time 5) < 2 ^ 16
  unfolding system_attrs system_data other_streams root_streams
  few_attrs = omega arith

  pub root_record_fits : FitsRecord (changed_root v time stamp)
  unfolding information name_attribute root_streams
  root_record_fits =
      fits_record (changed_root v time stamp) (111 ∷ 127 ∷ 95 ∷ 104 ∷ 47 ∷ [])
      (record { lsn = omega arith; seq = root_small; links = omega arith; flags = omega arith; base = omega arith; base_seq = omega arith; next_id = few_attrs; number = omega arith })
      (information_fits (root_info time stamp), (fits_named v layout time 5 small (omega arith), (root_place, (block_fits, (bit_fits, tt))))) refl refl (omega arith)

  root_pairs : has_all_pairs (changed_root v time stamp) ≡ true
  unfolding has_all_pairs information name_attribute root_streams
  root_pairs = and_from _ _ (mapped_spans 3 0xA0 names_index (Some (block_first v)) 1 4096 4096 (block_run v layout)) refl

  pub root_slot : slot_of (whole (record_spelling (changed_root v time stamp))) ≡ Used (changed_root v time stamp)
  root_slot = slot_is (changed_root v time stamp) root_record_fits refl root_pairs

-- ---- the index block

entries_short : (entries : List Entry) → AllByRecursion (λ e. entry_length e ≤ 104) entries → entries_length entries ≤ 104 * length entries
entries_short [] short = omega arith
entries_short (e ∷ entries) short = omega (arith, short.0, entries_short entries short.1, sum_by-cons entry_length e entries)

-- an entry of a leaf that has a spelling
record IsFit (e : Entry) : Type 0 where
  fits : FitsEntry e
  short : entry_length e ≤ 104
  leaf : e.down ≡ None

abbrev AreFit : List Entry → Type 0
AreFit entries = AllByRecursion IsFit entries

last_fits : FitEntries (last_entry None ∷ [])
last_fits = record { no_reference = refl; no_key = refl; down = tt }

fit_entries : (es : List Entry) → AreFit es → FitEntries (es ++ last_entry None ∷ [])
fit_entries [] fit = last_fits
fit_entries (e ∷ []) fit = (fit.0.fits, last_fits)
fit_entries (e ∷ f ∷ es) fit = (fit.0.fits, fit_entries (f ∷ es) fit.1)

last_short : entry_length (last_entry None) ≤ 104
unfolding entry_length
last_short = omega arith

all_short : (es : List Entry) → AreFit es → AllByRecursion (λ e. entry_length e ≤ 104) (es ++ last_entry None ∷ [])
all_short [] fit = (last_short, tt)
all_short (e ∷ es) fit = (fit.0.short, all_short es fit.1)

fit_more : (es : List Entry) (e : Entry) → AreFit es → IsFit e → AreFit (es ++ e ∷ [])
fit_more [] e fit more = (more, tt)
fit_more (x ∷ es) e fit more = (fit.0, fit_more es e fit.1 more)

title_fit : (stamp : ℕ) → stamp < 2 ^ 64 → IsFit (title_entry stamp)
unfolding entry_length
title_fit stamp small = record {
  fits = record { number = omega arith; seq = sequence_small 24; key = title_lawful stamp small; down = tt };
  short = omega (arith, length-title_value stamp);
  leaf = refl;
}

module _ (v : Layout) (layout : IsLayout v) (time stamp : ℕ) (small : time < 2 ^ 64) (stamp_small : stamp < 2 ^ 64) where
  entry_fit : (n : ℕ) → n < 12 → IsFit (entry_of v time n)
  unfolding entry_length
  entry_fit n lt = record {
    fits = record { number = omega arith; seq = sequence_small n; key = name_lawful v layout time n small lt; down = tt };
    short = omega (arith, length-name_value v time n, name_short n lt);
    leaf = refl;
  }

  low_fit : (ns : List ℕ) → AllByRecursion (λ n. n < 12) ns → AreFit (map (entry_of v time) ns)
  low_fit [] low = tt
  low_fit (n ∷ ns) low = (entry_fit n low.0, low_fit ns low.1)

  low_in_order : AllByRecursion (λ n. n < 12) in_order
  low_in_order = (omega arith, (omega arith, (omega arith, (omega arith, (omega arith, (omega arith, (omega arith, (omega arith, (omega arith, (omega arith, (omega arith, (omega arith, tt))))))))))))

  abbrev leaves : List Entry
  leaves = map (entry_of v time) in_order ++ title_entry stamp ∷ []

  leaves_fit : AreFit leaves
  leaves_fit = fit_more (map (entry_of v time) in_order) (title_entry stamp) (low_fit in_order low_in_order) (title_fit stamp stamp_small)

  entries_are : leaves ++ last_entry None ∷ [] ≡ entries_with v time stamp
  unfolding entries_with
  entries_are = refl

  no_downs : AllByRecursion (λ e. down_flag e.down ≡ children_of (entries_with v time stamp)) (entries_with v time stamp)
  unfolding entries_with
  no_downs = (refl, (refl, (refl, (refl, (refl, (refl, (refl, (refl, (refl, (refl, (refl, (refl, (refl, (refl, tt))))))))))))))

  fourteen : length (entries_with v time stamp) ≡ 14
  unfolding entries_with
  fourteen = refl

  pub node_fits : FitsNode (node_with v time stamp)
  unfolding node_used
  node_fits = record {
    vcn = omega arith;
    lsn = omega arith;
    entries = subst FitEntries entries_are (fit_entries leaves leaves_fit);
    flags = All-from_recursion (λ (e : Entry). down_flag e.down ≡ children_of (entries_with v time stamp)) (entries_with v time stamp) no_downs;
    used = omega (arith, entries_short (entries_with v time stamp) (subst (AllByRecursion (λ (e : Entry). entry_length e ≤ 104)) entries_are (all_short leaves leaves_fit)), fourteen);
  }
