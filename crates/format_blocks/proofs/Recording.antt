-- The records of a new volume have spellings.
use Rattle.std.proofs.Common.{◌≡◌, ℕ, ◌+◌, ◌*◌, ◌^◌, ◌<◌, ◌≤◌, Bool, true, false, ltb, eqb, cond, List, [], ◌∷◌, length, Option, Some, None, refl, ◌∙◌, arith}
use Rattle.std.specs.Prelude.{nat_lt}
use Rattle.std.specs.List.{AllByRecursion, list_all}
use Rattle.std.proofs.lemmas.Bool.{and_parts, ltb-true}
use Rattle.std.proofs.lemmas.List.Elements.{All-from_recursion}
use Rattle.disk_model.specs.Numbers.{spell}
use Rattle.disk_model.specs.Bytes.{zeros}
use Rattle.disk_model.proofs.Fields.{length-spell}
use Rattle.record_model.specs.declared.attribute.Attr.{Attr}
use Rattle.record_model.specs.declared.entry.Entry.{Entry}
use Rattle.record_model.specs.Attributes.{FitsAttr}
use Rattle.record_model.specs.Nodes.{entry_length, node_used, children_of, down_flag, FitsLast, last_entry}
use Rattle.record_model.specs.Values.{has_lawful_value}
use Rattle.record_model.specs.StdValues.{volume_info_over}
use Rattle.record_model.specs.Records.{Record, spelled_bytes, FitsHead, FitsRecord}
use Rattle.record_model.proofs.FixedValues.{length-volume_info_over}
use Rattle.record_model.proofs.UnitBytes.{length-zeros}
use Rattle.record_model.specs.Constants.{data_type, index_root, index_allocation, bitmap_type, names_index, volume_name, volume_information}
use Rattle.volume_format.specs.record_writer.Fitting.{rise_from}
use Rattle.volume_format.proofs.record_writer.Rising.{rise_true}
use Rattle.index_node.specs.Roots.{root_spelling, HaveSpelling}
use Rattle.index_node.proofs.RootSpelled.{root_law}
use Rattle.volume_format.specs.declared.layout.Layout.{Layout}
use Rattle.volume_format.specs.Layouts.{IsLayout, block_first, cluster_bits_bytes}
use Rattle.volume_format.specs.Files.{bad_name, resident, mapped, standard, name_attribute, system_attrs, system_data, other_streams, volume_streams, root_streams, extend_streams, system_record, reserved_record, spare_record, in_clusters, head_of, sequence, is_directory, record_of}
use Rattle.format_blocks.proofs.Naming.{of_twelve}
use Rattle.format_blocks.proofs.Fitting.{Fits, fits_resident, fits_standard, fits_named, fits_mapped}

-- attributes that have spellings of at most so many bytes each
abbrev pub FitEach : List ℕ → List Attr → Type 0
FitEach [] [] = Unit {0}
FitEach [] (a ∷ attrs) = ⊥
FitEach (n ∷ sizes) [] = ⊥
FitEach (n ∷ sizes) (a ∷ attrs) = Fits n a × FitEach sizes attrs

abbrev total : List ℕ → ℕ
total [] = 0
total (n ∷ sizes) = n + total sizes

fit_attrs : (sizes : List ℕ) (attrs : List Attr) → FitEach sizes attrs → AllByRecursion FitsAttr attrs
fit_attrs [] [] fits = tt
fit_attrs [] (a ∷ attrs) fits = absurd fits
fit_attrs (n ∷ sizes) [] fits = absurd fits
fit_attrs (n ∷ sizes) (a ∷ attrs) fits = (fits.0.attr, fit_attrs sizes attrs fits.1)

fit_lawful : (sizes : List ℕ) (attrs : List Attr) → FitEach sizes attrs → AllByRecursion (λ a. has_lawful_value a ≡ true) attrs
fit_lawful [] [] fits = tt
fit_lawful [] (a ∷ attrs) fits = absurd fits
fit_lawful (n ∷ sizes) [] fits = absurd fits
fit_lawful (n ∷ sizes) (a ∷ attrs) fits = (fits.0.lawful, fit_lawful sizes attrs fits.1)

fit_sizes : (sizes : List ℕ) (attrs : List Attr) → FitEach sizes attrs → spelled_bytes attrs ≤ total sizes
fit_sizes [] [] fits = omega arith
fit_sizes [] (a ∷ attrs) fits = absurd fits
fit_sizes (n ∷ sizes) [] fits = absurd fits
fit_sizes (n ∷ sizes) (a ∷ attrs) fits = omega (arith, fits.0.size, fit_sizes sizes attrs fits.1)

below_mark : (attrs : List Attr) → list_all (λ (a : Attr). nat_lt a.head.kind 0xFFFFFFFF) attrs ≡ true → AllByRecursion (λ a. a.head.kind < 0xFFFFFFFF) attrs
below_mark [] passes = tt
below_mark (a ∷ attrs) passes =
    let parts = and_parts (ltb a.head.kind 0xFFFFFFFF) (list_all (λ (a : Attr). nat_lt a.head.kind 0xFFFFFFFF) attrs) passes in
    (ltb-true a.head.kind 0xFFFFFFFF parts.0, below_mark attrs parts.1)

-- a record whose attributes have spellings
pub fits_record : (r : Record) (sizes : List ℕ) → FitsHead r.head → FitEach sizes r.attrs → list_all (λ (a : Attr). nat_lt a.head.kind 0xFFFFFFFF) r.attrs ≡ true → rise_from 0 r.attrs ≡ true → total sizes ≤ 960 → FitsRecord r
fits_record r sizes head fits kinds rise short = record {
  head = head;
  attrs = All-from_recursion FitsAttr r.attrs (fit_attrs sizes r.attrs fits);
  kinds = All-from_recursion (λ (a : Attr). a.head.kind < 0xFFFFFFFF) r.attrs (below_mark r.attrs kinds);
  rise = rise_true r.attrs rise;
  lawful = All-from_recursion (λ (a : Attr). has_lawful_value a ≡ true) r.attrs (fit_lawful sizes r.attrs fits);
  used = omega (arith, fit_sizes sizes r.attrs fits);
}

-- ---- index roots

-- the only entry of a node, the last one, has a spelling
fits_last : (down : Option ℕ) → FitsLast (last_entry down) → 0x10 + 8 * down_flag down ≤ 24 → HaveSpelling (last_entry down ∷ [])
unfolding node_used entry_length
fits_last down last short = record {
  vcn = omega arith;
  lsn = omega arith;
  entries = last;
  flags = All-from_recursion (λ (e : Entry). down_flag e.down ≡ children_of (last_entry down ∷ [])) (last_entry down ∷ []) (refl, tt);
  used = omega arith;
}

pub root_fits : HaveSpelling (last_entry (Some 0) ∷ [])
root_fits = fits_last (Some 0) (record { no_reference = refl; no_key = refl; down = omega arith }) (omega arith)

pub extend_fits : HaveSpelling (last_entry None ∷ [])
extend_fits = fits_last None (record { no_reference = refl; no_key = refl; down = tt }) (omega arith)

length-root : length (root_spelling 1 (last_entry (Some 0) ∷ [])) ≡ 56
unfolding entry_length
length-root = root_law.size 1 (last_entry (Some 0) ∷ []) root_fits

length-extend : length (root_spelling 1 (last_entry None ∷ [])) ≡ 48
unfolding entry_length
length-extend = root_law.size 1 (last_entry None ∷ []) extend_fits

length-info : length (volume_info_over (record { major = 3; minor = 1; flags = 0 }) (zeros 0x0C)) ≡ 12
length-info = length-volume_info_over (record { major = 3; minor = 1; flags = 0 }) (zeros 0x0C) ∙ length-zeros 0x0C

index_units : AllByRecursion (λ unit. unit < 2 ^ 16) names_index
index_units = (omega arith, (omega arith, (omega arith, (omega arith, tt))))

bad_units : AllByRecursion (λ unit. unit < 2 ^ 16) bad_name
bad_units = (omega arith, (omega arith, (omega arith, (omega arith, tt))))

-- ---- heads

sequence_by : (first below : Bool) (n : ℕ) → (below ≡ true → n < 24) → cond first 1 (cond below n 1) < 2 ^ 16
sequence_by true below n low = omega arith
sequence_by false true n low = omega (arith, low refl)
sequence_by false false n low = omega arith

pub sequence_small : (n : ℕ) → sequence n < 2 ^ 16
unfolding sequence
sequence_small n = sequence_by (eqb n 0) (ltb n 24) n (λ is. ltb-true n 24 is)

head_fits : (n links flags next : ℕ) → n < 64 → links < 2 ^ 16 → flags < 2 ^ 16 → next < 2 ^ 16 → FitsHead (head_of n links flags next)
head_fits n links flags next lt links_small flags_small next_small = record {
  lsn = omega arith;
  seq = sequence_small n;
  links = links_small;
  flags = flags_small;
  base = omega arith;
  base_seq = omega arith;
  next_id = next_small;
  number = omega arith;
}

-- one of three, each of which holds where it is chosen
pub by_kind : {A : Type 0} (P : A → Type 0) (first second : Bool) (x y z : A) → (first ≡ true → P x) → P y → P z → P (cond first x (cond second y z))
by_kind P true second x y z a b c = a refl
by_kind P false true x y z a b c = b
by_kind P false false x y z a b c = c

-- ---- the twelve system files

module _ (v : Layout) (layout : IsLayout v) (time : ℕ) (small : time < 2 ^ 64) where
  data_fits : (first clusters bytes : ℕ) → clusters < 2 ^ 32 → bytes < 2 ^ 64 → Fits 104 (in_clusters 2 data_type [] first clusters bytes)
  unfolding has_lawful_value
  data_fits first clusters bytes few short = fits_mapped 2 data_type [] (Some first) clusters bytes bytes (omega arith) (omega arith) (omega arith) tt few short short refl

  empty_fits : Fits 39 (resident 2 data_type [] [])
  unfolding has_lawful_value
  empty_fits = fits_resident 2 data_type 0 [] [] (omega arith) (omega arith) (omega arith) tt (omega arith) (omega arith) refl

  bits_fit : Fits 104 (in_clusters 3 bitmap_type [] 3 1 8)
  unfolding has_lawful_value
  bits_fit = fits_mapped 3 bitmap_type [] (Some 3) 1 8 8 (omega arith) (omega arith) (omega arith) tt (omega arith) (omega arith) (omega arith) refl

  label_fits : Fits 39 (resident 2 volume_name [] [])
  unfolding has_lawful_value
  label_fits = fits_resident 2 volume_name 0 [] [] (omega arith) (omega arith) (omega arith) tt (omega arith) (omega arith) refl

  info_fits : Fits 51 (resident 3 volume_information [] (volume_info_over (record { major = 3; minor = 1; flags = 0 }) (zeros 0x0C)))
  unfolding has_lawful_value
  info_fits = fits_resident 3 volume_information 12 [] (volume_info_over (record { major = 3; minor = 1; flags = 0 }) (zeros 0x0C)) (omega arith) (omega arith) (omega arith) tt (omega (arith, length-info)) (omega arith) refl

  root_fits_place : Fits 95 (resident 2 index_root names_index (root_spelling 1 (last_entry (Some 0) ∷ [])))
  unfolding has_lawful_value
  root_fits_place = fits_resident 2 index_root 56 names_index (root_spelling 1 (last_entry (Some 0) ∷ [])) (omega arith) (omega arith) (omega arith) index_units (omega (arith, length-root)) (omega arith) refl

  block_fits : Fits 104 (in_clusters 3 index_allocation names_index (block_first v) 1 4096)
  unfolding has_lawful_value
  block_fits = fits_mapped 3 index_allocation names_index (Some (block_first v)) 1 4096 4096 (omega arith) (omega arith) (omega arith) index_units (omega arith) (omega arith) (omega arith) refl

  block_bit_fits : Fits 47 (resident 4 bitmap_type names_index (spell 8 1))
  unfolding has_lawful_value
  block_bit_fits = fits_resident 4 bitmap_type 8 names_index (spell 8 1) (omega arith) (omega arith) (omega arith) index_units (omega (arith, length-spell 8 1)) (omega arith) refl

  bad_fits : Fits 104 (mapped 2 data_type bad_name None v.clusters (4096 * v.clusters) 0)
  unfolding has_lawful_value
  bad_fits = fits_mapped 2 data_type bad_name None v.clusters (4096 * v.clusters) 0 (omega arith) (omega arith) (omega arith) bad_units (omega (arith, layout.small)) (omega (arith, layout.small)) (omega arith) refl

  extend_fits_place : Fits 87 (resident 2 index_root names_index (root_spelling 1 (last_entry None ∷ [])))
  unfolding has_lawful_value
  extend_fits_place = fits_resident 2 index_root 48 names_index (root_spelling 1 (last_entry None ∷ [])) (omega arith) (omega arith) (omega arith) index_units (omega (arith, length-extend)) (omega arith) refl

  -- with standard information and a name
  both : (n : ℕ) (sizes : List ℕ) (attrs : List Attr) → n < 12 → FitEach sizes attrs → FitEach (111 ∷ 127 ∷ sizes) (standard time ∷ name_attribute v time n ∷ attrs)
  both n sizes attrs lt fits = (fits_standard time, (fits_named v layout time n small lt, fits))

  -- a record of a system file with these streams
  of_streams : (n : ℕ) (flags : ℕ) (sizes : List ℕ) (attrs : List Attr) → n < 12 → flags < 2 ^ 16 → FitEach sizes attrs
      → list_all (λ (a : Attr). nat_lt a.head.kind 0xFFFFFFFF) attrs ≡ true → rise_from 0x30 attrs ≡ true → length attrs ≤ 8 → total sizes ≤ 700
      → FitsRecord (record { head = head_of n 1 flags (length (standard time ∷ name_attribute v time n ∷ attrs)); attrs = standard time ∷ name_attribute v time n ∷ attrs })
  unfolding standard name_attribute
  of_streams n flags sizes attrs lt flags_small fits kinds rise few short =
      fits_record (record { head = head_of n 1 flags (length (standard time ∷ name_attribute v time n ∷ attrs)); attrs = standard time ∷ name_attribute v time n ∷ attrs }) (111 ∷ 127 ∷ sizes)
      (head_fits n 1 flags (length (standard time ∷ name_attribute v time n ∷ attrs)) (omega arith) (omega arith) flags_small (omega arith)) (both n sizes attrs lt fits) kinds rise (omega arith)

  system_fits : (n : ℕ) → n < 12 → FitsRecord (system_record v time n)
  unfolding system_record system_attrs system_data other_streams is_directory volume_streams root_streams extend_streams
  system_fits n lt =
      let pages = layout.log_small in
      let bits = layout.bitmap_small in
      let clusters = layout.small in
      of_twelve (λ k. FitsRecord (system_record v time k))
      (of_streams 0 1 (104 ∷ 104 ∷ []) _ (omega arith) (omega arith) (data_fits 4 16 65536 (omega arith) (omega arith), (bits_fit, tt)) refl refl (omega arith) (omega arith))
      (of_streams 1 1 (104 ∷ []) _ (omega arith) (omega arith) (data_fits 2 1 4096 (omega arith) (omega arith), tt) refl refl (omega arith) (omega arith))
      (of_streams 2 1 (104 ∷ []) _ (omega arith) (omega arith) (data_fits 52 v.log_pages (4096 * v.log_pages) (omega arith) (omega arith), tt) refl refl (omega arith) (omega arith))
      (of_streams 3 1 (39 ∷ 51 ∷ []) _ (omega arith) (omega arith) (label_fits, (info_fits, tt)) refl refl (omega arith) (omega arith))
      (of_streams 4 1 (39 ∷ []) _ (omega arith) (omega arith) (empty_fits, tt) refl refl (omega arith) (omega arith))
      (of_streams 5 3 (95 ∷ 104 ∷ 47 ∷ []) _ (omega arith) (omega arith) (root_fits_place, (block_fits, (block_bit_fits, tt))) refl refl (omega arith) (omega arith))
      (of_streams 6 1 (104 ∷ []) _ (omega arith) (omega arith) (data_fits (52 + v.log_pages) v.bitmap_clusters (cluster_bits_bytes v) (omega arith) (omega arith), tt) refl refl (omega arith) (omega arith))
      (of_streams 7 1 (104 ∷ []) _ (omega arith) (omega arith) (data_fits 0 2 8192 (omega arith) (omega arith), tt) refl refl (omega arith) (omega arith))
      (of_streams 8 1 (104 ∷ []) _ (omega arith) (omega arith) (bad_fits, tt) refl refl (omega arith) (omega arith))
      (of_streams 9 1 (39 ∷ []) _ (omega arith) (omega arith) (empty_fits, tt) refl refl (omega arith) (omega arith))
      (of_streams 10 1 (104 ∷ []) _ (omega arith) (omega arith) (data_fits 20 32 131072 (omega arith) (omega arith), tt) refl refl (omega arith) (omega arith))
      (of_streams 11 3 (87 ∷ []) _ (omega arith) (omega arith) (extend_fits_place, tt) refl refl (omega arith) (omega arith))
      n lt

  -- ---- the other records

  reserved_fits : (n : ℕ) → n < 64 → FitsRecord (reserved_record time n)
  unfolding reserved_record standard has_lawful_value
  reserved_fits n lt =
      fits_record (record { head = head_of n 0 1 2; attrs = standard time ∷ resident 1 data_type [] [] ∷ [] }) (111 ∷ 39 ∷ []) (head_fits n 0 1 2 lt (omega arith) (omega arith) (omega arith))
      (fits_standard time, (fits_resident 1 data_type 0 [] [] (omega arith) (omega arith) (omega arith) tt (omega arith) (omega arith) refl, tt)) refl refl (omega arith)

  spare_fits : (n : ℕ) → n < 64 → FitsRecord (spare_record n)
  spare_fits n lt = fits_record (record { head = head_of n 0 0 0; attrs = [] }) [] (head_fits n 0 0 0 lt (omega arith) (omega arith) (omega arith)) tt refl refl (omega arith)

  pub record_fits : (n : ℕ) → n < 64 → FitsRecord (record_of v time n)
  unfolding record_of
  record_fits n lt = by_kind FitsRecord (ltb n 12) (ltb n 16) (system_record v time n) (reserved_record time n) (spare_record n) (λ is. system_fits n (ltb-true n 12 is)) (reserved_fits n lt) (spare_fits n lt)
