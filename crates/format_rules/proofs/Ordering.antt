-- The table of upper-case units of a new volume, and the order of the system files' names under it.
use Rattle.std.proofs.Common.{◌≡◌, ℕ, ◌-◌, ◌^◌, ◌<◌, Bool, true, false, cond, leb, ltb, ◌&&◌, List, [], ◌∷◌, length, map, get_or, slice_index, Option, Some, refl, sym, ap, ◌∙◌, arith}
use Rattle.std.specs.Prelude.{nat_lt}
use Rattle.std.specs.Ordering.{nat_cmp, ordering_then, is_lt}
use Rattle.std.specs.declared.cmp.Ordering.{Ordering}
use Rattle.std.specs.Cmp.Lexicographic.{slice_cmp}
use Rattle.std.specs.List.{AllByRecursion, list_all}
use Rattle.std.proofs.lemmas.Bool.{and_parts, ltb-true}
use Rattle.std.proofs.lemmas.List.{take_all, append-nil, get_or_default}
use Rattle.std.proofs.lemmas.List.Elements.{recursion_from_All}
use Rattle.disk_model.specs.Content.{Content}
use Rattle.record_model.specs.Attributes.{units_at, unit_bytes}
use Rattle.record_model.proofs.UnitBytes.{units_here}
use Rattle.file_tree.specs.Names.{upper_units, name_order, comes_before}
use Rattle.state_model.specs.declared.stream.Stream.{Stream}
use Rattle.state_model.specs.declared.stream.Stream.TheVariants.{Placed}
use Rattle.state_model.specs.Streams.{extent_bytes}
use Rattle.state_model.specs.Loads.{data_stream}
use Rattle.upcase_order.specs.Tables.{upcase_of, standard_upper, standard_table}
use Rattle.upcase_order.proofs.Units.{length-standard_units, get-standard_units, standard_table-is, upcase-read}
use Rattle.volume_model.specs.Volumes.{file_stream, bytes_or, table_or_standard, upper_of}
use Rattle.format_files.specs.volume_format.declared.layout.Layout.{Layout}
use Rattle.format_files.specs.volume_format.Layouts.{IsLayout}
use Rattle.format_files.specs.volume_format.Files.{system_name, system_data, system_record}
use Rattle.format_files.specs.volume_format.Images.{upper_case_bytes}
use Rattle.format_files.specs.format_blocks.Blocks.{HasBlocks}
use Rattle.format_files.specs.Volumes.{extents_at}
use Rattle.format_files.proofs.format_blocks.Naming.{of_twelve}
use Rattle.format_files.proofs.format_blocks.Sizing.{length-upper_case}
use Rattle.format_files.proofs.Streams.{data_is}
use Rattle.format_files.proofs.Linking.{vol, system_here}
use Rattle.format_files.proofs.Bytes.{extent_is}

-- ---- the table

table_size : length standard_table ≡ 65536
table_size = ap length standard_table-is ∙ length-standard_units 65536

table_gives : (unit : ℕ) → unit < 65536 → slice_index standard_table unit ≡ standard_upper unit
table_gives unit lt = ap (λ table. slice_index table unit) standard_table-is ∙ get-standard_units 65536 unit lt

upper_small : (lower : Bool) (unit : ℕ) → unit < 2 ^ 16 → cond lower (unit - 0x20) unit < 2 ^ 16
upper_small true unit lt = omega arith
upper_small false unit lt = lt

small_units : AllByRecursion (λ unit. unit < 2 ^ 16) standard_table
small_units = recursion_from_All (λ (unit : ℕ). unit < 2 ^ 16) standard_table (λ k d lt.
    let below : k < 65536 = omega (arith, table_size) in
    let is : get_or standard_table k d ≡ standard_upper k = get_or_default standard_table k d 0 lt ∙ table_gives k below in
    let low : standard_upper k < 2 ^ 16 = upper_small (leb 0x61 k && leb k 0x7A) k (omega arith) in
    omega (arith, is, low))

table_spelled : units_at 0 65536 upper_case_bytes ≡ standard_table
unfolding upper_case_bytes
table_spelled =
    ap (λ (n : ℕ). units_at 0 n (unit_bytes standard_table)) (sym table_size)
    ∙ units_here 0 standard_table (unit_bytes standard_table) [] (sym (append-nil (unit_bytes standard_table))) small_units

module _ (v : Layout) (layout : IsLayout v) (seed time : ℕ) (c : Content) (has : HasBlocks v seed time c) where
  upper_stream : file_stream 0x80 [] (Some (system_record v time 10)) ≡ Some (Placed (extents_at 20 32 131072))
  unfolding data_stream system_data
  upper_stream = data_is v layout time 10 (omega arith)

  upper_bytes : extent_bytes c 8 (extents_at 20 32 131072) ≡ upper_case_bytes
  upper_bytes = extent_is c 20 32 131072 upper_case_bytes has.upper_case length-upper_case (omega arith) ∙ take_all 131072 upper_case_bytes (omega (arith, length-upper_case))

  pub upper_is : upper_of c (vol v time) ≡ standard_table
  unfolding upper_of
  upper_is =
      ap (λ o. table_or_standard (upcase_of (bytes_or c 8 (file_stream 0x80 [] o)))) (system_here v time 10 (omega arith))
      ∙ ap (λ (s : Option Stream). table_or_standard (upcase_of (bytes_or c 8 s))) upper_stream
      ∙ ap (λ (bytes : List ℕ). table_or_standard (upcase_of bytes)) upper_bytes
      ∙ ap table_or_standard (upcase-read upper_case_bytes length-upper_case)
      ∙ table_spelled

-- ---- the order of names

unfoldable pub plain_order : List ℕ → List ℕ → Ordering
plain_order a b = ordering_then (slice_cmp nat_cmp (map standard_upper a) (map standard_upper b)) (slice_cmp nat_cmp a b)

abbrev pub are_small : List ℕ → Bool
are_small units = list_all (λ unit. nat_lt unit 65536) units

pub upper_name : (units : List ℕ) → are_small units ≡ true → upper_units standard_table units ≡ map standard_upper units
unfolding upper_units
upper_name [] small = refl
upper_name (u ∷ units) small =
    let parts = and_parts (ltb u 65536) (are_small units) small in
    ap (λ (x : ℕ). x ∷ map (slice_index standard_table) units) (table_gives u (ltb-true u 65536 parts.0))
    ∙ ap (λ (l : List ℕ). standard_upper u ∷ l) (upper_name units parts.1)

pub names_small : (n : ℕ) → n < 12 → are_small (system_name n) ≡ true
unfolding system_name
names_small n lt = of_twelve (λ k. are_small (system_name k) ≡ true) refl refl refl refl refl refl refl refl refl refl refl refl n lt

order_of_names : (n m : ℕ) → n < 12 → m < 12 → name_order standard_table (system_name n) (system_name m) ≡ plain_order (system_name n) (system_name m)
unfolding name_order plain_order
order_of_names n m n_lt m_lt =
    ap (λ (a : List ℕ). ordering_then (slice_cmp nat_cmp a (upper_units standard_table (system_name m))) (slice_cmp nat_cmp (system_name n) (system_name m))) (upper_name (system_name n) (names_small n n_lt))
    ∙ ap (λ (b : List ℕ). ordering_then (slice_cmp nat_cmp (map standard_upper (system_name n)) b) (slice_cmp nat_cmp (system_name n) (system_name m))) (upper_name (system_name m) (names_small m m_lt))

abbrev pub Before : ℕ → ℕ → Type 0
Before n m = comes_before standard_table (system_name n) (system_name m) ≡ true

before : (n m : ℕ) → n < 12 → m < 12 → is_lt (plain_order (system_name n) (system_name m)) ≡ true → Before n m
before n m n_lt m_lt is = ap is_lt (order_of_names n m n_lt m_lt) ∙ is

-- each name comes before the next one
pub record InOrder : Type 0 where
  pub attributes : Before 4 8
  pub bad : Before 8 6
  pub bits : Before 6 7
  pub boot : Before 7 11
  pub extend : Before 11 2
  pub log : Before 2 0
  pub table : Before 0 1
  pub mirror : Before 1 9
  pub secure : Before 9 10
  pub upper_case : Before 10 3
  pub volume : Before 3 5

pub in_order_here : InOrder
unfolding system_name plain_order
in_order_here = record {
  attributes = before 4 8 (omega arith) (omega arith) refl;
  bad = before 8 6 (omega arith) (omega arith) refl;
  bits = before 6 7 (omega arith) (omega arith) refl;
  boot = before 7 11 (omega arith) (omega arith) refl;
  extend = before 11 2 (omega arith) (omega arith) refl;
  log = before 2 0 (omega arith) (omega arith) refl;
  table = before 0 1 (omega arith) (omega arith) refl;
  mirror = before 1 9 (omega arith) (omega arith) refl;
  secure = before 9 10 (omega arith) (omega arith) refl;
  upper_case = before 10 3 (omega arith) (omega arith) refl;
  volume = before 3 5 (omega arith) (omega arith) refl;
}
