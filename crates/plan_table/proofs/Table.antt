-- The file table as record 0 of a state has it.
use Rattle.std.proofs.Common.{◌≡◌, ℕ, Bool, true, false, not, List, [], ◌∷◌, Option, Some, None, refl, sym, ap, ◌∙◌, arith}
use Rattle.std.specs.List.{list_all}
use Rattle.std.proofs.lemmas.Bool.{and_parts, eqb-true}
use Rattle.disk_model.specs.declared.block.Block.{Block}
use Rattle.disk_model.specs.declared.block.BlockKind.TheVariants.{FileRec}
use Rattle.disk_model.specs.Content.{Content}
use Rattle.record_model.specs.declared.attribute.Attr.{Attr}
use Rattle.record_model.specs.Records.{Record}
use Rattle.record_model.specs.Constants.{attribute_list, data_type, index_allocation, bitmap_type, names_index}
use Rattle.state_model.specs.declared.geometry.Geometry.{Geometry}
use Rattle.state_model.specs.declared.stream.Extents.{Extents}
use Rattle.state_model.specs.declared.stream.Stream.{Stream}
use Rattle.state_model.specs.declared.stream.Stream.TheVariants.{Held, Placed}
use Rattle.state_model.specs.Files.{is_directory_record, has_type}
use Rattle.state_model.specs.Loads.{boot_block, record_count, extents_or, all_attrs}
use Rattle.state_model.specs.Streams.{attributes_of, stream_of, block_at}
use Rattle.volume_model.specs.Volumes.{Volume, file_in, file_stream, table_file}
use Rattle.volume_model.specs.Sizes.{are_joined, fits_volume, keeps_stream, has_hole, is_initialised, keeps_streams}
use Rattle.stream_laws.specs.Tables.{BeginsAtBoot}
use Rattle.stream_laws.proofs.Rewriting.{attrs_alone}
use Rattle.stream_laws.proofs.Tabling.{no_list_stream, table_extents_is}
use Rattle.plan_growth.specs.plan_owners.States.{Stands}
use Rattle.plan_growth.proofs.plan_owners.Standing.{slots, file_parts, some_file, streams_at, begins}
use Rattle.plan_growth.proofs.plan_owners.Unnamed.{no_list_of_table}
use Rattle.plan_growth.proofs.plan_model.OneRecord.{streams_test, by_test, OwnRecord, own_record}
use Rattle.plan_growth.proofs.Placed.{some_attributes, stream_rule}

negated : (t : Bool) → not t ≡ true → t ≡ false
negated true none = absurd cc
negated false none = refl

-- ---- the table's own stream

placed_by : (per : ℕ) (o : Option Stream) (e : Extents) (b : Block) → extents_or o ≡ e → block_at per e.runs FileRec 0 ≡ Some b → o ≡ Some (Placed e)
unfolding block_at
placed_by per None e b is at = (let none : None ≡ Some b = ap (λ (x : Extents). block_at per x.runs FileRec 0) is ∙ at in absurd cc)
placed_by per (Some (Held value)) e b is at = (let none : None ≡ Some b = ap (λ (x : Extents). block_at per x.runs FileRec 0) is ∙ at in absurd cc)
placed_by per (Some (Placed x)) e b is at = ap (λ (y : Extents). Some (Placed y)) is

module _ (c : Content) (g : Geometry) (clusters : ℕ) (v : Volume) (r : Record) (state : Stands c g clusters v) (file : file_in v table_file ≡ Some r) where
  start : BeginsAtBoot c g clusters v
  start = begins c g clusters v state

  pub table_no_list : has_type attribute_list r ≡ false
  table_no_list =
      let parts = file_parts c g clusters v table_file r state.loaded (some_file v table_file r file) in
      let none = no_list_of_table c g clusters v parts.base state parts.slot in
      let alone : all_attrs c v.per (slots c v) (record_count v.table) table_file parts.base ≡ parts.base.attrs = attrs_alone c v.per (slots c v) (record_count v.table) table_file parts.base (no_list_stream parts.base none) in
      let same : r ≡ parts.base = parts.whole ∙ ap (λ (l : List Attr). record { head = parts.base.head; attrs = l }) alone in
      ap (has_type attribute_list) same ∙ none

  pub table_own : OwnRecord c v table_file r
  table_own = own_record c g clusters v table_file r state file table_no_list

  pub table_records : stream_of data_type [] r.attrs ≡ Some (Placed v.table)
  table_records =
      placed_by v.per (stream_of data_type [] r.attrs) v.table (boot_block g 0) (sym (ap (λ (o : Option Record). extents_or (file_stream data_type [] o)) file) ∙ table_extents_is c g clusters v start) start.first

  old_streams : keeps_streams c v table_file r ≡ true
  old_streams = streams_at c g clusters v table_file r state file

  pub table_each : list_all (keeps_stream v.per v.clusters r.attrs) r.attrs ≡ true
  unfolding keeps_streams
  table_each = (and_parts _ _ (and_parts _ _ (and_parts _ _ old_streams).0).0).0

  pub table_fits : fits_volume v.per v.clusters (Some (Placed v.table)) ≡ true
  unfolding stream_of
  table_fits =
      let some : (a : Attr) × (others : List Attr) × (attributes_of data_type [] r.attrs ≡ a ∷ others) = some_attributes (attributes_of data_type [] r.attrs) (Placed v.table) table_records in
      sym (ap (fits_volume v.per v.clusters) table_records) ∙ (stream_rule v.per v.clusters data_type [] r some.0 some.1 (λ e. omega (arith, e)) some.2 table_each).1

  -- its data is initialised, its streams are whole
  old_test : streams_test c v.per table_file (list_all (keeps_stream v.per v.clusters r.attrs) r.attrs) (is_directory_record r) (stream_of data_type [] r.attrs) (stream_of bitmap_type [] r.attrs) (stream_of index_allocation names_index r.attrs) (stream_of bitmap_type names_index r.attrs) ≡ true
  old_test = sym (by_test c v table_file r) ∙ old_streams

  pub table_initialised : v.table.initialised ≡ v.table.real
  table_initialised = eqb-true v.table.initialised v.table.real (sym (ap is_initialised table_records) ∙ (and_parts _ _ (and_parts _ _ old_test).0).1)

  whole_streams : (not (has_hole (stream_of data_type [] r.attrs)) ≡ true) × (not (has_hole (stream_of bitmap_type [] r.attrs)) ≡ true)
  whole_streams =
      let holes = (and_parts _ _ (and_parts _ _ (and_parts _ _ old_test).0).0).1 in
      and_parts _ _ (and_parts _ _ holes).0

  pub table_whole : has_hole (Some (Placed v.table)) ≡ false
  table_whole = sym (ap has_hole table_records) ∙ negated (has_hole (stream_of data_type [] r.attrs)) whole_streams.0

  module _ (old : Stream) (bitmap : stream_of bitmap_type [] r.attrs ≡ Some old) where
    pub numbers_fit : (are_joined (attributes_of bitmap_type [] r.attrs) ≡ true) × (fits_volume v.per v.clusters (Some old) ≡ true)
    unfolding stream_of
    numbers_fit =
        let some : (a : Attr) × (others : List Attr) × (attributes_of bitmap_type [] r.attrs ≡ a ∷ others) = some_attributes (attributes_of bitmap_type [] r.attrs) old bitmap in
        let rule = stream_rule v.per v.clusters bitmap_type [] r some.0 some.1 (λ e. omega (arith, e)) some.2 table_each in
        (rule.0, sym (ap (fits_volume v.per v.clusters) bitmap) ∙ rule.1)

    pub numbers_whole : has_hole (Some old) ≡ false
    numbers_whole = sym (ap has_hole bitmap) ∙ negated (has_hole (stream_of bitmap_type [] r.attrs)) whole_streams.1
