-- The record of a new file has a spelling, is written as it is, and read so.
use Rattle.std.proofs.Common.{◌≡◌, ℕ, ◌+◌, ◌*◌, ◌^◌, ◌<◌, ◌≤◌, ◌/◌, ◌%◌, true, false, List, [], length, Ok, refl, sym, ap, subst, ◌∙◌, arith}
use Rattle.std.specs.Prelude.{IsTrue, is_ok}
use Rattle.std.specs.List.{AllByRecursion}
use Rattle.std.proofs.lemmas.Bool.{le-leb}
use Rattle.std.proofs.lemmas.List.Elements.{All-from_recursion}
use Rattle.host_base.specs.declared.file_ref.FileRef.{FileRef}
use Rattle.disk_model.specs.Bytes.{zeros}
use Rattle.record_model.specs.declared.attribute.Attr.{Attr}
use Rattle.record_model.specs.Attributes.{FitsAttr}
use Rattle.record_model.specs.Constants.{end_mark, standard_information, file_name, data_type}
use Rattle.record_model.specs.Records.{Record, record_spelling, used_of, FitsRecord}
use Rattle.record_model.specs.StdValues.{std_info_of, FitsStdInfo, file_name_of, IsFileName, FitsFileName}
use Rattle.record_model.specs.Values.{is_standard_information, is_file_name, has_lawful_value}
use Rattle.record_model.proofs.FileNames.{file_name_read, file_name_spelled, file_name_lawful, length-file_name_over}
use Rattle.record_model.proofs.FixedValues.{std_info_read, std_info_spelled, length-std_info_over}
use Rattle.record_model.proofs.UnitBytes.{length-zeros}
use Rattle.plan_edits.proofs.record_writer.Measures.{length-spelling}
use Rattle.plan_edits.proofs.record_writer.Rising.{rise_true}
use Rattle.state_model.specs.Loads.{Used, slot_of, has_all_pairs}
use Rattle.plan_edits.specs.draft_records.Records.{written_record}
use Rattle.plan_edits.proofs.draft_records.Spelled.{spelled_fits}
use Rattle.plan_edits.proofs.draft_records.Written.{body_whole, room_of}
use Rattle.plan_edits.proofs.Reading.{written_read}
use Rattle.new_files.specs.NewFiles.{new_info, new_info_value, new_name, new_name_value, unnamed, new_attrs, new_record}
use Rattle.new_files.specs.Laws.{HasFields, IsSpelled}

-- ---- values

pub info_size : (stamp : ℕ) → length (new_info_value stamp) ≡ 0x48
unfolding new_info_value
info_size stamp = length-std_info_over (new_info stamp) (zeros 0x48) ∙ length-zeros 0x48

info_lawful : (stamp : ℕ) → is_standard_information (new_info_value stamp) ≡ true
unfolding is_standard_information
info_lawful stamp = le-leb 0x30 (length (new_info_value stamp)) (omega (arith, info_size stamp))

pub info_read : (stamp : ℕ) → stamp < 2 ^ 64 → std_info_of (new_info_value stamp) ≡ Ok (new_info stamp)
unfolding new_info_value
info_read stamp small =
    let fits : FitsStdInfo (new_info stamp) = record { created = small; modified = small; changed = small; read_at = small; flags = omega arith } in
    std_info_read (new_info_value stamp) (new_info stamp) (std_info_spelled (new_info stamp) (zeros 0x48) fits (omega (arith, length-zeros 0x48)))

pub name_size : (parent : FileRef) (name : List ℕ) (stamp : ℕ) → length (new_name_value parent name stamp) ≡ 0x42 + 2 * length name
unfolding new_name_value
name_size parent name stamp = length-file_name_over (new_name parent name stamp) (zeros (0x42 + 2 * length name)) ∙ length-zeros (0x42 + 2 * length name)

module _ (lsn : ℕ) (file parent : FileRef) (name : List ℕ) (stamp : ℕ) (h : HasFields lsn file parent name stamp) where
  abbrev f : Record
  f = new_record lsn file parent name stamp

  name_fits : FitsFileName (new_name parent name stamp)
  name_fits = record {
    number = h.directory;
    seq = h.directory_seq;
    created = h.stamp_small;
    modified = h.stamp_small;
    changed = h.stamp_small;
    read_at = h.stamp_small;
    allocated = omega arith;
    real = omega arith;
    flags = omega arith;
    space = omega arith;
    name = h.is_name;
  }

  pub name_table : IsFileName (new_name_value parent name stamp) (new_name parent name stamp)
  unfolding new_name_value
  name_table = file_name_spelled (new_name parent name stamp) (zeros (0x42 + 2 * length name)) name_fits (length-zeros (0x42 + 2 * length name))

  pub name_read : file_name_of (new_name_value parent name stamp) ≡ Ok (new_name parent name stamp)
  name_read = file_name_read (new_name_value parent name stamp) (new_name parent name stamp) name_table

  pub name_lawful : is_file_name (new_name_value parent name stamp) ≡ true
  name_lawful = sym (file_name_lawful (new_name_value parent name stamp)) ∙ ap is_ok name_read

  -- ---- attributes

  unnamed_fits : (id kind indexed : ℕ) (value : List ℕ) → id < 2 ^ 16 → kind < 2 ^ 32 → indexed < 256 → length value < 2 ^ 31 → FitsAttr (unnamed id kind indexed value)
  unnamed_fits id kind indexed value small_id small_kind small_indexed short = record {
    kind = small_kind;
    flags = omega arith;
    id = small_id;
    name_short = omega arith;
    units = All-from_recursion (λ (unit : ℕ). unit < 2 ^ 16) [] tt;
    form = record { value_short = short; indexed_byte = small_indexed };
  }

  each_fits : AllByRecursion FitsAttr f.attrs
  unfolding new_record new_attrs
  each_fits = (
    unnamed_fits 0 standard_information 0 (new_info_value stamp) (omega arith) (omega arith) (omega arith) (omega (arith, info_size stamp)),
    (
      unnamed_fits 1 file_name 1 (new_name_value parent name stamp) (omega arith) (omega arith) (omega arith) (omega (arith, name_size parent name stamp, h.is_name.within)),
      (unnamed_fits 2 data_type 0 [] (omega arith) (omega arith) (omega arith) (omega arith), tt),
    ),
  )

  each_lawful : AllByRecursion (λ a. IsTrue (has_lawful_value a)) f.attrs
  unfolding new_record new_attrs has_lawful_value
  each_lawful = (info_lawful stamp, (name_lawful, (refl, tt)))

  each_kind : AllByRecursion (λ a. a.head.kind < end_mark) f.attrs
  unfolding new_record new_attrs
  each_kind = (omega arith, (omega arith, (omega arith, tt)))

  pub used_is : used_of f.attrs ≡ 0x38 + (0x60 + (8 * ((0x18 + 0x42 + 2 * length name + 7) / 8) + 0x18)) + 8
  unfolding new_record new_attrs
  used_is = omega (
    arith,
    length-spelling (unnamed 0 standard_information 0 (new_info_value stamp)),
    length-spelling (unnamed 1 file_name 1 (new_name_value parent name stamp)),
    length-spelling (unnamed 2 data_type 0 []),
    info_size stamp,
    name_size parent name stamp,
  )

  fits : FitsRecord f
  unfolding new_record new_attrs
  fits = record {
    head = record {
      lsn = h.lsn_small;
      seq = h.seq;
      links = omega arith;
      flags = omega arith;
      base = omega arith;
      base_seq = omega arith;
      next_id = omega arith;
      number = h.number;
    };
    attrs = All-from_recursion FitsAttr f.attrs each_fits;
    kinds = All-from_recursion (λ (a : Attr). a.head.kind < end_mark) f.attrs each_kind;
    rise = rise_true f.attrs refl;
    lawful = All-from_recursion (λ (a : Attr). IsTrue (has_lawful_value a)) f.attrs each_lawful;
    used = omega (arith, used_is, h.is_name.within);
  }

  -- ---- as it is written and read

  written : written_record f ≡ f
  unfolding new_record new_attrs
  written = refl

  pairs : has_all_pairs f ≡ true
  unfolding new_record new_attrs has_all_pairs
  pairs = refl

  in_use : f.head.flags % 2 ≡ 1
  unfolding new_record
  in_use = refl

  slot : slot_of (record { bytes = record_spelling f; torn = false }) ≡ Used f
  slot =
      let room = room_of f (record_spelling (written_record f)) (body_whole f (short written)) in
      ap (λ (r : Record). slot_of (record { bytes = record_spelling r; torn = false })) (sym written)
      ∙ written_read.reads f (spelled_fits f fits) room.0 (record { flag = in_use; pairs = pairs })
      ∙ ap Used written
    where
      short : written_record f ≡ f → used_of (written_record f).attrs ≤ 1024
      short e = subst (λ (r : Record). used_of r.attrs ≤ 1024) (sym e) fits.used

  pub spelled : IsSpelled f
  spelled = record { fits = fits; written = written; slot = slot }
