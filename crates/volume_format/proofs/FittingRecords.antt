-- The records of a new volume have spellings.
use Rattle.std.proofs.Common.{◌≡◌, ℕ, ◌+◌, ◌*◌, ◌^◌, ◌<◌, ◌≤◌, Bool, true, false, List, [], ◌∷◌, length, refl, sym, ap, ◌∙◌, inl, inr, arith}
use Rattle.std.specs.Prelude.{IsTrue, is_ok, if◌then◌else◌}
use Rattle.std.specs.List.{AllByRecursion}
use Rattle.std.proofs.lemmas.Bool.{cases_lt, lt-ltb, le-ltb, le-leb}
use Rattle.std.proofs.lemmas.List.Elements.{All-from_recursion}
use Rattle.utf16_name.specs.Lawful.{IsName, IsNameUnit}
use Rattle.disk_model.specs.Bytes.{zeros}
use Rattle.record_model.specs.declared.attribute.Attr.{Attr}
use Rattle.record_model.specs.declared.record.RecHead.{RecHead}
use Rattle.record_model.specs.Attributes.{spelling, FitsAttr}
use Rattle.record_model.specs.Records.{spelled_bytes, TypesRise, FitsHead, FitsRecord}
use Rattle.record_model.specs.StdValues.{file_name_over, IsFileName, FitsFileName}
use Rattle.record_model.specs.Values.{is_standard_information, is_file_name, has_lawful_value}
use Rattle.record_model.proofs.FileNames.{file_name_read, file_name_spelled, file_name_lawful, length-file_name_over}
use Rattle.record_model.proofs.FixedValues.{length-std_info_over}
use Rattle.record_model.proofs.UnitBytes.{length-zeros}
use Rattle.record_writer.proofs.Measures.{length-spelling}
use Rattle.volume_format.specs.declared.layout.Layout.{Layout}
use Rattle.volume_format.specs.declared.naming.Data.{Data}
use Rattle.volume_format.specs.declared.naming.Data.TheVariants.{Absent, Empty, Clusters}
use Rattle.volume_format.specs.Layouts.{IsLayout}
use Rattle.volume_format.specs.Files.{system_name, system_data, is_directory, sequence, resident, FitsData, allocated_of, bytes_of, standard_value, standard, name_fields, name_value, name_attribute, head_of, system_attrs, system_record, reserved_record, spare_record, record_of}
use Rattle.volume_format.proofs.FittingAttributes.{FitsIn, no_units, resident_fits}
use Rattle.volume_format.proofs.FittingStreams.{below, Stand, data_fits, streams, streams_stand, streams_few}

-- ---- names

is_name : (units : List ℕ) → 0 < length units → length units ≤ 255 → AllByRecursion IsNameUnit units → IsName units
is_name units some few each = record { some = some; within = few; lawful = All-from_recursion IsNameUnit units each }

unit : (n : ℕ) → 0x2F < n → n < 0x80 → IsNameUnit n
unit n low high = (omega arith, (λ e. omega arith), (λ e. omega arith))

dollar : IsNameUnit 0x24
dollar = (omega arith, (λ e. omega arith), (λ e. omega arith))

dot : IsNameUnit 0x2E
dot = (omega arith, (λ e. omega arith), (λ e. omega arith))

pub record HasName (n : ℕ) : Type 0 where
  pub name : IsName (system_name n)
  pub short : length (system_name n) ≤ 8

abbrev AreLetters : List ℕ → Type 0
AreLetters [] = Unit {0}
AreLetters (x ∷ xs) = (0x2F < x) × (x < 0x80) × AreLetters xs

letters : (xs : List ℕ) → AreLetters xs → AllByRecursion IsNameUnit xs
letters [] h = tt
letters (x ∷ xs) h = (unit x h.0 h.1, letters xs h.2)

dollar_name : (xs : List ℕ) → length xs ≤ 7 → AreLetters xs → IsName (0x24 ∷ xs)
dollar_name xs few h = is_name (0x24 ∷ xs) (omega arith) (omega arith) (dollar, letters xs h)

pub has_name : (n : ℕ) → n < 12 → HasName n
unfolding system_name
has_name n lt =
    below HasName 12 (
      record { name = dollar_name _ (omega arith) (omega arith, omega arith, (omega arith, omega arith, (omega arith, omega arith, (omega arith, omega arith, (omega arith, omega arith, (omega arith, omega arith, tt)))))); short = omega arith },
      (
        record { name = dollar_name _ (omega arith) (omega arith, omega arith, (omega arith, omega arith, (omega arith, omega arith, (omega arith, omega arith, (omega arith, omega arith, (omega arith, omega arith, tt)))))); short = omega arith },
        (
          record { name = dollar_name _ (omega arith) (omega arith, omega arith, (omega arith, omega arith, (omega arith, omega arith, (omega arith, omega arith, (omega arith, omega arith, (omega arith, omega arith, tt)))))); short = omega arith },
          (
            record { name = dollar_name _ (omega arith) (omega arith, omega arith, (omega arith, omega arith, (omega arith, omega arith, (omega arith, omega arith, (omega arith, omega arith, (omega arith, omega arith, (omega arith, omega arith, tt))))))); short = omega arith },
            (
              record { name = dollar_name _ (omega arith) (omega arith, omega arith, (omega arith, omega arith, (omega arith, omega arith, (omega arith, omega arith, tt)))); short = omega arith },
              (
                record { name = dollar_name _ (omega arith) (omega arith, omega arith, (omega arith, omega arith, (omega arith, omega arith, (omega arith, omega arith, (omega arith, omega arith, (omega arith, omega arith, tt)))))); short = omega arith },
                (
                  record { name = is_name (0x2E ∷ []) (omega arith) (omega arith) (dot, tt); short = omega arith },
                  (
                    record { name = dollar_name _ (omega arith) (omega arith, omega arith, (omega arith, omega arith, (omega arith, omega arith, (omega arith, omega arith, (omega arith, omega arith, (omega arith, omega arith, (omega arith, omega arith, tt))))))); short = omega arith },
                    (
                      record { name = dollar_name _ (omega arith) (omega arith, omega arith, (omega arith, omega arith, (omega arith, omega arith, (omega arith, omega arith, (omega arith, omega arith, (omega arith, omega arith, tt)))))); short = omega arith },
                      (
                        record { name = dollar_name _ (omega arith) (omega arith, omega arith, (omega arith, omega arith, (omega arith, omega arith, (omega arith, omega arith, (omega arith, omega arith, (omega arith, omega arith, (omega arith, omega arith, tt))))))); short = omega arith },
                        (
                          record { name = dollar_name _ (omega arith) (omega arith, omega arith, (omega arith, omega arith, (omega arith, omega arith, (omega arith, omega arith, (omega arith, omega arith, (omega arith, omega arith, (omega arith, omega arith, tt))))))); short = omega arith },
                          (record { name = dollar_name _ (omega arith) (omega arith, omega arith, (omega arith, omega arith, (omega arith, omega arith, tt))); short = omega arith }, tt),
                        ),
                      ),
                    ),
                  ),
                ),
              ),
            ),
          ),
        ),
      ),
    )
    n lt

flags_small : (b : Bool) → (if b then 0x10000006 else 6) < 2 ^ 32
flags_small true = omega arith
flags_small false = omega arith

allocated_small : (place : Data) → FitsData place → allocated_of place < 2 ^ 64
allocated_small Absent fits = omega arith
allocated_small Empty fits = omega arith
allocated_small (Clusters first clusters bytes) fits = let few : clusters < 2 ^ 32 = fits.1 in omega arith

bytes_small : (place : Data) → FitsData place → bytes_of place < 2 ^ 64
bytes_small Absent fits = omega arith
bytes_small Empty fits = omega arith
bytes_small (Clusters first clusters bytes) fits = let few : clusters < 2 ^ 32 = fits.1 in let room : bytes ≤ 4096 * clusters = fits.3 in omega arith

pub name_fits : (v : Layout) → IsLayout v → (time n : ℕ) → time < 2 ^ 64 → n < 12 → FitsFileName (name_fields v time n)
unfolding sequence
name_fits v fits time n small lt = record {
  number = omega arith;
  seq = omega arith;
  created = small;
  modified = small;
  changed = small;
  read_at = small;
  allocated = allocated_small (system_data v n) (data_fits v fits n lt);
  real = bytes_small (system_data v n) (data_fits v fits n lt);
  flags = flags_small (is_directory n);
  space = omega arith;
  name = (has_name n lt).name;
}

-- the value of a name is one
pub name_lawful : (v : Layout) → IsLayout v → (time n : ℕ) → time < 2 ^ 64 → n < 12 → is_file_name (name_value v time n) ≡ true
unfolding name_value
name_lawful v fits time n small lt =
    let f = name_fields v time n in
    let value : List ℕ = zeros (0x42 + 2 * length (system_name n)) in
    let spelled : IsFileName (file_name_over (name_fields v time n) value) (name_fields v time n) = file_name_spelled (name_fields v time n) value (name_fits v fits time n small lt) (length-zeros (0x42 + 2 * length (system_name n))) in
    sym (file_name_lawful (file_name_over (name_fields v time n) value)) ∙ ap is_ok (file_name_read (file_name_over (name_fields v time n) value) (name_fields v time n) spelled)

pub length-name_value : (v : Layout) (time n : ℕ) → length (name_value v time n) ≡ 0x42 + 2 * length (system_name n)
unfolding name_value
length-name_value v time n = length-file_name_over (name_fields v time n) (zeros (0x42 + 2 * length (system_name n))) ∙ length-zeros (0x42 + 2 * length (system_name n))

-- ---- the first two attributes

standard_fits : (time : ℕ) → FitsIn (standard time)
unfolding standard has_lawful_value is_standard_information
standard_fits time =
    let size : length (standard_value time) ≡ 0x48 = length-std_info_over _ (zeros 0x48) ∙ length-zeros 0x48 in
    resident_fits 0 0x10 [] (standard_value time) (omega arith) (omega arith) (omega arith) no_units (omega arith) (le-leb _ _ (omega arith))

named_fits : (v : Layout) → IsLayout v → (time n : ℕ) → time < 2 ^ 64 → n < 12 → FitsIn (name_attribute v time n)
unfolding name_attribute has_lawful_value
named_fits v fits time n small lt =
    let size = length-name_value v time n in
    let short = (has_name n lt).short in
    record {
      attr = record { kind = omega arith; flags = omega arith; id = omega arith; name_short = omega arith; units = no_units; form = record { value_short = omega arith; indexed_byte = omega arith } };
      kind = omega arith;
      lawful = name_lawful v fits time n small lt;
      short = let e = length-spelling (name_attribute v time n) in omega arith;
    }

-- ---- records

each_attr : (least : ℕ) (attrs : List Attr) → Stand least attrs → AllByRecursion FitsAttr attrs
each_attr least [] stand = tt
each_attr least (a ∷ attrs) stand = (stand.0.attr, each_attr a.head.kind attrs stand.2)

each_kind : (least : ℕ) (attrs : List Attr) → Stand least attrs → AllByRecursion (λ a. a.head.kind < 0xFFFFFFFF) attrs
each_kind least [] stand = tt
each_kind least (a ∷ attrs) stand = (stand.0.kind, each_kind a.head.kind attrs stand.2)

each_lawful : (least : ℕ) (attrs : List Attr) → Stand least attrs → AllByRecursion (λ a. IsTrue (has_lawful_value a)) attrs
each_lawful least [] stand = tt
each_lawful least (a ∷ attrs) stand = (stand.0.lawful, each_lawful a.head.kind attrs stand.2)

they_rise : (least : ℕ) (attrs : List Attr) → Stand least attrs → TypesRise attrs
they_rise least [] stand = tt
they_rise least (a ∷ []) stand = tt
they_rise least (a ∷ b ∷ attrs) stand = (stand.2.1, they_rise a.head.kind (b ∷ attrs) stand.2)

they_are_short : (least : ℕ) (attrs : List Attr) → Stand least attrs → spelled_bytes attrs ≤ 160 * length attrs
they_are_short least [] stand = omega arith
they_are_short least (a ∷ attrs) stand =
    let here : length (spelling a) ≤ 160 = stand.0.short in
    let rest = they_are_short a.head.kind attrs stand.2 in
    omega arith

record_fits : (head : RecHead) (attrs : List Attr) → FitsHead head → Stand 0 attrs → length attrs ≤ 6 → FitsRecord (record { head = head; attrs = attrs })
record_fits head attrs fits stand few = record {
  head = fits;
  attrs = All-from_recursion _ attrs (each_attr 0 attrs stand);
  kinds = All-from_recursion _ attrs (each_kind 0 attrs stand);
  rise = they_rise 0 attrs stand;
  lawful = All-from_recursion _ attrs (each_lawful 0 attrs stand);
  used = let short = they_are_short 0 attrs stand in omega arith;
}

sequence_small : (n : ℕ) → n < 64 → sequence n < 2 ^ 16
unfolding sequence
sequence_small n lt = grind arith

head_fits : (n links flags next_id : ℕ) → n < 64 → links < 2 ^ 16 → flags < 2 ^ 16 → next_id < 2 ^ 16 → FitsHead (head_of n links flags next_id)
head_fits n links flags next_id lt few small next = record { lsn = omega arith; seq = sequence_small n lt; links = few; flags = small; base = omega arith; base_seq = omega arith; next_id = next; number = omega arith }

pub attrs_few : (v : Layout) (time n : ℕ) → n < 12 → length (system_attrs v time n) ≤ 6
unfolding system_attrs streams
attrs_few v time n lt = let few = streams_few v n lt in omega arith

directory_flags : (b : Bool) → (if b then 3 else 1) < 2 ^ 16
directory_flags true = omega arith
directory_flags false = omega arith

system_stands : (v : Layout) → IsLayout v → (time n : ℕ) → time < 2 ^ 64 → n < 12 → Stand 0 (system_attrs v time n)
unfolding system_attrs streams standard name_attribute
system_stands v fits time n small lt = (standard_fits time, omega arith, (named_fits v fits time n small lt, omega arith, streams_stand v fits n lt))

system_fits : (v : Layout) → IsLayout v → (time n : ℕ) → time < 2 ^ 64 → n < 12 → FitsRecord (system_record v time n)
unfolding system_record
system_fits v fits time n small lt =
    let few = attrs_few v time n lt in
    record_fits _ (system_attrs v time n) (head_fits n 1 _ (length (system_attrs v time n)) (omega arith) (omega arith) (directory_flags (is_directory n)) (omega arith)) (system_stands v fits time n small lt) few

reserved_fits : (time n : ℕ) → n < 64 → FitsRecord (reserved_record time n)
unfolding reserved_record standard has_lawful_value
reserved_fits time n lt =
    record_fits _ (standard time ∷ resident 1 0x80 [] [] ∷ []) (head_fits n 0 1 2 lt (omega arith) (omega arith) (omega arith))
    (standard_fits time, omega arith, (resident_fits 1 0x80 [] [] (omega arith) (omega arith) (omega arith) no_units (omega arith) refl, omega arith, tt)) (omega arith)

spare_fits : (n : ℕ) → n < 64 → FitsRecord (spare_record n)
spare_fits n lt = record_fits _ [] (head_fits n 0 0 0 lt (omega arith) (omega arith) (omega arith)) tt (omega arith)

pub fits_record : (v : Layout) → IsLayout v → (time n : ℕ) → time < 2 ^ 64 → n < 64 → FitsRecord (record_of v time n)
unfolding record_of
fits_record v fits time n small lt =
    elim (cases_lt n 12) [
      | inl system ↦ rw (lt-ltb n 12 system) (system_fits v fits time n small system)
      | inr behind ↦ rw (le-ltb n 12 behind) (
          elim (cases_lt n 16) [
            | inl reserved ↦ rw (lt-ltb n 16 reserved) (reserved_fits time n lt)
            | inr spare ↦ rw (le-ltb n 16 spare) (spare_fits n lt)
          ])
    ]
