-- The written spelling of a record is in the table, and is the only one.
use Rattle.std.proofs.Common.{◌≡◌, ℕ, zero, suc, ◌+◌, ◌-◌, ◌*◌, ◌^◌, ◌<◌, ◌≤◌, List, [], ◌∷◌, ◌++◌, length, take, drop, Some, Ok, refl, sym, ap, ◌∙◌, subst, arith, rules, ℤ}
use Rattle.std.specs.Prelude.{All, FitsSigned}
use Rattle.std.specs.Int.{w64, cast_signed, cast_unsigned}
use Rattle.std.specs.List.{flat_map}
use Rattle.std.proofs.lemmas.List.FromFn.{map-range_with_len_more}
use Rattle.std.proofs.lemmas.Grind.{flat_map-append}
use Rattle.std.proofs.lemmas.Int.{ints, to_z-of_z, of_z-to_z}
use Rattle.std.proofs.lemmas.List.{append-nil, length-append, length-drop, drop-drop, drop_at, take_at, take-append-drop}
use Rattle.std.proofs.lemmas.List.Elements.{recursion_from_All}
use Rattle.record_model.specs.host_base.declared.file_ref.FileRef.{FileRef}
use Rattle.record_model.specs.host_base.FileRefs.{packed, unpacked}
use Rattle.record_model.specs.disk_model.Numbers.{field, spell}
use Rattle.record_model.specs.disk_model.Bytes.{AreBytes, part, zeros, up8}
use Rattle.record_model.proofs.disk_model.Fields.{field-lt, spell-field}
use Rattle.record_model.specs.Attributes.{units_at, unit_bytes, filled}
use Rattle.record_model.proofs.UnitBytes.{field_here, units_here, length-unit_bytes, length-filled}
use Rattle.record_model.proofs.RecordSpelling.{unpacked-packed}
use Rattle.file_tree.specs.declared.journal.Usn.{Usn}
use Rattle.journal_model.specs.UsnRecords.{known_version, page_rest, usn_at, IsUsn, BeginsRecord, usn_size, head_spelling, usn_spelling, FitsUsn}
use Rattle.journal_model.proofs.UsnRead.{table_read}

-- ---- signed times

pub time_back : (z : ℤ) → FitsSigned w64 z → cast_signed w64 (cast_unsigned w64 z) ≡ z
time_back z fits = to_z-of_z w64 z fits

pub time_low : (z : ℤ) → FitsSigned w64 z → cast_unsigned w64 z < 256 ^ 8
time_low z fits = grind (arith, ints)

time_fits : (n : ℕ) → n < 2 ^ 64 → FitsSigned w64 (cast_signed w64 n)
time_fits n small = search rules

pub time_again : (n : ℕ) → n < 256 ^ 8 → cast_unsigned w64 (cast_signed w64 n) ≡ n
time_again n small = of_z-to_z w64 n small

-- ---- the spelling

module _ (entry : Usn) where
  behind_head : drop 0x3C (usn_spelling entry) ≡ filled 0x3C (unit_bytes entry.name)
  unfolding usn_spelling head_spelling spell
  behind_head = refl

  long : 0x3C ≤ length (usn_spelling entry)
  unfolding usn_spelling head_spelling spell
  long = omega arith

  -- how many bytes a record has
  pub length-usn_spelling : length (usn_spelling entry) ≡ usn_size entry
  length-usn_spelling =
      let rest : length (drop 0x3C (usn_spelling entry)) ≡ up8 (0x3C + length (unit_bytes entry.name)) - 0x3C = ap length behind_head ∙ length-filled 0x3C (unit_bytes entry.name) in
      omega (arith, long, rest, length-drop 0x3C (usn_spelling entry), length-unit_bytes entry.name)

module _ (entry : Usn) (fits : FitsUsn entry) where
  abbrev s : List ℕ
  s = usn_spelling entry

  short : length entry.name ≤ 255
  short = fits.name.within

  whole : length s ≡ usn_size entry
  whole = length-usn_spelling entry

  length_is : field 0x00 4 s ≡ usn_size entry
  unfolding usn_spelling head_spelling spell
  length_is = field_here 0x00 4 (usn_size entry) s (drop 0x04 s) refl (omega (arith, short))

  major_is : field 0x04 2 s ≡ known_version
  unfolding usn_spelling head_spelling spell
  major_is = field_here 0x04 2 known_version s (drop 0x06 s) refl (omega arith)

  minor_is : field 0x06 2 s ≡ 0
  unfolding usn_spelling head_spelling spell
  minor_is = field_here 0x06 2 0 s (drop 0x08 s) refl (omega arith)

  child_is : field 0x08 8 s ≡ packed entry.child
  unfolding usn_spelling head_spelling spell
  child_is = field_here 0x08 8 (packed entry.child) s (drop 0x10 s) refl (omega (arith, fits.child_number, fits.child_seq))

  parent_is : field 0x10 8 s ≡ packed entry.parent
  unfolding usn_spelling head_spelling spell
  parent_is = field_here 0x10 8 (packed entry.parent) s (drop 0x18 s) refl (omega (arith, fits.parent_number, fits.parent_seq))

  usn_is : field 0x18 8 s ≡ entry.usn
  unfolding usn_spelling head_spelling spell
  usn_is = field_here 0x18 8 entry.usn s (drop 0x20 s) refl fits.usn

  time_is : field 0x20 8 s ≡ cast_unsigned w64 entry.time
  unfolding usn_spelling head_spelling spell
  time_is = field_here 0x20 8 (cast_unsigned w64 entry.time) s (drop 0x28 s) refl (time_low entry.time fits.time)

  reason_is : field 0x28 4 s ≡ entry.reason
  unfolding usn_spelling head_spelling spell
  reason_is = field_here 0x28 4 entry.reason s (drop 0x2C s) refl fits.reason

  source_is : field 0x2C 4 s ≡ entry.source
  unfolding usn_spelling head_spelling spell
  source_is = field_here 0x2C 4 entry.source s (drop 0x30 s) refl fits.source

  security_is : field 0x30 4 s ≡ entry.security
  unfolding usn_spelling head_spelling spell
  security_is = field_here 0x30 4 entry.security s (drop 0x34 s) refl fits.security

  flags_is : field 0x34 4 s ≡ entry.flags
  unfolding usn_spelling head_spelling spell
  flags_is = field_here 0x34 4 entry.flags s (drop 0x38 s) refl fits.flags

  name_bytes_is : field 0x38 2 s ≡ 2 * length entry.name
  unfolding usn_spelling head_spelling spell
  name_bytes_is = field_here 0x38 2 (2 * length entry.name) s (drop 0x3A s) refl (omega (arith, short))

  name_place_is : field 0x3A 2 s ≡ 0x3C
  unfolding usn_spelling head_spelling spell
  name_place_is = field_here 0x3A 2 0x3C s (drop 0x3C s) refl (omega arith)

  abbrev left : ℕ
  left = up8 (0x3C + length (unit_bytes entry.name)) - (0x3C + length (unit_bytes entry.name))

  name_behind : drop 0x3C s ≡ unit_bytes entry.name ++ zeros left
  unfolding filled
  name_behind = behind_head entry

  units_low : All (λ (unit : ℕ). unit < 2 ^ 16) entry.name
  units_low = λ k d lt. (fits.name.lawful k d lt).0

  name_is : units_at 0x3C (length entry.name) s ≡ entry.name
  name_is = units_here 0x3C entry.name s (zeros left) name_behind (recursion_from_All (λ (unit : ℕ). unit < 2 ^ 16) entry.name units_low)

  behind_is : drop (0x3C + 2 * length entry.name) s ≡ zeros (length s - (0x3C + 2 * length entry.name))
  behind_is =
      let size = length-unit_bytes entry.name in
      let count : left ≡ length s - (0x3C + 2 * length entry.name) = omega (arith, size, whole) in
      sym (drop-drop (2 * length entry.name) 0x3C s) ∙ ap (drop (2 * length entry.name)) name_behind ∙ drop_at (unit_bytes entry.name) (zeros left) (2 * length entry.name) size ∙ ap zeros count

  pub spelled_table : IsUsn s entry
  spelled_table = record {
    own_length = length_is ∙ sym whole;
    major = major_is;
    minor = minor_is;
    child = ap unpacked child_is ∙ unpacked-packed entry.child fits.child_number;
    parent = ap unpacked parent_is ∙ unpacked-packed entry.parent fits.parent_number;
    usn = usn_is;
    time = ap (λ (n : ℕ). cast_signed w64 n) time_is ∙ time_back entry.time fits.time;
    reason = reason_is;
    source = source_is;
    security = security_is;
    flags = flags_is;
    name_bytes = name_bytes_is;
    name_place = name_place_is;
    name = name_is;
    lawful = fits.name;
    size = whole;
    behind = behind_is;
  }

  -- bytes that begin with it are read
  pub spelled_begins : (bytes rest : List ℕ) → bytes ≡ s ++ rest → BeginsRecord bytes entry.usn (Some entry) (length s)
  spelled_begins bytes rest e =
      let front : take (length s) bytes ≡ s = ap (take (length s)) e ∙ take_at s rest (length s) refl in
      record { inside = omega (arith, ap length e, length-append s rest); own = (subst (λ (x : List ℕ). IsUsn x entry) (sym front) spelled_table, refl) }

  pub spelled_read : (page rest : List ℕ) → page_rest page entry.usn ≡ s ++ rest → usn_at page entry.usn ≡ Ok (Some entry, length s)
  unfolding usn_at
  spelled_read page rest e = table_read (page_rest page entry.usn) entry.usn (Some entry) (length s) (spelled_begins (page_rest page entry.usn) rest e)

-- ---- what the table says fits

module _ (s : List ℕ) (entry : Usn) (each : AreBytes s) (t : IsUsn s entry) where
  low : (at n : ℕ) (x : ℕ) → field at n s ≡ x → x < 256 ^ n
  low at n x e = subst (λ (y : ℕ). y < 256 ^ n) e (field-lt at n s each)

  abbrev parts_fit : FileRef → Type 0
  parts_fit f = (f.number < 2 ^ 48) × (f.seq < 2 ^ 16)

  reference_fits : (at : ℕ) (f : FileRef) → unpacked (field at 8 s) ≡ f → parts_fit f
  reference_fits at f e =
      let small : field at 8 s < 256 ^ 8 = field-lt at 8 s each in
      subst parts_fit e (omega arith, omega arith)

  pub table_fits : FitsUsn entry
  table_fits =
      let child = reference_fits 0x08 entry.child t.child in
      let parent = reference_fits 0x10 entry.parent t.parent in
      record {
        usn = low 0x18 8 entry.usn t.usn;
        child_number = child.0;
        child_seq = child.1;
        parent_number = parent.0;
        parent_seq = parent.1;
        reason = low 0x28 4 entry.reason t.reason;
        flags = low 0x34 4 entry.flags t.flags;
        time = subst (λ (z : ℤ). FitsSigned w64 z) t.time (time_fits (field 0x20 8 s) (field-lt 0x20 8 s each));
        source = low 0x2C 4 entry.source t.source;
        security = low 0x30 4 entry.security t.security;
        name = t.lawful;
      }

-- ---- the only spelling

-- a number of so many bytes
record Cell : Type 0 where
  size : ℕ
  value : ℕ

abbrev cell : ℕ → ℕ → Cell
cell size value = record { size = size; value = value }

abbrev cell_bytes : List Cell → List ℕ
cell_bytes [] = []
cell_bytes (c ∷ cells) = spell c.size c.value ++ cell_bytes cells

abbrev total : List Cell → ℕ
total [] = 0
total (c ∷ cells) = c.size + total cells

-- they stand one behind the other from a place on
abbrev Stand : ℕ → List Cell → List ℕ → Type 0
Stand at [] s = Unit {0}
Stand at (c ∷ cells) s = (field at c.size s ≡ c.value) × Stand (at + c.size) cells s

take_none : (n : ℕ) (xs : List ℕ) → xs ≡ [] → take n xs ≡ []
take_none zero xs e = refl
take_none (suc n) xs e = ap (take (suc n)) e

take_two : (m n : ℕ) (xs : List ℕ) → take (m + n) xs ≡ take m xs ++ take n (drop m xs)
take_two zero n xs = let e : zero + n ≡ n = omega arith in ap (λ (k : ℕ). take k xs) e
take_two (suc m) n [] = take_none (suc m + n) [] refl ∙ sym (take_none n [] refl)
take_two (suc m) n (x ∷ xs) = let e : suc m + n ≡ suc (m + n) = omega arith in ap (λ (k : ℕ). take k (x ∷ xs)) e ∙ ap (λ (l : List ℕ). x ∷ l) (take_two m n xs)

cells_spell : (cells : List Cell) (at : ℕ) (s : List ℕ) → AreBytes s → at + total cells ≤ length s → Stand at cells s → part at (total cells) s ≡ cell_bytes cells
cells_spell [] at s each le st = refl
cells_spell (c ∷ cells) at s each le st =
    let here : part at c.size s ≡ spell c.size c.value = sym (spell-field at c.size s (omega arith) each) ∙ ap (spell c.size) st.0 in
    let next : drop c.size (drop at s) ≡ drop (at + c.size) s = drop-drop c.size at s in
    take_two c.size (total cells) (drop at s) ∙ ap (λ (l : List ℕ). l ++ take (total cells) (drop c.size (drop at s))) here
    ∙ ap (λ (l : List ℕ). spell c.size c.value ++ take (total cells) l) next
    ∙ ap (λ (l : List ℕ). spell c.size c.value ++ l) (cells_spell cells (at + c.size) s each (omega arith) st.1)

-- units that are read are spelled by their bytes
units_more : (at count : ℕ) (s : List ℕ) → units_at at (count + 1) s ≡ units_at at count s ++ field (at + 2 * count) 2 s ∷ []
unfolding units_at
units_more at count s = map-range_with_len_more (λ i. field (at + 2 * i) 2 s) 0 count count (omega arith)

unit_bytes-more : (units : List ℕ) (unit : ℕ) → unit_bytes (units ++ unit ∷ []) ≡ unit_bytes units ++ spell 2 unit
unfolding unit_bytes
unit_bytes-more units unit = flat_map-append (spell 2) units (unit ∷ []) ∙ ap (λ (l : List ℕ). flat_map (spell 2) units ++ l) (append-nil (spell 2 unit))

no_units : (at : ℕ) (s : List ℕ) → unit_bytes (units_at at 0 s) ≡ []
unfolding unit_bytes units_at
no_units at s = refl

units_spelled : (count at : ℕ) (s : List ℕ) → AreBytes s → at + 2 * count ≤ length s → unit_bytes (units_at at count s) ≡ part at (2 * count) s
units_spelled zero at s each le = no_units at s
units_spelled (suc count) at s each le =
    let next : suc count ≡ count + 1 = omega arith in
    let wide : 2 * count + 2 ≡ 2 * suc count = omega arith in
    let last : spell 2 (field (at + 2 * count) 2 s) ≡ part (at + 2 * count) 2 s = spell-field (at + 2 * count) 2 s (omega arith) each in
    ap (λ (n : ℕ). unit_bytes (units_at at n s)) next
    ∙ ap unit_bytes (units_more at count s)
    ∙ unit_bytes-more (units_at at count s) (field (at + 2 * count) 2 s)
    ∙ ap (λ (l : List ℕ). l ++ spell 2 (field (at + 2 * count) 2 s)) (units_spelled count at s each (omega arith))
    ∙ ap (λ (l : List ℕ). part at (2 * count) s ++ l) last
    ∙ ap (λ (l : List ℕ). part at (2 * count) s ++ take 2 l) (sym (drop-drop (2 * count) at s))
    ∙ sym (take_two (2 * count) 2 (drop at s))
    ∙ ap (λ (n : ℕ). take n (drop at s)) wide

head_cells : Usn → List Cell
head_cells entry =
    cell 4 (usn_size entry) ∷ cell 2 known_version ∷ cell 2 0 ∷ cell 8 (packed entry.child) ∷ cell 8 (packed entry.parent) ∷ cell 8 entry.usn ∷ cell 8 (cast_unsigned w64 entry.time)
    ∷ cell 4 entry.reason ∷ cell 4 entry.source ∷ cell 4 entry.security ∷ cell 4 entry.flags ∷ cell 2 (2 * length entry.name) ∷ cell 2 0x3C ∷ []

head_is : (entry : Usn) → cell_bytes (head_cells entry) ≡ head_spelling entry
unfolding head_cells head_spelling spell
head_is entry = refl

module _ (s : List ℕ) (entry : Usn) (each : AreBytes s) (t : IsUsn s entry) where
  reference_read : (at : ℕ) (f : FileRef) → unpacked (field at 8 s) ≡ f → field at 8 s ≡ packed f
  reference_read at f e = omega (arith, sym (ap (λ (g : FileRef). packed g) e))

  time_read : field 0x20 8 s ≡ cast_unsigned w64 entry.time
  time_read = sym (time_again (field 0x20 8 s) (field-lt 0x20 8 s each)) ∙ ap (λ (z : ℤ). cast_unsigned w64 z) t.time

  long_enough : 0x3C + 2 * length entry.name ≤ length s
  long_enough = omega (arith, t.size)

  stand : Stand 0 (head_cells entry) s
  unfolding head_cells
  stand = (
    t.own_length ∙ t.size,
    (
      t.major,
      (
        t.minor,
        (
          reference_read 0x08 entry.child t.child,
          (
            reference_read 0x10 entry.parent t.parent,
            (
              t.usn,
              (
                time_read,
                (t.reason, (t.source, (t.security, (t.flags, (t.name_bytes, (t.name_place, tt)))))),
              ),
            ),
          ),
        ),
      ),
    ),
  )

  head_read : take 0x3C s ≡ head_spelling entry
  unfolding head_cells
  head_read = cells_spell (head_cells entry) 0 s each (omega (arith, long_enough)) stand ∙ head_is entry

  name_read : drop 0x3C s ≡ filled 0x3C (unit_bytes entry.name)
  unfolding filled
  name_read =
      let n = length entry.name in
      let size = length-unit_bytes entry.name in
      let front : take (2 * n) (drop 0x3C s) ≡ unit_bytes entry.name = sym (units_spelled n 0x3C s each long_enough) ∙ ap unit_bytes t.name in
      let rest : drop (2 * n) (drop 0x3C s) ≡ zeros (length s - (0x3C + 2 * n)) = drop-drop (2 * n) 0x3C s ∙ t.behind in
      let count : length s - (0x3C + 2 * n) ≡ up8 (0x3C + length (unit_bytes entry.name)) - (0x3C + length (unit_bytes entry.name)) = omega (arith, size, t.size) in
      sym (take-append-drop (2 * n) (drop 0x3C s)) ∙ ap (λ (l : List ℕ). l ++ drop (2 * n) (drop 0x3C s)) front ∙ ap (λ (l : List ℕ). unit_bytes entry.name ++ l) rest ∙ ap (λ (k : ℕ). unit_bytes entry.name ++ zeros k) count

  pub only_spelling : s ≡ usn_spelling entry
  unfolding usn_spelling
  only_spelling = sym (take-append-drop 0x3C s) ∙ ap (λ (l : List ℕ). l ++ drop 0x3C s) head_read ∙ ap (λ (l : List ℕ). head_spelling entry ++ l) name_read
