-- Attributes of a file record: reading one, its table, and the one spelling that is written.
use Rattle.std.specs.Prelude.{◌≡◌, ◌≢◌, ℕ, ◌+◌, ◌-◌, ◌*◌, ◌/◌, ◌%◌, ◌<◌, ◌≤◌, ◌^◌, List, [], ◌∷◌, ◌++◌, length, map, drop, not, ◌&&◌, ◌||◌, nat_le, ◌==◌, if◌then◌else◌, Option, Some, None, Bool, true, false, All}
use Rattle.std.specs.List.{range_with_len, flat_map}
use Rattle.disk_model.specs.Numbers.{field, spell}
use Rattle.disk_model.specs.Bytes.{part, zeros, up8}
use Rattle.record_model.specs.declared.attribute.Head.{Head}
use Rattle.record_model.specs.declared.attribute.Sizes.{Sizes}
use Rattle.record_model.specs.declared.attribute.OwnForm.{OwnForm}
use Rattle.record_model.specs.declared.attribute.OwnForm.TheVariants.{Resident, Mapped}
use Rattle.record_model.specs.declared.attribute.Attr.{Attr}

-- count UTF-16 units, low byte first, from this place on
unfoldable pub units_at : ℕ → ℕ → List ℕ → List ℕ
units_at at count bytes = map (λ i. field (at + 2 * i) 2 bytes) (range_with_len 0 count)

-- ---- the reader, over an attribute's own bytes

-- the byte at 8 is not zero: the value stands in clusters
abbrev pub is_mapped : List ℕ → Bool
is_mapped a = not (field 0x08 1 a == 0)

-- the flags say compressed or sparse
abbrev pub is_compressed_or_sparse : ℕ → Bool
is_compressed_or_sparse flags = flags % 2 == 1 || flags / 0x8000 % 2 == 1

-- the field at 40 is there: compressed or sparse, and the first piece
abbrev pub has_held : List ℕ → Bool
has_held a = is_compressed_or_sparse (field 0x0C 2 a) && field 0x10 8 a == 0

-- the bytes of the header
unfoldable pub header_length : List ℕ → ℕ
header_length a = if is_mapped a then (if has_held a then 0x48 else 0x40) else 0x18

-- the length at 4 isn't below the header, is a multiple of 8, and stays inside these bytes
unfoldable pub has_length : List ℕ → Bool
has_length bytes = nat_le (header_length bytes) (field 0x04 4 bytes) && field 0x04 4 bytes % 8 == 0 && nat_le (field 0x04 4 bytes) (length bytes)

-- the name lies inside the attribute; a name of no units has no place
unfoldable pub is_name_inside : List ℕ → Bool
is_name_inside a = field 0x09 1 a == 0 || nat_le (field 0x0A 2 a + 2 * field 0x09 1 a) (length a)

-- the value, or the mapping pairs, lie inside the attribute
unfoldable pub is_value_inside : List ℕ → Bool
is_value_inside a = if is_mapped a then nat_le (field 0x20 2 a) (length a) else nat_le (field 0x14 2 a + field 0x10 4 a) (length a)

abbrev pub is_inside : List ℕ → Bool
is_inside a = is_name_inside a && is_value_inside a

unfoldable pub head_of : List ℕ → Head
head_of a = record { kind = field 0x00 4 a; flags = field 0x0C 2 a; id = field 0x0E 2 a }

unfoldable pub held_of : List ℕ → Option ℕ
held_of a = if has_held a then Some (field 0x40 8 a) else None

unfoldable pub sizes_of : List ℕ → Sizes
sizes_of a = record { first = field 0x10 8 a; last = field 0x18 8 a; unit = field 0x22 2 a; allocated = field 0x28 8 a; real = field 0x30 8 a; initialised = field 0x38 8 a; held = held_of a }

-- the name in units; one of no units wherever its offset points
unfoldable pub name_units : List ℕ → List ℕ
name_units a = units_at (field 0x0A 2 a) (field 0x09 1 a) a

unfoldable pub form_of : List ℕ → OwnForm
form_of a = if is_mapped a then Mapped (sizes_of a) (drop (field 0x20 2 a) a) else Resident (part (field 0x14 2 a) (field 0x10 4 a) a) (field 0x16 1 a)

-- the attribute that its own bytes stand for
unfoldable pub attr_of : List ℕ → Attr
attr_of a = record { head = head_of a; name = name_units a; form = form_of a }

-- ---- the table: these bytes are one of the attribute's spellings

pub record SpellsResident (s value : List ℕ) (indexed : ℕ) : Type 0 where
  pub header : 0x18 ≤ length s
  pub resident : field 0x08 1 s ≡ 0
  pub value_inside : field 0x14 2 s + field 0x10 4 s ≤ length s
  pub value_bytes : part (field 0x14 2 s) (field 0x10 4 s) s ≡ value
  pub indexed_byte : field 0x16 1 s ≡ indexed

-- the u64 at 40 stands there where the attribute is compressed or sparse and this is its first piece
abbrev pub SpellsHeld : List ℕ → Option ℕ → Type 0
SpellsHeld s (Some held) = (has_held s ≡ true) × (0x48 ≤ length s) × (field 0x40 8 s ≡ held)
SpellsHeld s None = has_held s ≡ false

pub record SpellsMapped (s : List ℕ) (sizes : Sizes) (pairs : List ℕ) : Type 0 where
  pub header : 0x40 ≤ length s
  pub mapped : field 0x08 1 s ≢ 0
  pub first : field 0x10 8 s ≡ sizes.first
  pub last : field 0x18 8 s ≡ sizes.last
  pub unit : field 0x22 2 s ≡ sizes.unit
  pub allocated : field 0x28 8 s ≡ sizes.allocated
  pub real : field 0x30 8 s ≡ sizes.real
  pub initialised : field 0x38 8 s ≡ sizes.initialised
  pub held : SpellsHeld s sizes.held
  pub pairs_inside : field 0x20 2 s ≤ length s
  pub pairs_bytes : drop (field 0x20 2 s) s ≡ pairs

abbrev pub SpellsForm : List ℕ → OwnForm → Type 0
SpellsForm s (Resident value indexed) = SpellsResident s value indexed
SpellsForm s (Mapped sizes pairs) = SpellsMapped s sizes pairs

pub record SpellsAttr (s : List ℕ) (a : Attr) : Type 0 where
  pub kind : field 0x00 4 s ≡ a.head.kind
  pub own_length : field 0x04 4 s ≡ length s
  pub eights : length s % 8 ≡ 0
  pub name_length : field 0x09 1 s ≡ length a.name
  pub name_inside : 0 < length a.name → field 0x0A 2 s + 2 * length a.name ≤ length s
  pub name : units_at (field 0x0A 2 s) (length a.name) s ≡ a.name
  pub flags : field 0x0C 2 s ≡ a.head.flags
  pub id : field 0x0E 2 s ≡ a.head.id
  pub form : SpellsForm s a.form

-- ---- the spelling that is written

-- units, low byte first
unfoldable pub unit_bytes : List ℕ → List ℕ
unit_bytes units = flat_map (spell 2) units

-- bytes that stand behind a header, filled with zeros up to a multiple of 8
unfoldable pub filled : ℕ → List ℕ → List ℕ
filled header bytes = bytes ++ zeros (up8 (header + length bytes) - (header + length bytes))

-- the first 0x10 bytes, which every attribute has
unfoldable pub front_spelling : Attr → ℕ → ℕ → ℕ → List ℕ
front_spelling a own_length mapped header = spell 4 a.head.kind ++ spell 4 own_length ++ mapped ∷ length a.name ∷ spell 2 header ++ spell 2 a.head.flags ++ spell 2 a.head.id

-- where the value or the mapping pairs begin: the least multiple of 8 that isn't below the name's end
abbrev pub value_place : Attr → ℕ → ℕ
value_place a header = up8 (header + 2 * length a.name)

unfoldable pub resident_spelling : Attr → List ℕ → ℕ → List ℕ
resident_spelling a value indexed =
    let at = value_place a 0x18 in
    front_spelling a (up8 (at + length value)) 0 0x18 ++ spell 4 (length value) ++ spell 2 at ++ indexed ∷ 0 ∷ filled 0x18 (unit_bytes a.name) ++ filled 0 value

abbrev pub held_bytes : Option ℕ → List ℕ
held_bytes None = []
held_bytes (Some held) = spell 8 held

unfoldable pub sizes_spelling : Sizes → ℕ → List ℕ
sizes_spelling sizes at = spell 8 sizes.first ++ spell 8 sizes.last ++ spell 2 at ++ spell 2 sizes.unit ++ zeros 4 ++ spell 8 sizes.allocated ++ spell 8 sizes.real ++ spell 8 sizes.initialised ++ held_bytes sizes.held

unfoldable pub mapped_spelling : Attr → Sizes → List ℕ → List ℕ
mapped_spelling a sizes pairs =
    let header = 0x40 + length (held_bytes sizes.held) in
    let at = value_place a header in
    front_spelling a (up8 (at + length pairs)) 1 header ++ sizes_spelling sizes at ++ filled header (unit_bytes a.name) ++ filled 0 pairs

abbrev pub form_spelling : Attr → OwnForm → List ℕ
form_spelling a (Resident value indexed) = resident_spelling a value indexed
form_spelling a (Mapped sizes pairs) = mapped_spelling a sizes pairs

abbrev pub spelling : Attr → List ℕ
spelling a = form_spelling a a.form

-- ---- what has a spelling

-- the held size is there exactly where the table has its field
abbrev pub FitsHeld : ℕ → ℕ → Option ℕ → Type 0
FitsHeld flags first (Some held) = (held < 2 ^ 64) × ((is_compressed_or_sparse flags && first == 0) ≡ true)
FitsHeld flags first None = (is_compressed_or_sparse flags && first == 0) ≡ false

pub record FitsMapped (flags : ℕ) (sizes : Sizes) (pairs : List ℕ) : Type 0 where
  pub first : sizes.first < 2 ^ 64
  pub last : sizes.last < 2 ^ 64
  pub unit : sizes.unit < 2 ^ 16
  pub allocated : sizes.allocated < 2 ^ 64
  pub real : sizes.real < 2 ^ 64
  pub initialised : sizes.initialised < 2 ^ 64
  pub held : FitsHeld flags sizes.first sizes.held
  pub pairs_eights : length pairs % 8 ≡ 0
  pub pairs_short : length pairs < 2 ^ 31

pub record FitsResident (value : List ℕ) (indexed : ℕ) : Type 0 where
  pub value_short : length value < 2 ^ 31
  pub indexed_byte : indexed < 256

abbrev pub FitsForm : ℕ → OwnForm → Type 0
FitsForm flags (Resident value indexed) = FitsResident value indexed
FitsForm flags (Mapped sizes pairs) = FitsMapped flags sizes pairs

-- the attribute has a spelling
pub record FitsAttr (a : Attr) : Type 0 where
  pub kind : a.head.kind < 2 ^ 32
  pub flags : a.head.flags < 2 ^ 16
  pub id : a.head.id < 2 ^ 16
  pub name_short : length a.name < 256
  pub units : All (λ unit. unit < 2 ^ 16) a.name
  pub form : FitsForm a.head.flags a.form
