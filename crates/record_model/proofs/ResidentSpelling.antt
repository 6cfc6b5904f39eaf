-- The written spelling of a resident attribute is in the table.
use Rattle.std.proofs.Common.{◌≡◌, ℕ, ◌+◌, ◌-◌, ◌*◌, ◌%◌, ◌^◌, ◌<◌, ◌≤◌, List, ◌++◌, length, take, drop, refl, sym, ap, ◌∙◌, subst, arith}
use Rattle.std.proofs.lemmas.List.{take_at}
use Rattle.std.proofs.lemmas.List.Elements.{recursion_from_All}
use Rattle.disk_model.specs.Numbers.{field, spell}
use Rattle.disk_model.specs.Bytes.{part, zeros, up8}
use Rattle.record_model.specs.declared.attribute.OwnForm.TheVariants.{Resident}
use Rattle.record_model.specs.declared.attribute.Attr.{Attr}
use Rattle.record_model.specs.Attributes.{units_at, unit_bytes, filled, front_spelling, resident_spelling, SpellsResident, SpellsForm, SpellsAttr, FitsResident, FitsAttr}
use Rattle.record_model.proofs.UnitBytes.{field_here, byte_here, body_placed, whole_size, name_placed}

module _ (a : Attr) (value : List ℕ) (indexed : ℕ) where
  resident_placed : drop 0x18 (resident_spelling a value indexed) ≡ filled 0x18 (unit_bytes a.name) ++ filled 0 value
  unfolding resident_spelling front_spelling spell
  resident_placed = refl

  resident_low : 0x18 ≤ length (resident_spelling a value indexed)
  unfolding resident_spelling front_spelling spell
  resident_low = omega arith

  -- how many bytes a resident attribute takes
  pub length-resident_spelling : length (resident_spelling a value indexed) ≡ up8 (up8 (0x18 + 2 * length a.name) + length value)
  length-resident_spelling = whole_size 0x18 a.name value (resident_spelling a value indexed) resident_low refl resident_placed

module _ (a : Attr) (value : List ℕ) (indexed : ℕ) (fits : FitsAttr a) (is : FitsResident value indexed) where
  abbrev s : List ℕ
  s = resident_spelling a value indexed

  abbrev at : ℕ
  at = up8 (0x18 + 2 * length a.name)

  abbrev size : ℕ
  size = up8 (at + length value)

  header : 0x18 ≤ length s
  header = resident_low a value indexed

  placed : drop 0x18 s ≡ filled 0x18 (unit_bytes a.name) ++ filled 0 value
  placed = resident_placed a value indexed

  whole : length s ≡ size
  whole = length-resident_spelling a value indexed

  kind_is : field 0x00 4 s ≡ a.head.kind
  unfolding resident_spelling front_spelling spell
  kind_is = field_here 0x00 4 a.head.kind s (drop 0x04 s) refl fits.kind

  size_is : field 0x04 4 s ≡ size
  unfolding resident_spelling front_spelling spell
  size_is = field_here 0x04 4 size s (drop 0x08 s) refl (omega (arith, fits.name_short, is.value_short))

  resident_is : field 0x08 1 s ≡ 0
  unfolding resident_spelling front_spelling spell
  resident_is = byte_here 0x08 0 s (drop 0x09 s) refl

  name_length_is : field 0x09 1 s ≡ length a.name
  unfolding resident_spelling front_spelling spell
  name_length_is = byte_here 0x09 (length a.name) s (drop 0x0A s) refl

  name_at_is : field 0x0A 2 s ≡ 0x18
  unfolding resident_spelling front_spelling spell
  name_at_is = field_here 0x0A 2 0x18 s (drop 0x0C s) refl (omega arith)

  flags_is : field 0x0C 2 s ≡ a.head.flags
  unfolding resident_spelling front_spelling spell
  flags_is = field_here 0x0C 2 a.head.flags s (drop 0x0E s) refl fits.flags

  id_is : field 0x0E 2 s ≡ a.head.id
  unfolding resident_spelling front_spelling spell
  id_is = field_here 0x0E 2 a.head.id s (drop 0x10 s) refl fits.id

  value_length_is : field 0x10 4 s ≡ length value
  unfolding resident_spelling front_spelling spell
  value_length_is = field_here 0x10 4 (length value) s (drop 0x14 s) refl (omega (arith, is.value_short))

  value_at_is : field 0x14 2 s ≡ at
  unfolding resident_spelling front_spelling spell
  value_at_is = field_here 0x14 2 at s (drop 0x16 s) refl (omega (arith, fits.name_short))

  indexed_is : field 0x16 1 s ≡ indexed
  unfolding resident_spelling front_spelling spell
  indexed_is = byte_here 0x16 indexed s (drop 0x17 s) refl

  value_is : part (field 0x14 2 s) (field 0x10 4 s) s ≡ value
  unfolding filled
  value_is =
      ap (λ (n : ℕ). part n (field 0x10 4 s) s) value_at_is
      ∙ ap (λ (n : ℕ). part at n s) value_length_is
      ∙ ap (take (length value)) (body_placed 0x18 a.name value s header refl placed)
      ∙ take_at value (zeros (up8 (0 + length value) - (0 + length value))) (length value) refl

  resident_table : SpellsResident s value indexed
  resident_table = record {
    header = header;
    resident = resident_is;
    value_inside = omega (arith, value_at_is, value_length_is, whole);
    value_bytes = value_is;
    indexed_byte = indexed_is;
  }

  pub resident_spells : a.form ≡ Resident value indexed → SpellsAttr s a
  resident_spells form = record {
    kind = kind_is;
    own_length = size_is ∙ sym whole;
    eights = ap (λ (n : ℕ). n % 8) whole ∙ omega arith;
    name_length = name_length_is;
    name_inside = λ some. omega (arith, name_at_is, whole);
    name = ap (λ (n : ℕ). units_at n (length a.name) s) name_at_is ∙ name_placed 0x18 a.name value s header refl placed (recursion_from_All (λ (unit : ℕ). unit < 2 ^ 16) a.name fits.units);
    flags = flags_is;
    id = id_is;
    form = subst (SpellsForm s) (sym form) resident_table;
  }
