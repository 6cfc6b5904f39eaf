-- The written spelling of an attribute with mapping pairs is in the table.
use Rattle.std.proofs.Common.{◌≡◌, ℕ, ◌+◌, ◌*◌, ◌%◌, ◌^◌, ◌<◌, ◌≤◌, Bool, eqb, ◌&&◌, List, ◌++◌, length, drop, Option, Some, None, refl, sym, ap, ◌∙◌, subst, arith}
use Rattle.std.proofs.lemmas.List.{append_assoc, length-append, length-drop, drop-drop, drop_at}
use Rattle.std.proofs.lemmas.List.Elements.{recursion_from_All}
use Rattle.disk_model.specs.Numbers.{field, spell}
use Rattle.disk_model.specs.Bytes.{zeros, up8}
use Rattle.disk_model.proofs.Fields.{length-spell}
use Rattle.record_model.specs.declared.attribute.Sizes.{Sizes}
use Rattle.record_model.specs.declared.attribute.OwnForm.TheVariants.{Mapped}
use Rattle.record_model.specs.declared.attribute.Attr.{Attr}
use Rattle.record_model.specs.Attributes.{units_at, unit_bytes, filled, is_compressed_or_sparse, has_held, front_spelling, sizes_spelling, mapped_spelling, held_bytes, SpellsHeld, SpellsMapped, SpellsForm, SpellsAttr, FitsHeld, FitsMapped, FitsAttr}
use Rattle.record_model.proofs.UnitBytes.{field_here, byte_here, filled_eights, body_placed, whole_size, name_placed}

length-held : (held : Option ℕ) → length (held_bytes held) ≤ 8
length-held None = omega arith
length-held (Some held) = omega (arith, length-spell 8 held)

held_eights : (held : Option ℕ) → (0x40 + length (held_bytes held)) % 8 ≡ 0
held_eights None = omega arith
held_eights (Some held) = omega (arith, length-spell 8 held)

held_by : ℕ → ℕ → Bool
held_by flags first = is_compressed_or_sparse flags && eqb first 0

held_same : (s : List ℕ) (flags first : ℕ) → field 0x0C 2 s ≡ flags → field 0x10 8 s ≡ first → has_held s ≡ held_by flags first
unfolding held_by
held_same s flags first e f = ap (λ (x : ℕ). held_by x (field 0x10 8 s)) e ∙ ap (held_by flags) f

held_table : (held : Option ℕ) (s rest : List ℕ) (flags first : ℕ) → FitsHeld flags first held → field 0x0C 2 s ≡ flags → field 0x10 8 s ≡ first → drop 0x40 s ≡ held_bytes held ++ rest → 0x40 + length (held_bytes held) ≤ length s → SpellsHeld s held
unfolding held_by
held_table (Some held) s rest flags first fits e f placed long = (held_same s flags first e f ∙ fits.1, omega (arith, length-spell 8 held), field_here 0x40 8 held s rest placed fits.0)
held_table None s rest flags first fits e f placed long = held_same s flags first e f ∙ fits

module _ (a : Attr) (sizes : Sizes) (pairs : List ℕ) where
  abbrev bytes : List ℕ
  bytes = mapped_spelling a sizes pairs

  abbrev pub mapped_header : ℕ
  mapped_header = 0x40 + length (held_bytes sizes.held)

  mapped_behind : drop 0x40 bytes ≡ held_bytes sizes.held ++ (filled mapped_header (unit_bytes a.name) ++ filled 0 pairs)
  unfolding mapped_spelling front_spelling sizes_spelling spell zeros
  mapped_behind = append_assoc (held_bytes sizes.held) (filled mapped_header (unit_bytes a.name)) (filled 0 pairs)

  mapped_low : 0x40 ≤ length bytes
  unfolding mapped_spelling front_spelling sizes_spelling spell zeros
  mapped_low = omega arith

  mapped_long : mapped_header ≤ length bytes
  mapped_long =
      let behind = filled mapped_header (unit_bytes a.name) ++ filled 0 pairs in
      let rest : length (drop 0x40 bytes) ≡ length (held_bytes sizes.held) + length behind = ap length mapped_behind ∙ length-append (held_bytes sizes.held) behind in
      omega (arith, mapped_low, length-drop 0x40 bytes)

  mapped_placed : drop mapped_header bytes ≡ filled mapped_header (unit_bytes a.name) ++ filled 0 pairs
  mapped_placed =
      let held = held_bytes sizes.held in
      sym (drop-drop (length held) 0x40 bytes) ∙ ap (drop (length held)) mapped_behind ∙ drop_at held (filled mapped_header (unit_bytes a.name) ++ filled 0 pairs) (length held) refl

  -- how many bytes an attribute with mapping pairs takes
  pub length-mapped_spelling : length (mapped_spelling a sizes pairs) ≡ up8 (up8 (0x40 + length (held_bytes sizes.held) + 2 * length a.name) + length pairs)
  length-mapped_spelling = whole_size mapped_header a.name pairs bytes mapped_long (held_eights sizes.held) mapped_placed

module _ (a : Attr) (sizes : Sizes) (pairs : List ℕ) (fits : FitsAttr a) (is : FitsMapped a.head.flags sizes pairs) where
  abbrev s : List ℕ
  s = mapped_spelling a sizes pairs

  abbrev header : ℕ
  header = 0x40 + length (held_bytes sizes.held)

  abbrev at : ℕ
  at = up8 (header + 2 * length a.name)

  abbrev size : ℕ
  size = up8 (at + length pairs)

  behind : drop 0x40 s ≡ held_bytes sizes.held ++ (filled header (unit_bytes a.name) ++ filled 0 pairs)
  behind = mapped_behind a sizes pairs

  low : 0x40 ≤ length s
  low = mapped_low a sizes pairs

  long : header ≤ length s
  long = mapped_long a sizes pairs

  placed : drop header s ≡ filled header (unit_bytes a.name) ++ filled 0 pairs
  placed = mapped_placed a sizes pairs

  whole : length s ≡ size
  whole = length-mapped_spelling a sizes pairs

  kind_is : field 0x00 4 s ≡ a.head.kind
  unfolding mapped_spelling front_spelling sizes_spelling spell zeros
  kind_is = field_here 0x00 4 a.head.kind s (drop 0x04 s) refl fits.kind

  size_is : field 0x04 4 s ≡ size
  unfolding mapped_spelling front_spelling sizes_spelling spell zeros
  size_is = field_here 0x04 4 size s (drop 0x08 s) refl (omega (arith, fits.name_short, is.pairs_short, length-held sizes.held))

  byte_is : field 0x08 1 s ≡ 1
  unfolding mapped_spelling front_spelling sizes_spelling spell zeros
  byte_is = byte_here 0x08 1 s (drop 0x09 s) refl

  name_length_is : field 0x09 1 s ≡ length a.name
  unfolding mapped_spelling front_spelling sizes_spelling spell zeros
  name_length_is = byte_here 0x09 (length a.name) s (drop 0x0A s) refl

  name_at_is : field 0x0A 2 s ≡ header
  unfolding mapped_spelling front_spelling sizes_spelling spell zeros
  name_at_is = field_here 0x0A 2 header s (drop 0x0C s) refl (omega (arith, length-held sizes.held))

  flags_is : field 0x0C 2 s ≡ a.head.flags
  unfolding mapped_spelling front_spelling sizes_spelling spell zeros
  flags_is = field_here 0x0C 2 a.head.flags s (drop 0x0E s) refl fits.flags

  id_is : field 0x0E 2 s ≡ a.head.id
  unfolding mapped_spelling front_spelling sizes_spelling spell zeros
  id_is = field_here 0x0E 2 a.head.id s (drop 0x10 s) refl fits.id

  first_is : field 0x10 8 s ≡ sizes.first
  unfolding mapped_spelling front_spelling sizes_spelling spell zeros
  first_is = field_here 0x10 8 sizes.first s (drop 0x18 s) refl is.first

  last_is : field 0x18 8 s ≡ sizes.last
  unfolding mapped_spelling front_spelling sizes_spelling spell zeros
  last_is = field_here 0x18 8 sizes.last s (drop 0x20 s) refl is.last

  pairs_at_is : field 0x20 2 s ≡ at
  unfolding mapped_spelling front_spelling sizes_spelling spell zeros
  pairs_at_is = field_here 0x20 2 at s (drop 0x22 s) refl (omega (arith, fits.name_short, length-held sizes.held))

  unit_is : field 0x22 2 s ≡ sizes.unit
  unfolding mapped_spelling front_spelling sizes_spelling spell zeros
  unit_is = field_here 0x22 2 sizes.unit s (drop 0x24 s) refl is.unit

  allocated_is : field 0x28 8 s ≡ sizes.allocated
  unfolding mapped_spelling front_spelling sizes_spelling spell zeros
  allocated_is = field_here 0x28 8 sizes.allocated s (drop 0x30 s) refl is.allocated

  real_is : field 0x30 8 s ≡ sizes.real
  unfolding mapped_spelling front_spelling sizes_spelling spell zeros
  real_is = field_here 0x30 8 sizes.real s (drop 0x38 s) refl is.real

  initialised_is : field 0x38 8 s ≡ sizes.initialised
  unfolding mapped_spelling front_spelling sizes_spelling spell zeros
  initialised_is = field_here 0x38 8 sizes.initialised s (drop 0x40 s) refl is.initialised

  pairs_are : drop (field 0x20 2 s) s ≡ pairs
  pairs_are = ap (λ (n : ℕ). drop n s) pairs_at_is ∙ body_placed header a.name pairs s long (held_eights sizes.held) placed ∙ filled_eights pairs is.pairs_eights

  mapped_table : SpellsMapped s sizes pairs
  mapped_table = record {
    header = low;
    mapped = λ none. omega (arith, byte_is);
    first = first_is;
    last = last_is;
    unit = unit_is;
    allocated = allocated_is;
    real = real_is;
    initialised = initialised_is;
    held = held_table sizes.held s (filled header (unit_bytes a.name) ++ filled 0 pairs) a.head.flags sizes.first is.held flags_is first_is behind long;
    pairs_inside = omega (arith, pairs_at_is, whole);
    pairs_bytes = pairs_are;
  }

  pub mapped_spells : a.form ≡ Mapped sizes pairs → SpellsAttr s a
  mapped_spells form = record {
    kind = kind_is;
    own_length = size_is ∙ sym whole;
    eights = ap (λ (n : ℕ). n % 8) whole ∙ omega arith;
    name_length = name_length_is;
    name_inside = λ some. omega (arith, name_at_is, whole);
    name = ap (λ (n : ℕ). units_at n (length a.name) s) name_at_is ∙ name_placed header a.name pairs s long (held_eights sizes.held) placed (recursion_from_All (λ (unit : ℕ). unit < 2 ^ 16) a.name fits.units);
    flags = flags_is;
    id = id_is;
    form = subst (SpellsForm s) (sym form) mapped_table;
  }
