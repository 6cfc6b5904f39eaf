-- The written spelling of a record is in the table, in 1,024 bytes.
use Rattle.std.proofs.Common.{◌≡◌, ℕ, true, ◌+◌, ◌-◌, ◌/◌, ◌%◌, ◌^◌, ◌<◌, List, [], ◌∷◌, ◌++◌, length, map, take, drop, refl, sym, ap, ◌∙◌, arith}
use Rattle.std.specs.List.{AllByRecursion, concat, flat_map}
use Rattle.std.proofs.lemmas.List.{append_assoc, length-append, take_at}
use Rattle.std.proofs.lemmas.List.Elements.{recursion_from_All}
use Rattle.disk_model.specs.host_base.declared.file_ref.FileRef.{FileRef}
use Rattle.disk_model.specs.host_base.FileRefs.{packed, unpacked}
use Rattle.disk_model.specs.Numbers.{field, spell}
use Rattle.disk_model.specs.Bytes.{part, zeros}
use Rattle.disk_model.specs.Content.{is_signed}
use Rattle.disk_model.specs.Fixups.{array_at, array_count}
use Rattle.disk_model.specs.declared.block.BlockKind.TheVariants.{FileRec}
use Rattle.disk_model.proofs.Fields.{length-spell}
use Rattle.record_model.specs.declared.record.RecHead.{RecHead}
use Rattle.record_model.specs.declared.attribute.Attr.{Attr}
use Rattle.record_model.specs.Attributes.{spelling, FitsAttr}
use Rattle.record_model.specs.Records.{Record, used_bytes, attribute_bytes, rec_head_of, SpellEach, IsFileRecord, spelled_bytes, used_of, head_spelling, record_spelling, FitsRecord}
use Rattle.record_model.proofs.UnitBytes.{field_here, length-zeros}
use Rattle.record_model.proofs.Spellings.{spelling_spells}

-- a file reference that was packed is unpacked again
pub unpacked-packed : (file : FileRef) → file.number < 2 ^ 48 → unpacked (packed file) ≡ file
unpacked-packed file small = ap (λ (n : ℕ). make n (packed file / 2 ^ 48)) number ∙ ap (make file.number) seq
  where
    make : ℕ → ℕ → FileRef
    make number seq = record { number = number; seq = seq }

    number : packed file % 2 ^ 48 ≡ file.number
    number = omega arith

    seq : packed file / 2 ^ 48 ≡ file.seq
    seq = omega arith

spelled_each : (attrs : List Attr) → AllByRecursion FitsAttr attrs → SpellEach (map spelling attrs) attrs
spelled_each [] fits = tt
spelled_each (a ∷ attrs) fits = (spelling_spells a fits.0, spelled_each attrs fits.1)

joined_spellings : (attrs : List Attr) → flat_map spelling attrs ≡ concat (map spelling attrs)
joined_spellings [] = refl
joined_spellings (a ∷ attrs) = ap (λ (x : List ℕ). spelling a ++ x) (joined_spellings attrs)

pub length-spellings : (attrs : List Attr) → length (flat_map spelling attrs) ≡ spelled_bytes attrs
length-spellings [] = refl
length-spellings (a ∷ attrs) = omega (arith, length-append (spelling a) (flat_map spelling attrs), length-spellings attrs)

-- ---- the body

pub spelling_signed : (r : Record) → is_signed FileRec (record_spelling r) ≡ true
unfolding record_spelling head_spelling
spelling_signed r = refl

pub spelling_place : (r : Record) → array_at (record_spelling r) ≡ 0x30
unfolding record_spelling head_spelling spell zeros
spelling_place r = field_here 0x04 2 0x30 (record_spelling r) (drop 0x06 (record_spelling r)) refl (omega arith)

pub spelling_count : (r : Record) → array_count (record_spelling r) ≡ 3
unfolding record_spelling head_spelling spell zeros
spelling_count r = field_here 0x06 2 3 (record_spelling r) (drop 0x08 (record_spelling r)) refl (omega arith)

pub spelling_array : (r : Record) → part 0x30 6 (record_spelling r) ≡ zeros 6
unfolding record_spelling head_spelling spell zeros
spelling_array r = refl

-- ---- the table

module _ (r : Record) (fits : FitsRecord r) where
  abbrev body : List ℕ
  body = record_spelling r

  abbrev used : ℕ
  used = used_of r.attrs

  abbrev attributes : List ℕ
  attributes = flat_map spelling r.attrs ++ spell 4 0xFFFFFFFF ++ zeros 4

  behind : drop 0x38 body ≡ attributes ++ zeros (1024 - used)
  unfolding record_spelling head_spelling spell zeros
  behind = refl

  size : length body ≡ 0x38 + length (attributes ++ zeros (1024 - used))
  unfolding record_spelling head_spelling spell zeros
  size = omega arith

  attributes_size : length attributes ≡ spelled_bytes r.attrs + 8
  attributes_size = omega (arith, length-append (flat_map spelling r.attrs ++ spell 4 0xFFFFFFFF) (zeros 4), length-append (flat_map spelling r.attrs) (spell 4 0xFFFFFFFF), length-spell 4 0xFFFFFFFF, length-zeros 4, length-spellings r.attrs)

  pub length-record_spelling : length body ≡ 1024
  length-record_spelling = omega (arith, size, length-append attributes (zeros (1024 - used)), attributes_size, length-zeros (1024 - used), fits.used)

  lsn_is : field 0x08 8 body ≡ r.head.lsn
  unfolding record_spelling head_spelling spell zeros
  lsn_is = field_here 0x08 8 r.head.lsn body (drop 0x10 body) refl fits.head.lsn

  seq_is : field 0x10 2 body ≡ r.head.seq
  unfolding record_spelling head_spelling spell zeros
  seq_is = field_here 0x10 2 r.head.seq body (drop 0x12 body) refl fits.head.seq

  links_is : field 0x12 2 body ≡ r.head.links
  unfolding record_spelling head_spelling spell zeros
  links_is = field_here 0x12 2 r.head.links body (drop 0x14 body) refl fits.head.links

  first_is : field 0x14 2 body ≡ 0x38
  unfolding record_spelling head_spelling spell zeros
  first_is = field_here 0x14 2 0x38 body (drop 0x16 body) refl (omega arith)

  flags_is : field 0x16 2 body ≡ r.head.flags
  unfolding record_spelling head_spelling spell zeros
  flags_is = field_here 0x16 2 r.head.flags body (drop 0x18 body) refl fits.head.flags

  used_is : field 0x18 4 body ≡ used
  unfolding record_spelling head_spelling spell zeros
  used_is = field_here 0x18 4 used body (drop 0x1C body) refl (omega (arith, fits.used))

  allocated_is : field 0x1C 4 body ≡ 1024
  unfolding record_spelling head_spelling spell zeros
  allocated_is = field_here 0x1C 4 1024 body (drop 0x20 body) refl (omega arith)

  base_is : field 0x20 8 body ≡ packed r.head.base
  unfolding record_spelling head_spelling spell zeros
  base_is = field_here 0x20 8 (packed r.head.base) body (drop 0x28 body) refl (omega (arith, fits.head.base, fits.head.base_seq))

  next_id_is : field 0x28 2 body ≡ r.head.next_id
  unfolding record_spelling head_spelling spell zeros
  next_id_is = field_here 0x28 2 r.head.next_id body (drop 0x2A body) refl fits.head.next_id

  number_is : field 0x2C 4 body ≡ r.head.number
  unfolding record_spelling head_spelling spell zeros
  number_is = field_here 0x2C 4 r.head.number body (drop 0x30 body) refl fits.head.number

  head_is : rec_head_of body ≡ r.head
  unfolding rec_head_of
  head_is =
      ap (λ (x : ℕ). make x (field 0x10 2 body) (field 0x12 2 body) (field 0x16 2 body) (unpacked (field 0x20 8 body)) (field 0x28 2 body) (field 0x2C 4 body)) lsn_is
      ∙ ap (λ (x : ℕ). make r.head.lsn x (field 0x12 2 body) (field 0x16 2 body) (unpacked (field 0x20 8 body)) (field 0x28 2 body) (field 0x2C 4 body)) seq_is
      ∙ ap (λ (x : ℕ). make r.head.lsn r.head.seq x (field 0x16 2 body) (unpacked (field 0x20 8 body)) (field 0x28 2 body) (field 0x2C 4 body)) links_is
      ∙ ap (λ (x : ℕ). make r.head.lsn r.head.seq r.head.links x (unpacked (field 0x20 8 body)) (field 0x28 2 body) (field 0x2C 4 body)) flags_is
      ∙ ap (λ (x : FileRef). make r.head.lsn r.head.seq r.head.links r.head.flags x (field 0x28 2 body) (field 0x2C 4 body)) (ap unpacked base_is ∙ unpacked-packed r.head.base fits.head.base)
      ∙ ap (λ (x : ℕ). make r.head.lsn r.head.seq r.head.links r.head.flags r.head.base x (field 0x2C 4 body)) next_id_is
      ∙ ap (λ (x : ℕ). make r.head.lsn r.head.seq r.head.links r.head.flags r.head.base r.head.next_id x) number_is
    where
      make : ℕ → ℕ → ℕ → ℕ → FileRef → ℕ → ℕ → RecHead
      make lsn seq links flags base next_id number = record { lsn = lsn; seq = seq; links = links; flags = flags; base = base; next_id = next_id; number = number }

  placed : attribute_bytes body ≡ concat (map spelling r.attrs) ++ (spell 4 0xFFFFFFFF ++ zeros 4)
  unfolding attribute_bytes
  placed =
      let count : used - 0x38 ≡ length attributes = omega (arith, attributes_size) in
      ap (λ (n : ℕ). part n (used_bytes body - n) body) first_is
      ∙ ap (λ (n : ℕ). part 0x38 (n - 0x38) body) used_is
      ∙ ap (take (used - 0x38)) behind
      ∙ take_at attributes (zeros (1024 - used)) (used - 0x38) (sym count)
      ∙ append_assoc (flat_map spelling r.attrs) (spell 4 0xFFFFFFFF) (zeros 4)
      ∙ ap (λ (x : List ℕ). x ++ (spell 4 0xFFFFFFFF ++ zeros 4)) (joined_spellings r.attrs)

  pub record_spells : IsFileRecord body r
  record_spells = record {
    first = ap (λ (n : ℕ). n % 8) first_is;
    first_inside = omega (arith, first_is, used_is);
    used = omega (arith, used_is, allocated_is, fits.used);
    allocated = allocated_is;
    head = head_is;
    spellings = map spelling r.attrs;
    behind = zeros 4;
    placed = placed;
    spelled = spelled_each r.attrs (recursion_from_All FitsAttr r.attrs fits.attrs);
    kinds = fits.kinds;
    rise = fits.rise;
    lawful = fits.lawful;
  }
