-- An attribute's own bytes: what the table says is what is read, and what is read is in the table.
use Rattle.std.proofs.Common.{◌≡◌, ◌≢◌, ℕ, ◌+◌, ◌*◌, ◌%◌, ◌≤◌, Bool, true, false, not, cond, ◌&&◌, leb, eqb, List, ◌++◌, length, take, drop, Option, Some, None, refl, sym, ap, ◌∙◌, inl, inr, arith}
use Rattle.std.proofs.lemmas.Bool.{le-leb, leb-true, eq-eqb, eqb-true, eqb-false, ne_eqb, and_from, and_parts, or_left, or_right, or_cases, cases_lt, cond-true, cond-false, not_from_true, not_from_false, not-true, not-false}
use Rattle.std.proofs.lemmas.List.{length-append, length-take-le, take_at, drop_at}
use Rattle.std.proofs.lemmas.List.FromFn.{length-map-range_with_len}
use Rattle.disk_model.specs.Numbers.{field}
use Rattle.disk_model.specs.Bytes.{part}
use Rattle.disk_model.proofs.Fields.{field-append, field-take}
use Rattle.record_model.specs.declared.attribute.Head.{Head}
use Rattle.record_model.specs.declared.attribute.Sizes.{Sizes}
use Rattle.record_model.specs.declared.attribute.OwnForm.{OwnForm}
use Rattle.record_model.specs.declared.attribute.OwnForm.TheVariants.{Resident, Mapped}
use Rattle.record_model.specs.declared.attribute.Attr.{Attr}
use Rattle.record_model.specs.Attributes.{units_at, is_mapped, is_compressed_or_sparse, has_held, header_length, has_length, is_name_inside, is_value_inside, is_inside, head_of, held_of, sizes_of, name_units, form_of, attr_of, SpellsHeld, SpellsMapped, SpellsForm, SpellsAttr}

pub length-units_at : (at count : ℕ) (bytes : List ℕ) → length (units_at at count bytes) ≡ count
unfolding units_at
length-units_at at count bytes = length-map-range_with_len (λ i. field (at + 2 * i) 2 bytes) 0 count

-- ---- the header

pub mapped_from_byte : (s : List ℕ) → field 0x08 1 s ≢ 0 → is_mapped s ≡ true
mapped_from_byte s ne = not_from_false _ (ne_eqb _ _ ne)

pub resident_from_byte : (s : List ℕ) → field 0x08 1 s ≡ 0 → is_mapped s ≡ false
resident_from_byte s e = not_from_true _ (eq-eqb _ _ e)

pub byte_of_mapped : (s : List ℕ) → is_mapped s ≡ true → field 0x08 1 s ≢ 0
byte_of_mapped s e = eqb-false _ _ (not-true _ e)

pub byte_of_resident : (s : List ℕ) → is_mapped s ≡ false → field 0x08 1 s ≡ 0
byte_of_resident s e = eqb-true _ _ (not-false _ e)

header_by : Bool → Bool → ℕ
header_by mapped held = cond mapped (cond held 0x48 0x40) 0x18

header_by_low : (mapped held : Bool) → 0x18 ≤ header_by mapped held
unfolding header_by
header_by_low true true = omega arith
header_by_low true false = omega arith
header_by_low false held = omega arith

pub header_low : (s : List ℕ) → 0x18 ≤ header_length s
unfolding header_length header_by
header_low s = header_by_low (is_mapped s) (has_held s)

header_by_mapped : (mapped held : Bool) → mapped ≡ true → 0x40 ≤ header_by mapped held
unfolding header_by
header_by_mapped true true e = omega arith
header_by_mapped true false e = omega arith
header_by_mapped false held e = absurd cc

pub header_mapped : (s : List ℕ) → is_mapped s ≡ true → 0x40 ≤ header_length s
unfolding header_length header_by
header_mapped s e = header_by_mapped (is_mapped s) (has_held s) e

pub header_held : (s : List ℕ) → is_mapped s ≡ true → has_held s ≡ true → header_length s ≡ 0x48
unfolding header_length
header_held s mapped held = ap (λ (b : Bool). cond b (cond (has_held s) 0x48 0x40) 0x18) mapped ∙ ap (λ (b : Bool). cond b 0x48 0x40) held

pub header_plain : (s : List ℕ) → is_mapped s ≡ true → has_held s ≡ false → header_length s ≡ 0x40
unfolding header_length
header_plain s mapped held = ap (λ (b : Bool). cond b (cond (has_held s) 0x48 0x40) 0x18) mapped ∙ ap (λ (b : Bool). cond b 0x48 0x40) held

pub header_resident : (s : List ℕ) → is_mapped s ≡ false → header_length s ≡ 0x18
unfolding header_length
header_resident s mapped = ap (λ (b : Bool). cond b (cond (has_held s) 0x48 0x40) 0x18) mapped

header_from : ℕ → ℕ → ℕ → ℕ
header_from byte flags first = header_by (not (eqb byte 0)) (is_compressed_or_sparse flags && eqb first 0)

-- the header's length is read from its first 0x18 bytes
header_same : (s t : List ℕ) → field 0x08 1 s ≡ field 0x08 1 t → field 0x0C 2 s ≡ field 0x0C 2 t → field 0x10 8 s ≡ field 0x10 8 t → header_length s ≡ header_length t
unfolding header_length header_by header_from
header_same s t byte flags first =
    ap (λ (x : ℕ). header_from x (field 0x0C 2 s) (field 0x10 8 s)) byte ∙ ap (λ (x : ℕ). header_from (field 0x08 1 t) x (field 0x10 8 s)) flags ∙ ap (λ (x : ℕ). header_from (field 0x08 1 t) (field 0x0C 2 t) x) first

pub header-append : (s rest : List ℕ) → 0x18 ≤ length s → header_length (s ++ rest) ≡ header_length s
header-append s rest le =
    header_same (s ++ rest) s (field-append 0x08 1 s rest (omega arith)) (field-append 0x0C 2 s rest (omega arith)) (field-append 0x10 8 s rest (omega arith))

pub header-take : (n : ℕ) (bytes : List ℕ) → 0x18 ≤ n → header_length (take n bytes) ≡ header_length bytes
header-take n bytes le = header_same (take n bytes) bytes (field-take 0x08 1 n bytes (omega arith)) (field-take 0x0C 2 n bytes (omega arith)) (field-take 0x10 8 n bytes (omega arith))

-- ---- the length

-- these bytes are all that their length says
pub record HasOwnLength (s : List ℕ) : Type 0 where
  pub header : header_length s ≤ length s
  pub own_length : field 0x04 4 s ≡ length s
  pub eights : length s % 8 ≡ 0

pub own_from_length : (bytes : List ℕ) → has_length bytes ≡ true → (field 0x04 4 bytes ≤ length bytes) × HasOwnLength (take (field 0x04 4 bytes) bytes)
unfolding has_length
own_from_length bytes e =
    let n = field 0x04 4 bytes in
    let parts = and_parts _ _ e in
    let front = and_parts _ _ parts.0 in
    let within : n ≤ length bytes = leb-true _ _ parts.1 in
    let header : header_length bytes ≤ n = leb-true _ _ front.0 in
    let eights : n % 8 ≡ 0 = eqb-true _ _ front.1 in
    let low : 0x18 ≤ header_length bytes = header_low bytes in
    let size : length (take n bytes) ≡ n = length-take-le n bytes within in
    let same : header_length (take n bytes) ≡ header_length bytes = header-take n bytes (omega arith) in
    let own : field 0x04 4 (take n bytes) ≡ n = field-take 0x04 4 n bytes (omega arith) in
    (within, record { header = omega arith; own_length = own ∙ sym size; eights = ap (λ (x : ℕ). x % 8) size ∙ eights })

pub length-front : (s rest : List ℕ) → HasOwnLength s → field 0x04 4 (s ++ rest) ≡ length s
length-front s rest own = let low = header_low s in field-append 0x04 4 s rest (omega (arith, own.header)) ∙ own.own_length

pub length_from_own : (s rest : List ℕ) → HasOwnLength s → has_length (s ++ rest) ≡ true
unfolding has_length
length_from_own s rest own =
    let low : 0x18 ≤ header_length s = header_low s in
    let long : 0x18 ≤ length s = omega (arith, own.header) in
    let n : field 0x04 4 (s ++ rest) ≡ length s = length-front s rest own in
    let header = header-append s rest long in
    and_from _ _ (and_from _ _ (le-leb _ _ (omega (arith, own.header))) (eq-eqb _ _ (ap (λ (x : ℕ). x % 8) n ∙ own.eights))) (le-leb _ _ (omega (arith, length-append s rest)))

pub own_bytes : (s rest : List ℕ) → HasOwnLength s → take (field 0x04 4 (s ++ rest)) (s ++ rest) ≡ s
own_bytes s rest own = ap (λ (x : ℕ). take x (s ++ rest)) (length-front s rest own) ∙ take_at s rest (length s) refl

pub bytes_behind : (s rest : List ℕ) → HasOwnLength s → drop (field 0x04 4 (s ++ rest)) (s ++ rest) ≡ rest
bytes_behind s rest own = ap (λ (x : ℕ). drop x (s ++ rest)) (length-front s rest own) ∙ drop_at s rest (length s) refl

-- ---- from the table to the reader

held_read : (s : List ℕ) (held : Option ℕ) → SpellsHeld s held → held_of s ≡ held
unfolding held_of
held_read s (Some held) t = cond-true (has_held s) (Some (field 0x40 8 s)) None t.0 ∙ ap Some t.2
held_read s None t = cond-false (has_held s) (Some (field 0x40 8 s)) None t

held_long : (s : List ℕ) (held : Option ℕ) → is_mapped s ≡ true → 0x40 ≤ length s → SpellsHeld s held → header_length s ≤ length s
held_long s (Some held) mapped long t = let e = header_held s mapped t.0 in omega (arith, t.1)
held_long s None mapped long t = let e = header_plain s mapped t in omega arith

sizes_read : (s : List ℕ) (sizes : Sizes) (pairs : List ℕ) → SpellsMapped s sizes pairs → sizes_of s ≡ sizes
unfolding sizes_of
sizes_read s sizes pairs t =
    ap (λ (x : ℕ). make x (field 0x18 8 s) (field 0x22 2 s) (field 0x28 8 s) (field 0x30 8 s) (field 0x38 8 s) (held_of s)) t.first
    ∙ ap (λ (x : ℕ). make sizes.first x (field 0x22 2 s) (field 0x28 8 s) (field 0x30 8 s) (field 0x38 8 s) (held_of s)) t.last
    ∙ ap (λ (x : ℕ). make sizes.first sizes.last x (field 0x28 8 s) (field 0x30 8 s) (field 0x38 8 s) (held_of s)) t.unit
    ∙ ap (λ (x : ℕ). make sizes.first sizes.last sizes.unit x (field 0x30 8 s) (field 0x38 8 s) (held_of s)) t.allocated
    ∙ ap (λ (x : ℕ). make sizes.first sizes.last sizes.unit sizes.allocated x (field 0x38 8 s) (held_of s)) t.real
    ∙ ap (λ (x : ℕ). make sizes.first sizes.last sizes.unit sizes.allocated sizes.real x (held_of s)) t.initialised
    ∙ ap (λ (x : Option ℕ). make sizes.first sizes.last sizes.unit sizes.allocated sizes.real sizes.initialised x) (held_read s sizes.held t.held)
  where
    make : ℕ → ℕ → ℕ → ℕ → ℕ → ℕ → Option ℕ → Sizes
    make first last unit allocated real initialised held = record { first = first; last = last; unit = unit; allocated = allocated; real = real; initialised = initialised; held = held }

form_by : Bool → Sizes → List ℕ → List ℕ → ℕ → OwnForm
form_by mapped sizes pairs value indexed = cond mapped (Mapped sizes pairs) (Resident value indexed)

form_read : (s : List ℕ) (form : OwnForm) → SpellsForm s form → form_of s ≡ form
unfolding form_of form_by
form_read s (Resident value indexed) t =
    ap (λ (b : Bool). form_by b (sizes_of s) (drop (field 0x20 2 s) s) (part (field 0x14 2 s) (field 0x10 4 s) s) (field 0x16 1 s)) (resident_from_byte s t.resident)
    ∙ ap (λ (x : List ℕ). Resident x (field 0x16 1 s)) t.value_bytes
    ∙ ap (λ (x : ℕ). Resident value x) t.indexed_byte
form_read s (Mapped sizes pairs) t =
    ap (λ (b : Bool). form_by b (sizes_of s) (drop (field 0x20 2 s) s) (part (field 0x14 2 s) (field 0x10 4 s) s) (field 0x16 1 s)) (mapped_from_byte s t.mapped)
    ∙ ap (λ (x : Sizes). Mapped x (drop (field 0x20 2 s) s)) (sizes_read s sizes pairs t)
    ∙ ap (λ (x : List ℕ). Mapped sizes x) t.pairs_bytes

form_long : (s : List ℕ) (form : OwnForm) → SpellsForm s form → header_length s ≤ length s
form_long s (Resident value indexed) t = let e = header_resident s (resident_from_byte s t.resident) in omega (arith, t.header)
form_long s (Mapped sizes pairs) t = held_long s sizes.held (mapped_from_byte s t.mapped) t.header t.held

value_inside_by : Bool → List ℕ → Bool
value_inside_by mapped s = cond mapped (leb (field 0x20 2 s) (length s)) (leb (field 0x14 2 s + field 0x10 4 s) (length s))

form_inside : (s : List ℕ) (form : OwnForm) → SpellsForm s form → is_value_inside s ≡ true
unfolding is_value_inside value_inside_by
form_inside s (Resident value indexed) t = ap (λ (b : Bool). value_inside_by b s) (resident_from_byte s t.resident) ∙ le-leb _ _ t.value_inside
form_inside s (Mapped sizes pairs) t = ap (λ (b : Bool). value_inside_by b s) (mapped_from_byte s t.mapped) ∙ le-leb _ _ t.pairs_inside

module _ (s : List ℕ) (a : Attr) (t : SpellsAttr s a) where
  pub own_from_table : HasOwnLength s
  own_from_table = record { header = form_long s a.form t.form; own_length = t.own_length; eights = t.eights }

  head_read : head_of s ≡ a.head
  unfolding head_of
  head_read = ap (λ (x : ℕ). make x (field 0x0C 2 s) (field 0x0E 2 s)) t.kind ∙ ap (λ (x : ℕ). make a.head.kind x (field 0x0E 2 s)) t.flags ∙ ap (λ (x : ℕ). make a.head.kind a.head.flags x) t.id
    where
      make : ℕ → ℕ → ℕ → Head
      make kind flags id = record { kind = kind; flags = flags; id = id }

  name_read : name_units s ≡ a.name
  unfolding name_units
  name_read = ap (λ (x : ℕ). units_at (field 0x0A 2 s) x s) t.name_length ∙ t.name

  -- the bytes of a table are read as its attribute
  pub attr_from_table : attr_of s ≡ a
  unfolding attr_of
  attr_from_table = ap (λ (x : Head). make x (name_units s) (form_of s)) head_read ∙ ap (λ (x : List ℕ). make a.head x (form_of s)) name_read ∙ ap (λ (x : OwnForm). make a.head a.name x) (form_read s a.form t.form)
    where
      make : Head → List ℕ → OwnForm → Attr
      make head name form = record { head = head; name = name; form = form }

  name_inside : is_name_inside s ≡ true
  unfolding is_name_inside
  name_inside =
      elim (cases_lt 0 (length a.name)) [
        | inl some ↦ or_right (eqb (field 0x09 1 s) 0) _ (le-leb (field 0x0A 2 s + 2 * field 0x09 1 s) (length s) (omega (arith, t.name_length, t.name_inside some)))
        | inr none ↦ or_left (eqb (field 0x09 1 s) 0) _ (eq-eqb _ _ (omega (arith, t.name_length)))
      ]

  -- the name and the value lie inside
  pub inside_from_table : is_inside s ≡ true
  inside_from_table = and_from _ _ name_inside (form_inside s a.form t.form)

-- ---- from the reader to the table

table_of_held : (s : List ℕ) (held : Bool) → has_held s ≡ held → (held ≡ true → 0x48 ≤ length s) → SpellsHeld s (cond held (Some (field 0x40 8 s)) None)
table_of_held s true e long = (e, long refl, refl)
table_of_held s false e long = e

table_of_form : (s : List ℕ) (mapped : Bool) → is_mapped s ≡ mapped → header_length s ≤ length s → value_inside_by mapped s ≡ true → SpellsForm s (form_by mapped (sizes_of s) (drop (field 0x20 2 s) s) (part (field 0x14 2 s) (field 0x10 4 s) s) (field 0x16 1 s))
unfolding form_by value_inside_by sizes_of held_of
table_of_form s true e long inside =
    let header : 0x40 ≤ header_length s = header_mapped s e in
    record {
      header = omega arith;
      mapped = byte_of_mapped s e;
      first = refl;
      last = refl;
      unit = refl;
      allocated = refl;
      real = refl;
      initialised = refl;
      held = table_of_held s (has_held s) refl (λ held. let more = header_held s e held in omega arith);
      pairs_inside = leb-true _ _ inside;
      pairs_bytes = refl;
    }
table_of_form s false e long inside =
    let header : 0x18 ≤ header_length s = header_low s in
    record {
      header = omega arith;
      resident = byte_of_resident s e;
      value_inside = leb-true _ _ inside;
      value_bytes = refl;
      indexed_byte = refl;
    }

-- what is read of an attribute's own bytes, inside of them, is in the table
pub table_from_read : (s : List ℕ) → HasOwnLength s → is_inside s ≡ true → SpellsAttr s (attr_of s)
unfolding attr_of head_of name_units form_of form_by is_name_inside is_value_inside value_inside_by
table_from_read s own inside =
    let parts = and_parts (is_name_inside s) (is_value_inside s) inside in
    let count : length (name_units s) ≡ field 0x09 1 s = length-units_at (field 0x0A 2 s) (field 0x09 1 s) s in
    record {
      kind = refl;
      own_length = own.own_length;
      eights = own.eights;
      name_length = sym count;
      name_inside = λ some. elim (or_cases _ _ parts.0) [
        | inl none ↦ let e : field 0x09 1 s ≡ 0 = eqb-true _ _ none in absurd (omega arith)
        | inr within ↦ let le : field 0x0A 2 s + 2 * field 0x09 1 s ≤ length s = leb-true _ _ within in omega arith
      ];
      name = ap (λ (x : ℕ). units_at (field 0x0A 2 s) x s) count;
      flags = refl;
      id = refl;
      form = table_of_form s (is_mapped s) refl own.header parts.1;
    }
