-- How many bytes spellings take.
use Rattle.std.proofs.Common.{◌≡◌, ℕ, ◌+◌, ◌*◌, ◌^◌, ◌<◌, ◌≤◌, Bool, true, false, List, [], ◌∷◌, ◌++◌, length, take, drop, get_or, Option, Some, None, Ok, Err, refl, sym, ap, ◌∙◌, arith}
use Rattle.std.specs.Prelude.{is_some, if◌then◌else◌, nat_le}
use Rattle.std.specs.List.{flat_map}
use Rattle.std.proofs.lemmas.Bool.{le-leb, lt-leb}
use Rattle.std.proofs.lemmas.List.{take-append-drop}
use Rattle.std.proofs.lemmas.List.Folds.{length-flat_map-take}
use Rattle.disk_model.specs.host_base.Answers.{◌>>=◌, needs}
use Rattle.disk_model.proofs.Fields.{length-spell}
use Rattle.record_model.specs.declared.attribute.OwnForm.{OwnForm}
use Rattle.record_model.specs.declared.attribute.OwnForm.TheVariants.{Resident, Mapped}
use Rattle.record_model.specs.declared.attribute.Attr.{Attr}
use Rattle.record_model.specs.declared.record.RecHead.{RecHead}
use Rattle.record_model.specs.Attributes.{held_bytes, form_spelling, spelling, FitsForm, FitsAttr}
use Rattle.record_model.specs.Records.{Record, spelled_bytes, used_of, FitsRecord}
use Rattle.record_model.proofs.RecordSpelling.{length-spellings}
use Rattle.record_model.proofs.ResidentSpelling.{length-resident_spelling}
use Rattle.record_model.proofs.MappedSpelling.{length-mapped_spelling}
use Rattle.record_writer.specs.Edits.{with_attr_at, used_with, extended, made_of, form_length}

pub held_length : (held : Option ℕ) → 0x40 + length (held_bytes held) ≡ (if is_some held then 0x48 else 0x40)
held_length None = refl
held_length (Some held) = omega (arith, length-spell 8 held)

pub held_short : (held : Option ℕ) → length (held_bytes held) ≤ 8
held_short None = omega arith
held_short (Some held) = omega (arith, length-spell 8 held)

form_spelled : (a : Attr) (form : OwnForm) → length (form_spelling a form) ≡ form_length (length a.name) form
form_spelled a (Resident value indexed) = length-resident_spelling a value indexed
form_spelled a (Mapped sizes pairs) = length-mapped_spelling a sizes pairs

pub length-spelling : (a : Attr) → length (spelling a) ≡ form_length (length a.name) a.form
length-spelling a = form_spelled a a.form

pub form_long : (name : ℕ) (form : OwnForm) → 24 ≤ form_length name form
form_long name (Resident value indexed) = omega arith
form_long name (Mapped sizes pairs) = omega arith

-- attributes take 24 bytes each, or more
pub spelled_count : (attrs : List Attr) → 24 * length attrs ≤ spelled_bytes attrs
spelled_count [] = omega arith
spelled_count (a ∷ attrs) = omega (arith, spelled_count attrs, length-spelling a, form_long (length a.name) a.form)

-- the attributes before a place, and the one there, take no more than all
pub spelled_part : (attrs : List Attr) (i : ℕ) (d : Attr) → i < length attrs → spelled_bytes (take i attrs) + length (spelling (get_or attrs i d)) ≤ spelled_bytes attrs
spelled_part attrs i d lt =
    let part = length-spellings (take i attrs) in
    let all = length-spellings attrs in
    let fits : length (flat_map spelling (take i attrs)) + length (spelling (get_or attrs i d)) ≤ length (flat_map spelling attrs) = length-flat_map-take spelling attrs i d lt in
    omega arith

-- ---- one attribute more

spelled_bytes-append : (xs ys : List Attr) → spelled_bytes (xs ++ ys) ≡ spelled_bytes xs + spelled_bytes ys
spelled_bytes-append [] ys = omega arith
spelled_bytes-append (x ∷ xs) ys = omega (arith, spelled_bytes-append xs ys)

-- with an attribute more, a record uses its bytes more
pub used_with-sum : (r : Record) (at : ℕ) (a : Attr) → used_with r at a ≡ used_of r.attrs + length (spelling a)
used_with-sum r at a =
    let parts = spelled_bytes-append (take at r.attrs) (a ∷ drop at r.attrs) in
    let whole = spelled_bytes-append (take at r.attrs) (drop at r.attrs) in
    let same = ap spelled_bytes (take-append-drop at r.attrs) in
    omega arith

refused_by : (fits : Bool) (used : ℕ) (r : Record) → fits ≡ false → (needs fits used >>= λ _. Ok r) ≡ Err used
refused_by false used r e = refl
refused_by true used r e = absurd cc

taken_by : (fits : Bool) (used : ℕ) (r : Record) → fits ≡ true → (needs fits used >>= λ _. Ok r) ≡ Ok r
taken_by true used r e = refl
taken_by false used r e = absurd cc

-- there is no room, or there is
pub is_full : (r : Record) (at used : ℕ) (a : Attr) → used ≡ used_of r.attrs + length (spelling a) → 1024 < used → extended r at a ≡ Err used
is_full r at used a e above =
    let sum = used_with-sum r at a in
    let over : 1024 < used_with r at a = omega arith in
    refused_by (nat_le (used_with r at a) 1024) (used_with r at a) (with_attr_at r at a) (lt-leb _ _ over) ∙ ap Err (sum ∙ sym e)

pub has_room : (r : Record) (at used : ℕ) (a : Attr) → used ≡ used_of r.attrs + length (spelling a) → used ≤ 1024 → extended r at a ≡ Ok (with_attr_at r at a)
has_room r at used a e below =
    let sum = used_with-sum r at a in
    let under : used_with r at a ≤ 1024 = omega arith in
    taken_by (nat_le (used_with r at a) 1024) (used_with r at a) (with_attr_at r at a) (le-leb _ _ under)

-- the same of a list of attributes
pub made_full : (head : RecHead) (attrs : List Attr) (used : ℕ) → used ≡ used_of attrs → 1024 < used → made_of head attrs ≡ Err used
made_full head attrs used e above = refused_by (nat_le (used_of attrs) 1024) (used_of attrs) (record { head = head; attrs = attrs }) (lt-leb _ _ (omega arith)) ∙ ap Err (sym e)

pub made_whole : (head : RecHead) (attrs : List Attr) (used : ℕ) → used ≡ used_of attrs → used ≤ 1024 → made_of head attrs ≡ Ok (record { head = head; attrs = attrs })
made_whole head attrs used e below = taken_by (nat_le (used_of attrs) 1024) (used_of attrs) (record { head = head; attrs = attrs }) (le-leb _ _ (omega arith))

-- ---- what has a spelling is short

form_short : (name flags : ℕ) (form : OwnForm) → name < 256 → FitsForm flags form → form_length name form < 2 ^ 31 + 2 ^ 11
form_short name flags (Resident value indexed) few fits = let short = fits.value_short in omega arith
form_short name flags (Mapped sizes pairs) few fits =
    let short = fits.pairs_short in
    let held = held_short sizes.held in
    omega arith

spelled_most : (a : Attr) → FitsAttr a → length (spelling a) < 2 ^ 31 + 2 ^ 11
spelled_most a fits = let e = length-spelling a in let short = form_short (length a.name) a.head.flags a.form fits.name_short fits.form in omega arith

pub spelled_short : (a : Attr) → FitsAttr a → length (spelling a) < 2 ^ 32
spelled_short a fits = let most = spelled_most a fits in omega arith

-- a record of one attribute that has a spelling uses bytes that fit 32 bits
pub one_below : (a : Attr) → FitsAttr a → used_of (a ∷ []) < 2 ^ 32
one_below a fits = let short = spelled_most a fits in omega arith

-- with an attribute more that has a spelling, a record that has one uses bytes that fit 32 bits
pub used_with_below : (r : Record) (at : ℕ) (a : Attr) → FitsRecord r → FitsAttr a → used_with r at a < 2 ^ 32
used_with_below r at a fits attr =
    let sum = used_with-sum r at a in
    let short = spelled_most a attr in
    let used = fits.used in
    omega arith
