-- How many bytes attributes take, as they stand and as they are written.
use Rattle.std.proofs.Common.{◌≡◌, ℕ, ◌+◌, Bool, true, false, cond, List, [], ◌∷◌, ◌++◌, length, map, Some, None, refl, sym, ap, ◌∙◌, inl, inr, arith}
use Rattle.std.specs.Prelude.{not, filter, nat_le}
use Rattle.std.proofs.lemmas.Bool.{cases_Bool, cases_lt, lt-ltb, le-ltb, lt-leb, le-leb}
use Rattle.host_base.specs.Answers.{needs}
use Rattle.step_model.proofs.disk_model.Fields.{length-spell}
use Rattle.draft_records.specs.record_model.declared.attribute.Attr.{Attr}
use Rattle.draft_records.specs.record_model.declared.attribute.OwnForm.{OwnForm}
use Rattle.draft_records.specs.record_model.declared.attribute.OwnForm.TheVariants.{Resident, Mapped}
use Rattle.draft_records.specs.record_model.Attributes.{held_bytes, spelling}
use Rattle.draft_records.specs.record_model.Records.{Record, spelled_bytes, used_of}
use Rattle.draft_records.proofs.record_model.UnitBytes.{length-filled}
use Rattle.step_model.specs.record_writer.Edits.{form_length}
use Rattle.step_model.specs.record_writer.Normal.{normal, normal_form}
use Rattle.step_model.proofs.record_writer.Measures.{length-spelling}
use Rattle.step_model.specs.tree_model.declared.reply.Reply.TheVariants.{RecordFull}
use Rattle.draft_records.specs.Records.{written_bytes, fits_room}
use Rattle.step_model.specs.Plans.{full_row}
use Rattle.used_laws.specs.Laws.{reply_of, WrittenAsCounted}

-- ---- attributes as they are written

form_normal : (name : ℕ) (form : OwnForm) → form_length name (normal_form form) ≡ form_length name form
form_normal name (Resident value indexed) = refl
form_normal name (Mapped sizes pairs) =
    let whole = length-filled 0 pairs in
    omega arith

pub normal_length : (a : Attr) → length (spelling (normal a)) ≡ length (spelling a)
normal_length a = length-spelling (normal a) ∙ form_normal (length a.name) a.form ∙ sym (length-spelling a)

normal_bytes : (attrs : List Attr) → spelled_bytes (map normal attrs) ≡ spelled_bytes attrs
normal_bytes [] = refl
normal_bytes (a ∷ attrs) =
    let here = normal_length a in
    let rest = normal_bytes attrs in
    omega arith

pub written_used : (r : Record) → written_bytes r ≡ used_of r.attrs
written_used r = ap (λ (n : ℕ). 0x38 + n + 8) (normal_bytes r.attrs)

-- a record is refused where it has no room
row_of : (used : ℕ) → reply_of (needs (nat_le used 1024) used) ≡ full_row (used ∷ [])
row_of used = elim (cases_lt 1024 used) [
  | inl over ↦ ap (λ (b : Bool). reply_of (needs b used)) (lt-leb used 1024 over) ∙ sym (ap (λ (b : Bool). cond b (Some (RecordFull used)) None) (lt-ltb 1024 used over))
  | inr fits ↦ ap (λ (b : Bool). reply_of (needs b used)) (le-leb used 1024 fits) ∙ sym (ap (λ (b : Bool). cond b (Some (RecordFull used)) None) (le-ltb 1024 used fits))
]

refused : (r : Record) → reply_of (fits_room r) ≡ full_row (used_of r.attrs ∷ [])
refused r = row_of (written_bytes r) ∙ ap (λ (used : ℕ). full_row (used ∷ [])) (written_used r)

pub as_counted : WrittenAsCounted
as_counted = record { attr = normal_length; used = written_used; refused = refused }

-- ---- sums

pub bytes-append : (xs ys : List Attr) → spelled_bytes (xs ++ ys) ≡ spelled_bytes xs + spelled_bytes ys
bytes-append [] ys = omega arith
bytes-append (x ∷ xs) ys = omega (arith, bytes-append xs ys)

pub filter_yes : (p : Attr → Bool) (a : Attr) (attrs : List Attr) → p a ≡ true → filter p (a ∷ attrs) ≡ a ∷ filter p attrs
filter_yes p a attrs is = ap (λ (t : Bool). cond t (a ∷ filter p attrs) (filter p attrs)) is

pub filter_no : (p : Attr → Bool) (a : Attr) (attrs : List Attr) → p a ≡ false → filter p (a ∷ attrs) ≡ filter p attrs
filter_no p a attrs is = ap (λ (t : Bool). cond t (a ∷ filter p attrs) (filter p attrs)) is

pub bytes_split : (p : Attr → Bool) (attrs : List Attr) → spelled_bytes (filter p attrs) + spelled_bytes (filter (λ (a : Attr). not (p a)) attrs) ≡ spelled_bytes attrs
bytes_split p [] = refl
bytes_split p (a ∷ attrs) =
    let out : Attr → Bool = λ b. not (p b) in
    let rest = bytes_split p attrs in
    elim (cases_Bool (p a)) [
      | inl is ↦ omega (arith, ap spelled_bytes (filter_yes p a attrs is), ap spelled_bytes (filter_no out a attrs (ap not is)), rest)
      | inr is ↦ omega (arith, ap spelled_bytes (filter_no p a attrs is), ap spelled_bytes (filter_yes out a attrs (ap not is)), rest)
    ]

-- the held size takes as many bytes whatever it is
pub held_alike : (t : Bool) (x y : ℕ) → length (held_bytes (cond t (Some x) None)) ≡ length (held_bytes (cond t (Some y) None))
held_alike true x y = length-spell 8 x ∙ sym (length-spell 8 y)
held_alike false x y = refl
