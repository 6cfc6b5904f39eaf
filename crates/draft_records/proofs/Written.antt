-- Records as they are written.
use Rattle.std.proofs.Common.{◌≡◌, ℕ, ◌+◌, ◌<◌, ◌≤◌, ◌^◌, List, [], ◌∷◌, ◌++◌, length, get_or, take, Ok, Err, refl, sym, ap, ◌∙◌, inl, inr, arith}
use Rattle.std.specs.Prelude.{map}
use Rattle.std.proofs.lemmas.List.{take_more, append_assoc, map-append, length-map}
use Rattle.std.proofs.lemmas.List.Sums.{count_by-le-length}
use Rattle.std.proofs.lemmas.Bool.{cases_lt, le-leb, lt-leb}
use Rattle.record_model.specs.declared.attribute.Attr.{Attr}
use Rattle.record_model.specs.Records.{Record, used_of, record_spelling, FitsRecord}
use Rattle.record_model.proofs.RecordSpelling.{length-record_spelling}
use Rattle.resized_streams.specs.record_writer.Normal.{normal, normal_record}
use Rattle.resized_streams.specs.record_writer.NormalLaws.{FitsByRoom}
use Rattle.resized_streams.proofs.record_writer.Measures.{spelled_count}
use Rattle.draft_records.specs.Records.{is_name, name_count, with_normal, written_record, written_bytes, fits_room, body_of_record}

-- ---- how many attributes there are

pub few_names : (attrs : List Attr) → used_of (map normal attrs) ≤ 1024 → name_count attrs < 2 ^ 16
few_names attrs short =
    let count = count_by-le-length is_name attrs in
    let all = spelled_count (map normal attrs) in
    let same = length-map attrs normal in
    omega (arith, count, all, same, short)

-- ---- the record that is written

pub fits_written : (r : Record) → FitsByRoom r → used_of (map normal r.attrs) ≤ 1024 → FitsRecord (written_record r)
fits_written r room short =
    let fits : FitsRecord (normal_record r) = room.fits.1 short in
    record {
      head = record {
        lsn = fits.head.lsn;
        seq = fits.head.seq;
        links = few_names r.attrs short;
        flags = fits.head.flags;
        base = fits.head.base;
        base_seq = fits.head.base_seq;
        next_id = fits.head.next_id;
        number = fits.head.number;
      };
      attrs = fits.attrs;
      kinds = fits.kinds;
      rise = fits.rise;
      lawful = fits.lawful;
      used = short;
    }

-- one attribute more
pub normal_more : (r : Record) (attrs : List Attr) (i : ℕ) (a : Attr) (old new : Record) → i < length attrs → a ≡ get_or attrs i a → old ≡ with_normal r (take i attrs) → new ≡ with_normal old (a ∷ []) → new ≡ with_normal r (take (i + 1) attrs)
normal_more r attrs i a old new lt is before after =
    after
    ∙ ap (λ (x : Record). with_normal x (a ∷ [])) before
    ∙ ap (λ (l : List Attr). record { head = r.head; attrs = l })
    (append_assoc r.attrs (map normal (take i attrs)) (normal a ∷ [])
    ∙ ap (λ (l : List Attr). r.attrs ++ l) (sym (map-append normal (take i attrs) (a ∷ [])) ∙ ap (λ (x : Attr). map normal (take i attrs ++ x ∷ [])) is ∙ ap (map normal) (sym (take_more attrs i a lt))))

-- ---- the answer

pub body_full : (r : Record) (used : ℕ) → used ≡ written_bytes r → 1024 < used → body_of_record r ≡ Err used
body_full r used is over = rw (← is) (rw (lt-leb used 1024 over) refl)

pub body_whole : (r : Record) → written_bytes r ≤ 1024 → body_of_record r ≡ Ok (record_spelling (written_record r))
body_whole r short = rw (le-leb (written_bytes r) 1024 short) refl

pub room_full : (r : Record) (used : ℕ) → used ≡ written_bytes r → 1024 < used → fits_room r ≡ Err used
room_full r used is over = rw (← is) (rw (lt-leb used 1024 over) refl)

-- a body is there exactly where there is room
pub room_of : (r : Record) (bytes : List ℕ) → body_of_record r ≡ Ok bytes → (fits_room r ≡ Ok tt) × (bytes ≡ record_spelling (written_record r))
room_of r bytes is = elim (cases_lt 1024 (written_bytes r)) [
  | inl over ↦ (let full = body_full r (written_bytes r) refl over in let clash : Err (written_bytes r) ≡ Ok bytes = sym full ∙ is in absurd cc)
  | inr short ↦ (rw (le-leb (written_bytes r) 1024 short) refl, (let whole = body_whole r short in let same : Ok (record_spelling (written_record r)) ≡ Ok bytes = sym whole ∙ is in cc))
]

pub room_not : (r : Record) (used : ℕ) → body_of_record r ≡ Err used → fits_room r ≡ Err used
room_not r used is = elim (cases_lt 1024 (written_bytes r)) [
  | inl over ↦ (let full = body_full r (written_bytes r) refl over in let same : Err (written_bytes r) ≡ Err used = sym full ∙ is in let equal : written_bytes r ≡ used = cc in room_full r used (sym equal) (omega (arith, over, equal)))
  | inr short ↦ (let whole = body_whole r short in let clash : Ok (record_spelling (written_record r)) ≡ Err used = sym whole ∙ is in absurd cc)
]

-- and it is as long as a record
pub body_long : (r : Record) (bytes : List ℕ) → FitsByRoom r → body_of_record r ≡ Ok bytes → length bytes ≡ 1024
body_long r bytes room is = elim (cases_lt 1024 (written_bytes r)) [
  | inl over ↦ (let full = body_full r (written_bytes r) refl over in let clash : Err (written_bytes r) ≡ Ok bytes = sym full ∙ is in absurd cc)
  | inr short ↦ (let parts = room_of r bytes is in ap length parts.1 ∙ length-record_spelling (written_record r) (fits_written r room short))
]
