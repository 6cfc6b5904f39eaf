-- Bytes that are records alone: the last one ends where the bytes end.
use Rattle.std.proofs.Common.{◌≡◌, ℕ, zero, suc, ◌+◌, ◌-◌, ◌/◌, ◌<◌, ◌≤◌, Bool, true, false, List, [], ◌∷◌, ◌++◌, length, take, drop, Option, Result, Ok, Err, refl, sym, ap, ◌∙◌, inl, inr, arith}
use Rattle.std.specs.Prelude.{◌==◌, ◌&&◌, ◌||◌, not}
use Rattle.std.proofs.Math.Bool.{or-true}
use Rattle.std.proofs.lemmas.Bool.{eq-eqb, eqb-true, cases_lt}
use Rattle.std.proofs.lemmas.List.FromFn.{length-map-range_with_len}
use Rattle.std.proofs.lemmas.List.{length-append, length-drop, length-take-le, take-append-drop, drop_at, drop_all}
use Rattle.record_model.specs.host_base.Answers.{◌>>=◌, needs}
use Rattle.record_model.specs.disk_model.Numbers.{field}
use Rattle.record_model.specs.disk_model.Bytes.{AreBytes, all_zeros}
use Rattle.record_model.proofs.disk_model.Fields.{AreBytes-drop}
use Rattle.file_tree.specs.declared.journal.Usn.{Usn}
use Rattle.journal_model.specs.declared.fault.UsnFault.{UsnFault}
use Rattle.journal_model.specs.UsnRecords.{page_size, is_whole, usn_in, BeginsRecord}
use Rattle.journal_model.specs.Pages.{with_entry, records_of, ends_in_record, Piece, StandFrom, piece_bytes, AreRecords}
use Rattle.journal_model.specs.Journals.{bytes_between, page_from, page_to, page_entries, is_owned}
use Rattle.journal_model.proofs.UsnRead.{found_length, read_table, table_read}
use Rattle.journal_model.proofs.PageRead.{records_end, records_next, records_fault, record_some, with_ok, entries_with, piece, entries_of_piece, more_pieces, front_begins}
use Rattle.journal_model.proofs.JournalParts.{bytes_are, placed_ok}

-- ---- one step of the walk

ends_step : (most : ℕ) (bytes : List ℕ) → ends_in_record (suc most) bytes ≡ (not (all_zeros bytes) && is_whole bytes && (field 0x00 4 bytes == length bytes || ends_in_record most (drop (field 0x00 4 bytes) bytes)))
unfolding ends_in_record
ends_step most bytes = refl

no_step : (bytes : List ℕ) → ends_in_record zero bytes ≡ false
unfolding ends_in_record
no_step bytes = refl

tests_pass : (z w last : Bool) → z ≡ false → w ≡ true → last ≡ true → (not z && w && last) ≡ true
tests_pass false true true z w last = refl
tests_pass false true false z w last = last
tests_pass false false last z w l = absurd cc
tests_pass true w last z e l = absurd cc

tests_passed : (z w last : Bool) → (not z && w && last) ≡ true → (z ≡ false) × (last ≡ true)
tests_passed false true true e = (refl, refl)
tests_passed false true false e = absurd cc
tests_passed false false last e = absurd cc
tests_passed true w last e = absurd cc

whole_of : {A : Type 0} (whole : Bool) (fault : UsnFault) (f : Unit {0} → Result A UsnFault) (x : A) → (needs whole fault >>= f) ≡ Ok x → whole ≡ true
whole_of true fault f x e = refl
whole_of false fault f x e = absurd cc

found_whole : (bytes : List ℕ) (at : ℕ) (found : Option Usn) (n : ℕ) → usn_in bytes at ≡ Ok (found, n) → is_whole bytes ≡ true
unfolding usn_in
found_whole bytes at found n e = whole_of (is_whole bytes) _ _ (found, n) e

-- ---- records that end there

ends_pieces : (pieces : List Piece) (most at : ℕ) (bytes : List ℕ) → StandFrom at pieces → bytes ≡ piece_bytes pieces → 0 < length bytes → length bytes ≤ most → ends_in_record most bytes ≡ true
ends_pieces [] most at bytes st e some few = absurd (omega (arith, ap length e))
ends_pieces (p ∷ pieces) zero at bytes st e some few = absurd (omega arith)
ends_pieces (p ∷ pieces) (suc most) at bytes st e some few =
    let n = length p.bytes in
    let found = table_read bytes at p.entry n (front_begins p.bytes (piece_bytes pieces) bytes at p.entry st.0 e) in
    let size = found_length bytes at p.entry n found in
    let left : drop n bytes ≡ piece_bytes pieces = ap (drop n) e ∙ drop_at p.bytes (piece_bytes pieces) n refl in
    let on : n < length bytes → ends_in_record most (drop (field 0x00 4 bytes) bytes) ≡ true =
    λ lt. ap (λ (k : ℕ). ends_in_record most (drop k bytes)) (sym size.2) ∙ ends_pieces pieces most (at + n) (drop n bytes) st.1 left (omega (arith, length-drop n bytes)) (omega (arith, size, length-drop n bytes)) in
    let last : (field 0x00 4 bytes == length bytes || ends_in_record most (drop (field 0x00 4 bytes) bytes)) ≡ true =
    elim (cases_lt n (length bytes)) [
      | inl lt ↦ ap (λ (b : Bool). field 0x00 4 bytes == length bytes || b) (on lt) ∙ or-true (field 0x00 4 bytes == length bytes)
      | inr le ↦ ap (λ (b : Bool). b || ends_in_record most (drop (field 0x00 4 bytes) bytes)) (eq-eqb (field 0x00 4 bytes) (length bytes) (omega (arith, size)))
    ] in
    ends_step most bytes ∙ tests_pass (all_zeros bytes) (is_whole bytes) _ (record_some bytes at p.entry n found) (found_whole bytes at p.entry n found) last

pub records_owned : (bytes : List ℕ) (at : ℕ) (entries : List Usn) → 0 < length bytes → AreRecords bytes at entries → ends_in_record (length bytes) bytes ≡ true
records_owned bytes at entries some are = ends_pieces are.pieces (length bytes) at bytes are.stand are.whole some (omega arith)

-- ---- and none but those

-- a record in front of bytes that are records
records_front : (bytes : List ℕ) (at : ℕ) (found : Option Usn) (n : ℕ) (rest entries : List Usn) → BeginsRecord bytes at found n → AreRecords (drop n bytes) (at + n) rest → entries_with found rest ≡ entries → AreRecords bytes at entries
records_front bytes at found n rest entries b are e = record {
  pieces = piece (take n bytes) found ∷ are.pieces;
  stand = more_pieces bytes at n found are.pieces b are.stand;
  whole = sym (take-append-drop n bytes) ∙ ap (λ (l : List ℕ). take n bytes ++ l) are.whole;
  entries_are = entries_of_piece (take n bytes) found are.pieces ∙ ap (entries_with found) are.entries_are ∙ e;
}

none_behind : (bytes : List ℕ) (at : ℕ) (rest : List Usn) → bytes ≡ [] → records_of bytes at ≡ Ok rest → AreRecords bytes at rest
unfolding all_zeros
none_behind bytes at rest none e = record {
  pieces = [];
  stand = tt;
  whole = none;
  entries_are = same [] rest (records_of bytes at) (records_end bytes at (ap all_zeros none)) e;
}
  where
    same : (xs ys : List Usn) (r : Result (List Usn) UsnFault) → r ≡ Ok xs → r ≡ Ok ys → xs ≡ ys
    same xs ys r e f = cc

or_parts : (a b : Bool) → (a || b) ≡ true → a ≡ false → b ≡ true
or_parts false b e is = e
or_parts true b e is = absurd cc

abbrev OwnsRest : ℕ → Type 0
OwnsRest most = (bytes : List ℕ) (at : ℕ) (entries : List Usn) → AreBytes bytes → records_of bytes at ≡ Ok entries → ends_in_record most bytes ≡ true → AreRecords bytes at entries

owned_by : (most : ℕ) → OwnsRest most → OwnsRest (suc most)
owned_by most later bytes at entries each e ends = by (usn_in bytes at) refl
  where
    f : ℕ
    f = field 0x00 4 bytes

    tests : (all_zeros bytes ≡ false) × ((f == length bytes || ends_in_record most (drop f bytes)) ≡ true)
    tests = tests_passed (all_zeros bytes) (is_whole bytes) (f == length bytes || ends_in_record most (drop f bytes)) (sym (ends_step most bytes) ∙ ends)

    behind : (found : Option Usn) (n : ℕ) (rest : List Usn) → usn_in bytes at ≡ Ok (found, n) → records_of (drop n bytes) (at + n) ≡ Ok rest → (b : Bool) → (f == length bytes) ≡ b → AreRecords (drop n bytes) (at + n) rest
    behind found n rest is read true last =
        let size = found_length bytes at found n is in
        let all : f ≡ length bytes = eqb-true f (length bytes) last in
        none_behind (drop n bytes) (at + n) rest (drop_all n bytes (omega (arith, size, all))) read
    behind found n rest is read false more =
        let size = found_length bytes at found n is in
        later (drop n bytes) (at + n) rest (AreBytes-drop n bytes each) read (ap (λ (k : ℕ). ends_in_record most (drop k bytes)) size.2 ∙ or_parts (f == length bytes) (ends_in_record most (drop f bytes)) tests.1 more)

    by : (r : Result (Option Usn × ℕ) UsnFault) → usn_in bytes at ≡ r → AreRecords bytes at entries
    by (Err fault) is = let refused = records_fault bytes at fault tests.0 is in absurd cc
    by (Ok (found, n)) is =
        let w = with_ok found (records_of (drop n bytes) (at + n)) entries (sym (records_next bytes at found n tests.0 is) ∙ e) in
        records_front bytes at found n w.0 entries (read_table bytes at found n each is) (behind found n w.0 is w.1 (f == length bytes) refl) w.2

owned_most : (most : ℕ) → OwnsRest most
owned_most zero bytes at entries each e ends = let none = no_step bytes in absurd cc
owned_most (suc most) bytes at entries each e ends = owned_by most (owned_most most) bytes at entries each e ends

pub owned_records : (bytes : List ℕ) (at : ℕ) (entries : List Usn) → AreBytes bytes → records_of bytes at ≡ Ok entries → ends_in_record (length bytes) bytes ≡ true → (0 < length bytes) × AreRecords bytes at entries
owned_records bytes at entries each e ends = (some bytes ends, owned_most (length bytes) bytes at entries each e ends)
  where
    some : (bytes : List ℕ) → ends_in_record (length bytes) bytes ≡ true → 0 < length bytes
    some [] ends = let none = no_step [] in absurd cc
    some (b ∷ bytes) ends = omega arith

-- ---- in a stream's page

module _ (byte : ℕ → ℕ) (first next : ℕ) (entries : List Usn) (each : (i : ℕ) → byte i < 256) (e : page_entries byte first next (next / page_size) ≡ Ok entries) where
  abbrev from : ℕ
  from = page_from first (next / page_size)

  abbrev bytes : List ℕ
  bytes = bytes_between byte from next

  page_read : records_of bytes from ≡ Ok entries
  unfolding page_entries
  page_read =
      let to : page_to next (next / page_size) ≡ next = omega arith in
      ap (λ (t : ℕ). records_of (bytes_between byte from t) from) (sym to) ∙ placed_ok (records_of (bytes_between byte from (page_to next (next / page_size))) from) entries e

  size : length bytes ≡ next - from
  unfolding bytes_between
  size = length-map-range_with_len byte from (next - from)

  pub page_to_records : is_owned byte first next ≡ true → (from < next) × AreRecords bytes from entries
  unfolding is_owned
  page_to_records ends = let found = owned_records bytes from entries (bytes_are byte from next each) page_read ends in (omega (arith, found.0, size), found.1)

  pub records_to_page : (from < next) × AreRecords bytes from entries → is_owned byte first next ≡ true
  unfolding is_owned
  records_to_page are = records_owned bytes from entries (omega (arith, are.0, size)) are.1
