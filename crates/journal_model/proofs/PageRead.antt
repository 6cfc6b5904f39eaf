-- Pages of records: one record more, and the table against the reader.
use Rattle.std.proofs.Common.{◌≡◌, ℕ, zero, suc, ◌+◌, ◌%◌, ◌<◌, ◌≤◌, Bool, true, false, List, [], ◌∷◌, ◌++◌, length, take, drop, slice_index, Option, Some, None, Result, Ok, Err, refl, sym, ap, ◌∙◌, subst, arith}
use Rattle.std.specs.Prelude.{◌==◌, if◌then◌else◌}
use Rattle.std.specs.List.{list_all}
use Rattle.std.proofs.lemmas.Bool.{and_parts, eqb-true}
use Rattle.std.proofs.lemmas.List.{append_assoc, length-append, length-drop, length-take-le, take-append-drop, take_at, drop_at}
use Rattle.record_model.specs.host_base.Answers.{◌>>=◌}
use Rattle.record_model.specs.disk_model.Numbers.{field}
use Rattle.record_model.specs.disk_model.Bytes.{AreBytes, zeros, all_zeros}
use Rattle.record_model.proofs.disk_model.Fields.{field_same, AreBytes-drop}
use Rattle.record_model.proofs.Pieces.{AreBytes-take}
use Rattle.file_tree.specs.declared.journal.Usn.{Usn}
use Rattle.journal_model.specs.declared.fault.UsnFault.{UsnFault}
use Rattle.journal_model.specs.UsnRecords.{page_size, page_rest, usn_in, IsRecord, BeginsRecord}
use Rattle.journal_model.specs.Pages.{with_entry, records_in, records_of, page_records, Piece, StandFrom, piece_bytes, piece_entries, HasRecords, HasFault}
use Rattle.journal_model.proofs.UsnRead.{zeros_from_test, zeros_pass, found_length, read_table, table_read}

-- ---- one record more

abbrev pub step : Bool → Result (Option Usn × ℕ) UsnFault → (ℕ → Result (List Usn) UsnFault) → Result (List Usn) UsnFault
step ended found rest = if ended then Ok [] else (found >>= λ p. with_entry p.0 (rest p.1))

step_same : (ended : Bool) (r : Result (Option Usn × ℕ) UsnFault) (f g : ℕ → Result (List Usn) UsnFault) → ((found : Option Usn) (n : ℕ) → r ≡ Ok (found, n) → f n ≡ g n) → step ended r f ≡ step ended r g
step_same true r f g same = refl
step_same false (Ok (found, n)) f g same = ap (λ (x : Result (List Usn) UsnFault). with_entry found x) (same found n refl)
step_same false (Err fault) f g same = refl

none_left : (bytes : List ℕ) → length bytes ≤ 0 → bytes ≡ []
none_left [] le = refl
none_left (b ∷ bytes) le = absurd (omega arith)

empty_in : (most at : ℕ) → records_in most [] at ≡ Ok []
unfolding records_in all_zeros
empty_in zero at = refl
empty_in (suc most) at = refl

-- more steps than there are bytes change nothing
records_more : (m n : ℕ) (bytes : List ℕ) (at : ℕ) → length bytes ≤ m → length bytes ≤ n → records_in m bytes at ≡ records_in n bytes at
unfolding records_in
records_more zero n bytes at few less = ap (λ (l : List ℕ). records_in zero l at) (none_left bytes few) ∙ empty_in zero at ∙ sym (empty_in n at) ∙ ap (λ (l : List ℕ). records_in n l at) (sym (none_left bytes few))
records_more (suc m) zero bytes at few less = ap (λ (l : List ℕ). records_in (suc m) l at) (none_left bytes less) ∙ empty_in (suc m) at ∙ sym (empty_in zero at) ∙ ap (λ (l : List ℕ). records_in zero l at) (sym (none_left bytes less))
records_more (suc m) (suc n) bytes at few less =
    step_same (all_zeros bytes) (usn_in bytes at) (λ k. records_in m (drop k bytes) (at + k)) (λ k. records_in n (drop k bytes) (at + k)) (λ found k e.
    let size = found_length bytes at found k e in
    records_more m n (drop k bytes) (at + k) (omega (arith, size, length-drop k bytes)) (omega (arith, size, length-drop k bytes)))

-- the records of some bytes, by the one at their front
pub records_step : (bytes : List ℕ) (at : ℕ) → records_of bytes at ≡ step (all_zeros bytes) (usn_in bytes at) (λ n. records_of (drop n bytes) (at + n))
unfolding records_of records_in all_zeros
records_step [] at = refl
records_step (b ∷ bytes) at =
    step_same (all_zeros (b ∷ bytes)) (usn_in (b ∷ bytes) at) (λ k. records_in (length bytes) (drop k (b ∷ bytes)) (at + k)) (λ k. records_in (length (drop k (b ∷ bytes))) (drop k (b ∷ bytes)) (at + k)) (λ found k e.
    let size = found_length (b ∷ bytes) at found k e in
    records_more (length bytes) (length (drop k (b ∷ bytes))) (drop k (b ∷ bytes)) (at + k) (omega (arith, size, length-drop k (b ∷ bytes))) (omega arith))

step_ended : (z : Bool) (r : Result (Option Usn × ℕ) UsnFault) (f : ℕ → Result (List Usn) UsnFault) → z ≡ true → step z r f ≡ Ok []
step_ended true r f e = refl
step_ended false r f e = absurd cc

step_on : (z : Bool) (r : Result (Option Usn × ℕ) UsnFault) (f : ℕ → Result (List Usn) UsnFault) (found : Option Usn) (n : ℕ) → z ≡ false → r ≡ Ok (found, n) → step z r f ≡ with_entry found (f n)
step_on true r f found n z e = absurd cc
step_on false r f found n z e = ap (λ (x : Result (Option Usn × ℕ) UsnFault). step false x f) e

step_fault : (z : Bool) (r : Result (Option Usn × ℕ) UsnFault) (f : ℕ → Result (List Usn) UsnFault) (fault : UsnFault) → z ≡ false → r ≡ Err fault → step z r f ≡ Err fault
step_fault true r f fault z e = absurd cc
step_fault false r f fault z e = ap (λ (x : Result (Option Usn × ℕ) UsnFault). step false x f) e

-- where only zeros are left, the records end
pub records_end : (bytes : List ℕ) (at : ℕ) → all_zeros bytes ≡ true → records_of bytes at ≡ Ok []
records_end bytes at z = records_step bytes at ∙ step_ended (all_zeros bytes) (usn_in bytes at) (λ n. records_of (drop n bytes) (at + n)) z

-- a record comes before those behind it
pub records_next : (bytes : List ℕ) (at : ℕ) (found : Option Usn) (n : ℕ) → all_zeros bytes ≡ false → usn_in bytes at ≡ Ok (found, n) → records_of bytes at ≡ with_entry found (records_of (drop n bytes) (at + n))
records_next bytes at found n z e = records_step bytes at ∙ step_on (all_zeros bytes) (usn_in bytes at) (λ k. records_of (drop k bytes) (at + k)) found n z e

-- the first fault is the answer
pub records_fault : (bytes : List ℕ) (at : ℕ) (fault : UsnFault) → all_zeros bytes ≡ false → usn_in bytes at ≡ Err fault → records_of bytes at ≡ Err fault
records_fault bytes at fault z e = records_step bytes at ∙ step_fault (all_zeros bytes) (usn_in bytes at) (λ n. records_of (drop n bytes) (at + n)) fault z e

-- ---- from the reader to the table

abbrev pub entries_with : Option Usn → List Usn → List Usn
entries_with None entries = entries
entries_with (Some entry) entries = entry ∷ entries

pub with_ok : (found : Option Usn) (r : Result (List Usn) UsnFault) (entries : List Usn) → with_entry found r ≡ Ok entries → (rest : List Usn) × (r ≡ Ok rest) × (entries_with found rest ≡ entries)
with_ok None r entries e = (entries, e, refl)
with_ok (Some entry) (Ok rest) entries e = (rest, refl, cc)
with_ok (Some entry) (Err fault) entries e = absurd cc

with_err : (found : Option Usn) (r : Result (List Usn) UsnFault) (fault : UsnFault) → with_entry found r ≡ Err fault → r ≡ Err fault
with_err None r fault e = e
with_err (Some entry) (Ok rest) fault e = absurd cc
with_err (Some entry) (Err f) fault e = cc

abbrev pub piece : List ℕ → Option Usn → Piece
piece bytes entry = record { bytes = bytes; entry = entry }

pub entries_of_piece : (bytes : List ℕ) (found : Option Usn) (pieces : List Piece) → piece_entries (piece bytes found ∷ pieces) ≡ entries_with found (piece_entries pieces)
entries_of_piece bytes None pieces = refl
entries_of_piece bytes (Some entry) pieces = refl

-- a piece before those that stand behind it
pub more_pieces : (bytes : List ℕ) (at n : ℕ) (found : Option Usn) (pieces : List Piece) → BeginsRecord bytes at found n → StandFrom (at + n) pieces → StandFrom at (piece (take n bytes) found ∷ pieces)
more_pieces bytes at n found pieces b st = (b.own, subst (λ (k : ℕ). StandFrom (at + k) pieces) (sym (length-take-le n bytes b.inside)) st)

more_bytes : (bytes : List ℕ) (n : ℕ) (pieces : List Piece) (found : Option Usn) (rest : List ℕ) → drop n bytes ≡ piece_bytes pieces ++ rest → bytes ≡ piece_bytes (piece (take n bytes) found ∷ pieces) ++ rest
more_bytes bytes n pieces found rest e = sym (take-append-drop n bytes) ∙ ap (λ (l : List ℕ). take n bytes ++ l) e ∙ sym (append_assoc (take n bytes) (piece_bytes pieces) rest)

ends_alone : (at : ℕ) (bytes : List ℕ) → all_zeros bytes ≡ true → HasRecords bytes at []
ends_alone at bytes z = record { pieces = []; stand = tt; count = length bytes; whole = zeros_from_test bytes z; entries_are = refl }

-- a record in front of bytes that have records
records_behind : (bytes : List ℕ) (at : ℕ) (found : Option Usn) (n : ℕ) (rest entries : List Usn) → BeginsRecord bytes at found n → HasRecords (drop n bytes) (at + n) rest → entries_with found rest ≡ entries → HasRecords bytes at entries
records_behind bytes at found n rest entries b h e = record {
  pieces = piece (take n bytes) found ∷ h.pieces;
  stand = more_pieces bytes at n found h.pieces b h.stand;
  count = h.count;
  whole = more_bytes bytes n h.pieces found (zeros h.count) h.whole;
  entries_are = entries_of_piece (take n bytes) found h.pieces ∙ ap (entries_with found) h.entries_are ∙ e;
}

abbrev ReadsRest : ℕ → Type 0
ReadsRest most = (bytes : List ℕ) (at : ℕ) (entries : List Usn) → length bytes ≤ most → AreBytes bytes → records_of bytes at ≡ Ok entries → HasRecords bytes at entries

entries_of : Result (List Usn) UsnFault → List Usn
entries_of (Ok entries) = entries
entries_of (Err fault) = []

same_entries : (xs ys : List Usn) (r : Result (List Usn) UsnFault) → r ≡ Ok xs → r ≡ Ok ys → xs ≡ ys
same_entries xs ys r e f = cc

read_by : (bytes : List ℕ) (at : ℕ) (entries : List Usn) → ((k : ℕ) → k < length bytes → (rest : List ℕ) (place : ℕ) (more : List Usn) → length rest ≡ k → AreBytes rest → records_of rest place ≡ Ok more → HasRecords rest place more)
    → AreBytes bytes → records_of bytes at ≡ Ok entries → (z : Bool) → all_zeros bytes ≡ z → (r : Result (Option Usn × ℕ) UsnFault) → usn_in bytes at ≡ r → HasRecords bytes at entries
read_by bytes at entries later each e true z r is = subst (HasRecords bytes at) (same_entries [] entries (records_of bytes at) (records_end bytes at z) e) (ends_alone at bytes z)
read_by bytes at entries later each e false z (Err fault) is = let f = records_fault bytes at fault z is in absurd cc
read_by bytes at entries later each e false z (Ok (found, n)) is =
    let size = found_length bytes at found n is in
    let w = with_ok found (records_of (drop n bytes) (at + n)) entries (sym (records_next bytes at found n z is) ∙ e) in
    records_behind bytes at found n w.0 entries (read_table bytes at found n each is)
    (later (length (drop n bytes)) (omega (arith, size, length-drop n bytes)) (drop n bytes) (at + n) w.0 refl (AreBytes-drop n bytes each) w.1) w.2

reads_most : (most : ℕ) → ReadsRest most
unfolding zeros
reads_most zero bytes at entries few each e =
    let none = none_left bytes few in
    let z : all_zeros bytes ≡ true = ap all_zeros none ∙ zeros_pass 0 in
    subst (HasRecords bytes at) (same_entries [] entries (records_of bytes at) (records_end bytes at z) e) (ends_alone at bytes z)
reads_most (suc most) bytes at entries few each e =
    read_by bytes at entries (λ k lt rest place more size below is. reads_most most rest place more (omega arith) below is) each e (all_zeros bytes) refl (usn_in bytes at) refl

pub records_table : (bytes : List ℕ) (at : ℕ) (entries : List Usn) → AreBytes bytes → records_of bytes at ≡ Ok entries → HasRecords bytes at entries
records_table bytes at entries each e = reads_most (length bytes) bytes at entries (omega arith) each e

-- ---- what refuses a page

fault_here : (bytes : List ℕ) (at : ℕ) (fault : UsnFault) → all_zeros bytes ≡ false → usn_in bytes at ≡ Err fault → HasFault bytes at fault
fault_here bytes at fault z e = let here : at ≡ at + 0 = omega arith in record { pieces = []; stand = tt; rest = bytes; whole = refl; some = z; refused = ap (usn_in bytes) (sym here) ∙ e }

fault_behind : (bytes : List ℕ) (at : ℕ) (found : Option Usn) (n : ℕ) (fault : UsnFault) → BeginsRecord bytes at found n → HasFault (drop n bytes) (at + n) fault → HasFault bytes at fault
fault_behind bytes at found n fault b h =
    let size : length (take n bytes) ≡ n = length-take-le n bytes b.inside in
    let place : at + length (piece_bytes (piece (take n bytes) found ∷ h.pieces)) ≡ at + n + length (piece_bytes h.pieces) = omega (arith, size, length-append (take n bytes) (piece_bytes h.pieces)) in
    record {
      pieces = piece (take n bytes) found ∷ h.pieces;
      stand = more_pieces bytes at n found h.pieces b h.stand;
      rest = h.rest;
      whole = more_bytes bytes n h.pieces found h.rest h.whole;
      some = h.some;
      refused = ap (usn_in h.rest) place ∙ h.refused;
    }

fault_by : (bytes : List ℕ) (at : ℕ) (fault : UsnFault) → ((k : ℕ) → k < length bytes → (rest : List ℕ) (place : ℕ) → length rest ≡ k → AreBytes rest → records_of rest place ≡ Err fault → HasFault rest place fault)
    → AreBytes bytes → records_of bytes at ≡ Err fault → (z : Bool) → all_zeros bytes ≡ z → (r : Result (Option Usn × ℕ) UsnFault) → usn_in bytes at ≡ r → HasFault bytes at fault
fault_by bytes at fault later each e true z r is = let f = records_end bytes at z in absurd cc
fault_by bytes at fault later each e false z (Err other) is =
    let same : other ≡ fault = same_fault other fault (records_of bytes at) (records_fault bytes at other z is) e in
    fault_here bytes at fault z (is ∙ ap (λ (x : UsnFault). Err x) same)
  where
    same_fault : (x y : UsnFault) (r : Result (List Usn) UsnFault) → r ≡ Err x → r ≡ Err y → x ≡ y
    same_fault x y r e f = cc
fault_by bytes at fault later each e false z (Ok (found, n)) is =
    let size = found_length bytes at found n is in
    let w = with_err found (records_of (drop n bytes) (at + n)) fault (sym (records_next bytes at found n z is) ∙ e) in
    fault_behind bytes at found n fault (read_table bytes at found n each is)
    (later (length (drop n bytes)) (omega (arith, size, length-drop n bytes)) (drop n bytes) (at + n) refl (AreBytes-drop n bytes each) w)

faults_most : (most : ℕ) (bytes : List ℕ) (at : ℕ) (fault : UsnFault) → length bytes ≤ most → AreBytes bytes → records_of bytes at ≡ Err fault → HasFault bytes at fault
unfolding zeros
faults_most zero bytes at fault few each e =
    let z : all_zeros bytes ≡ true = ap all_zeros (none_left bytes few) ∙ zeros_pass 0 in
    let f = records_end bytes at z in absurd cc
faults_most (suc most) bytes at fault few each e =
    fault_by bytes at fault (λ k lt rest place size below is. faults_most most rest place fault (omega arith) below is) each e (all_zeros bytes) refl (usn_in bytes at) refl

pub faults_table : (bytes : List ℕ) (at : ℕ) (fault : UsnFault) → AreBytes bytes → records_of bytes at ≡ Err fault → HasFault bytes at fault
faults_table bytes at fault each e = faults_most (length bytes) bytes at fault (omega arith) each e

-- ---- from the table to the reader

zero_at : (xs : List ℕ) → all_zeros xs ≡ true → (i : ℕ) → slice_index xs i ≡ 0
unfolding all_zeros
zero_at [] z i = refl
zero_at (x ∷ xs) z zero = eqb-true _ _ (and_parts (x == 0) (list_all (λ b. b == 0) xs) z).0
zero_at (x ∷ xs) z (suc i) = zero_at xs (and_parts (x == 0) (list_all (λ b. b == 0) xs) z).1 i

no_number : field 0x00 4 (zeros 4) ≡ 0
unfolding field zeros
no_number = refl

zero_number : (xs : List ℕ) → all_zeros xs ≡ true → field 0x00 4 xs ≡ 0
zero_number xs z = field_same 0 0 4 xs (zeros 4) (λ k lt. zero_at xs z (0 + k) ∙ sym (zero_at (zeros 4) (zeros_pass 4) (0 + k))) ∙ no_number

not_zeros : (xs : List ℕ) (b : Bool) → all_zeros xs ≡ b → 0 < field 0x00 4 xs → all_zeros xs ≡ false
not_zeros xs false z some = z
not_zeros xs true z some = absurd (omega (arith, zero_number xs z))

pub record_some : (bytes : List ℕ) (at : ℕ) (found : Option Usn) (n : ℕ) → usn_in bytes at ≡ Ok (found, n) → all_zeros bytes ≡ false
record_some bytes at found n e = let size = found_length bytes at found n e in not_zeros bytes (all_zeros bytes) refl (omega (arith, size))

-- bytes that begin with a record's own are read
pub front_begins : (s rest bytes : List ℕ) (at : ℕ) (found : Option Usn) → IsRecord s at found → bytes ≡ s ++ rest → BeginsRecord bytes at found (length s)
front_begins s rest bytes at found is e =
    let front : take (length s) bytes ≡ s = ap (take (length s)) e ∙ take_at s rest (length s) refl in
    record { inside = omega (arith, ap length e, length-append s rest); own = subst (λ (x : List ℕ). IsRecord x at found) (sym front) is }

-- the records behind pieces that stand one behind the other
abbrev pub with_pieces : List Piece → Result (List Usn) UsnFault → Result (List Usn) UsnFault
with_pieces [] behind = behind
with_pieces (p ∷ pieces) behind = with_entry p.entry (with_pieces pieces behind)

pub pieces_read : (pieces : List Piece) (at : ℕ) (bytes rest : List ℕ) → StandFrom at pieces → bytes ≡ piece_bytes pieces ++ rest → records_of bytes at ≡ with_pieces pieces (records_of rest (at + length (piece_bytes pieces)))
pieces_read [] at bytes rest st e =
    let here : at ≡ at + 0 = omega arith in
    ap (λ (l : List ℕ). records_of l at) e ∙ ap (records_of rest) here
pieces_read (p ∷ pieces) at bytes rest st e =
    let front : bytes ≡ p.bytes ++ (piece_bytes pieces ++ rest) = e ∙ append_assoc p.bytes (piece_bytes pieces) rest in
    let found = table_read bytes at p.entry (length p.bytes) (front_begins p.bytes (piece_bytes pieces ++ rest) bytes at p.entry st.0 front) in
    let left : drop (length p.bytes) bytes ≡ piece_bytes pieces ++ rest = ap (drop (length p.bytes)) front ∙ drop_at p.bytes (piece_bytes pieces ++ rest) (length p.bytes) refl in
    let place : at + length p.bytes + length (piece_bytes pieces) ≡ at + length (piece_bytes (p ∷ pieces)) = omega (arith, length-append p.bytes (piece_bytes pieces)) in
    records_next bytes at p.entry (length p.bytes) (record_some bytes at p.entry (length p.bytes) found) found
    ∙ ap (with_entry p.entry) (pieces_read pieces (at + length p.bytes) (drop (length p.bytes) bytes) rest st.1 left)
    ∙ ap (λ (k : ℕ). with_entry p.entry (with_pieces pieces (records_of rest k))) place

pub all_read : (pieces : List Piece) → with_pieces pieces (Ok []) ≡ Ok (piece_entries pieces)
all_read [] = refl
all_read (p ∷ pieces) = ap (with_entry p.entry) (all_read pieces) ∙ one p.entry pieces
  where
    one : (found : Option Usn) (pieces : List Piece) → with_entry found (Ok (piece_entries pieces)) ≡ Ok (piece_entries (piece [] found ∷ pieces))
    one None pieces = refl
    one (Some entry) pieces = refl

none_read : (pieces : List Piece) (fault : UsnFault) → with_pieces pieces (Err fault) ≡ Err fault
none_read [] fault = refl
none_read (p ∷ pieces) fault = ap (with_entry p.entry) (none_read pieces fault) ∙ one p.entry fault
  where
    one : (found : Option Usn) (fault : UsnFault) → with_entry found (Err fault) ≡ Err fault
    one None fault = refl
    one (Some entry) fault = refl

pub table_records : (bytes : List ℕ) (at : ℕ) (entries : List Usn) → HasRecords bytes at entries → records_of bytes at ≡ Ok entries
table_records bytes at entries h =
    pieces_read h.pieces at bytes (zeros h.count) h.stand h.whole
    ∙ ap (with_pieces h.pieces) (records_end (zeros h.count) (at + length (piece_bytes h.pieces)) (zeros_pass h.count))
    ∙ all_read h.pieces
    ∙ ap (λ (l : List Usn). Ok l) h.entries_are

pub table_faults : (bytes : List ℕ) (at : ℕ) (fault : UsnFault) → HasFault bytes at fault → records_of bytes at ≡ Err fault
table_faults bytes at fault h =
    pieces_read h.pieces at bytes h.rest h.stand h.whole
    ∙ ap (with_pieces h.pieces) (records_fault h.rest (at + length (piece_bytes h.pieces)) fault h.some h.refused)
    ∙ none_read h.pieces fault

-- ---- of a page

module _ (page : List ℕ) (at : ℕ) where
  abbrev here : List ℕ
  here = page_rest page at

  pub page_table : (entries : List Usn) → AreBytes page → page_records page at ≡ Ok entries → HasRecords here at entries
  unfolding page_records
  page_table entries each e = records_table here at entries (AreBytes-drop (at % page_size) (take page_size page) (AreBytes-take page_size page each)) e

  pub table_page : (entries : List Usn) → HasRecords here at entries → page_records page at ≡ Ok entries
  unfolding page_records
  table_page entries h = table_records here at entries h

  pub page_refused : (fault : UsnFault) → AreBytes page → page_records page at ≡ Err fault → HasFault here at fault
  unfolding page_records
  page_refused fault each e = faults_table here at fault (AreBytes-drop (at % page_size) (take page_size page) (AreBytes-take page_size page each)) e

  pub refused_page : (fault : UsnFault) → HasFault here at fault → page_records page at ≡ Err fault
  unfolding page_records
  refused_page fault h = table_faults here at fault h
