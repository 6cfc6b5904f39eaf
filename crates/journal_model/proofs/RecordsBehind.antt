-- Records behind records, and zeros behind them.
use Rattle.std.proofs.Common.{◌≡◌, ℕ, ◌+◌, List, [], ◌∷◌, ◌++◌, length, Option, Some, None, Result, Ok, Err, refl, sym, ap, ◌∙◌, append_assoc, subst, arith}
use Rattle.std.proofs.lemmas.List.{append-nil, length-append, replicate-append-replicate}
use Rattle.std.proofs.lemmas.List.Elements.{filter_map-append}
use Rattle.record_model.specs.host_base.Answers.{◌>>=◌}
use Rattle.record_model.specs.disk_model.Bytes.{AreBytes, zeros}
use Rattle.file_tree.specs.declared.journal.Usn.{Usn}
use Rattle.journal_model.specs.declared.fault.UsnFault.{UsnFault}
use Rattle.journal_model.specs.UsnRecords.{usn_spelling, FitsUsn}
use Rattle.journal_model.specs.Pages.{with_entry, records_of, Piece, StandFrom, piece_bytes, piece_entries, HasRecords, AreRecords}
use Rattle.journal_model.proofs.UsnSpelled.{spelled_table}
use Rattle.journal_model.proofs.PageRead.{with_pieces, pieces_read, records_table, table_records}

pub one_record : (entry : Usn) → FitsUsn entry → AreRecords (usn_spelling entry) entry.usn (entry ∷ [])
one_record entry fits = record {
  pieces = record { bytes = usn_spelling entry; entry = Some entry } ∷ [];
  stand = ((spelled_table entry fits, refl), tt);
  whole = sym (append-nil (usn_spelling entry));
  entries_are = refl;
}

bytes_joined : (ps qs : List Piece) → piece_bytes (ps ++ qs) ≡ piece_bytes ps ++ piece_bytes qs
bytes_joined [] qs = refl
bytes_joined (p ∷ ps) qs = ap (λ (l : List ℕ). p.bytes ++ l) (bytes_joined ps qs) ∙ sym (append_assoc p.bytes (piece_bytes ps) (piece_bytes qs))

stand_joined : (ps qs : List Piece) (at : ℕ) → StandFrom at ps → StandFrom (at + length (piece_bytes ps)) qs → StandFrom at (ps ++ qs)
stand_joined [] qs at a b = let here : at + 0 ≡ at = omega arith in subst (λ (k : ℕ). StandFrom k qs) here b
stand_joined (p ∷ ps) qs at a b =
    let place : at + length (piece_bytes (p ∷ ps)) ≡ at + length p.bytes + length (piece_bytes ps) = omega (arith, length-append p.bytes (piece_bytes ps)) in
    (a.0, stand_joined ps qs (at + length p.bytes) a.1 (subst (λ (k : ℕ). StandFrom k qs) place b))

pub records_more : (xs ys : List ℕ) (at : ℕ) (entries others : List Usn) → AreRecords xs at entries → AreRecords ys (at + length xs) others → AreRecords (xs ++ ys) at (entries ++ others)
records_more xs ys at entries others a b = record {
  pieces = a.pieces ++ b.pieces;
  stand = stand_joined a.pieces b.pieces at a.stand (subst (λ (l : List ℕ). StandFrom (at + length l) b.pieces) a.whole b.stand);
  whole = ap (λ (l : List ℕ). l ++ ys) a.whole ∙ ap (λ (l : List ℕ). piece_bytes a.pieces ++ l) b.whole ∙ sym (bytes_joined a.pieces b.pieces);
  entries_are = filter_map-append (λ (p : Piece). p.entry) a.pieces b.pieces ∙ ap (λ (l : List Usn). l ++ piece_entries b.pieces) a.entries_are ∙ ap (λ (l : List Usn). entries ++ l) b.entries_are;
}

abbrev behind : List Usn → Result (List Usn) UsnFault → Result (List Usn) UsnFault
behind front r = r >>= λ entries. Ok (front ++ entries)

entry_behind : (found : Option Usn) (entries : List Usn) (pieces : List Piece) (bytes : List ℕ) (r : Result (List Usn) UsnFault)
    → with_entry found (behind (piece_entries pieces) r) ≡ behind (piece_entries (record { bytes = bytes; entry = found } ∷ pieces)) r
entry_behind None entries pieces bytes (Ok more) = refl
entry_behind None entries pieces bytes (Err fault) = refl
entry_behind (Some entry) entries pieces bytes (Ok more) = refl
entry_behind (Some entry) entries pieces bytes (Err fault) = refl

pieces_behind : (pieces : List Piece) (r : Result (List Usn) UsnFault) → with_pieces pieces r ≡ behind (piece_entries pieces) r
pieces_behind [] (Ok entries) = refl
pieces_behind [] (Err fault) = refl
pieces_behind (p ∷ pieces) r = ap (with_entry p.entry) (pieces_behind pieces r) ∙ entry_behind p.entry [] pieces p.bytes r

pub records_behind : (bytes rest : List ℕ) (at : ℕ) (entries : List Usn) → AreRecords bytes at entries → records_of (bytes ++ rest) at ≡ (records_of rest (at + length bytes) >>= λ behind. Ok (entries ++ behind))
records_behind bytes rest at entries a =
    pieces_read a.pieces at (bytes ++ rest) rest a.stand (ap (λ (l : List ℕ). l ++ rest) a.whole)
    ∙ pieces_behind a.pieces (records_of rest (at + length (piece_bytes a.pieces)))
    ∙ ap (λ (l : List ℕ). behind (piece_entries a.pieces) (records_of rest (at + length l))) (sym a.whole)
    ∙ ap (λ (l : List Usn). behind l (records_of rest (at + length bytes))) a.entries_are

zeros_joined : (m n : ℕ) → zeros m ++ zeros n ≡ zeros (m + n)
unfolding zeros
zeros_joined m n = replicate-append-replicate m n 0

pub zeros_behind : (bytes : List ℕ) (at n : ℕ) (entries : List Usn) → AreBytes bytes → records_of bytes at ≡ Ok entries → records_of (bytes ++ zeros n) at ≡ Ok entries
zeros_behind bytes at n entries each e =
    let h = records_table bytes at entries each e in
    let more : HasRecords (bytes ++ zeros n) at entries = record {
      pieces = h.pieces;
      stand = h.stand;
      count = h.count + n;
      whole = ap (λ (l : List ℕ). l ++ zeros n) h.whole ∙ append_assoc (piece_bytes h.pieces) (zeros h.count) (zeros n) ∙ ap (λ (l : List ℕ). piece_bytes h.pieces ++ l) (zeros_joined h.count n);
      entries_are = h.entries_are;
    } in
    table_records (bytes ++ zeros n) at entries more
