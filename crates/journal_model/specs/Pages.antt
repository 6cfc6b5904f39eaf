-- The records of a page of the change journal: whole records one behind the other, and then zeros.
use Rattle.std.specs.Prelude.{◌≡◌, ⊤, ℕ, zero, suc, ◌+◌, ◌==◌, ◌&&◌, ◌||◌, not, Bool, false, if◌then◌else◌, List, [], ◌∷◌, ◌++◌, length, map, drop, Option, Some, None, Result, Ok, Err}
use Rattle.std.specs.List.{concat, filter_map}
use Rattle.record_model.specs.host_base.Answers.{◌>>=◌}
use Rattle.record_model.specs.disk_model.Numbers.{field}
use Rattle.record_model.specs.disk_model.Bytes.{zeros, all_zeros}
use Rattle.file_tree.specs.declared.journal.Usn.{Usn}
use Rattle.journal_model.specs.declared.fault.UsnFault.{UsnFault}
use Rattle.journal_model.specs.UsnRecords.{page_rest, is_whole, usn_in, IsRecord}

-- ---- the reader

-- an entry before those behind it; a record of another version leaves none
abbrev pub with_entry : Option Usn → Result (List Usn) UsnFault → Result (List Usn) UsnFault
with_entry None behind = behind
with_entry (Some entry) behind = behind >>= λ entries. Ok (entry ∷ entries)

-- the entries of the records in these bytes, of so many at most, up to where only zeros are left; or the first fault
unfoldable pub records_in : ℕ → List ℕ → ℕ → Result (List Usn) UsnFault
records_in zero bytes at = Ok []
records_in (suc most) bytes at = if all_zeros bytes then Ok [] else (usn_in bytes at >>= λ found. with_entry found.0 (records_in most (drop found.1 bytes) (at + found.1)))

-- the same of all; each record has at least 8 bytes
unfoldable pub records_of : List ℕ → ℕ → Result (List Usn) UsnFault
records_of bytes at = records_in (length bytes) bytes at

-- the entries from this offset of the journal on to the end of its page's bytes, or the first fault
unfoldable pub page_records : List ℕ → ℕ → Result (List Usn) UsnFault
page_records page at = records_of (page_rest page at) at

-- Whether the last of the records in these bytes, of so many at most, ends where the bytes end. Else zeros that no record owns
-- stand there, or there are no bytes. A record of another version counts by its length. The law EndsAreRecords says by AreRecords
-- when this is so.
unfoldable pub ends_in_record : ℕ → List ℕ → Bool
ends_in_record zero bytes = false
ends_in_record (suc most) bytes = not (all_zeros bytes) && is_whole bytes && (field 0x00 4 bytes == length bytes || ends_in_record most (drop (field 0x00 4 bytes) bytes))

-- ---- the table

-- a record's bytes and its entry; one of another version has none
pub record Piece : Type 0 where
  pub bytes : List ℕ
  pub entry : Option Usn

-- the pieces are records that stand one behind the other, the first of them at this offset
abbrev pub StandFrom : ℕ → List Piece → Type 0
StandFrom at [] = ⊤
StandFrom at (p ∷ pieces) = IsRecord p.bytes at p.entry × StandFrom (at + length p.bytes) pieces

-- all their bytes
abbrev pub piece_bytes : List Piece → List ℕ
piece_bytes pieces = concat (map (λ (p : Piece). p.bytes) pieces)

-- all their entries
abbrev pub piece_entries : List Piece → List Usn
piece_entries pieces = filter_map (λ (p : Piece). p.entry) pieces

-- these bytes, which stand at this offset, are records with these entries, and zeros behind them
pub record HasRecords (bytes : List ℕ) (at : ℕ) (entries : List Usn) : Type 0 where
  pub pieces : List Piece
  pub stand : StandFrom at pieces
  pub count : ℕ
  pub whole : bytes ≡ piece_bytes pieces ++ zeros count
  pub entries_are : piece_entries pieces ≡ entries

-- these bytes, which stand at this offset, are records with these entries, and nothing else
pub record AreRecords (bytes : List ℕ) (at : ℕ) (entries : List Usn) : Type 0 where
  pub pieces : List Piece
  pub stand : StandFrom at pieces
  pub whole : bytes ≡ piece_bytes pieces
  pub entries_are : piece_entries pieces ≡ entries

-- behind records that stand as they should, the next one is refused
pub record HasFault (bytes : List ℕ) (at : ℕ) (fault : UsnFault) : Type 0 where
  pub pieces : List Piece
  pub stand : StandFrom at pieces
  pub rest : List ℕ
  pub whole : bytes ≡ piece_bytes pieces ++ rest
  pub some : all_zeros rest ≡ false
  pub refused : usn_in rest (at + length (piece_bytes pieces)) ≡ Err fault
