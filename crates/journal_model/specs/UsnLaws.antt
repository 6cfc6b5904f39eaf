-- The laws of records: the table against the reader, the spelling against both.
use Rattle.std.specs.Prelude.{◌≡◌, ◌≢◌, ◌↔◌, ℕ, true, List, ◌++◌, length, Option, Some, Ok, Err}
use Rattle.record_model.specs.disk_model.Bytes.{AreBytes}
use Rattle.file_tree.specs.declared.journal.Usn.{Usn}
use Rattle.journal_model.specs.declared.fault.UsnFault.TheVariants.{Cut, Shape}
use Rattle.journal_model.specs.UsnRecords.{page_rest, is_whole, usn_at, IsUsn, BeginsRecord, usn_spelling, FitsUsn}

-- no record begins in these bytes
abbrev pub BeginsNone : List ℕ → ℕ → Type 0
BeginsNone bytes at = (entry : Option Usn) (n : ℕ) → BeginsRecord bytes at entry n → ⊥

-- a record of bytes is read exactly where the table holds; bytes that don't reach its end come first
pub record UsnIsTable : Type 0 where
  pub read : (page : List ℕ) (at : ℕ) (entry : Option Usn) (n : ℕ) → AreBytes page → (usn_at page at ≡ Ok (entry, n)) ↔ BeginsRecord (page_rest page at) at entry n
  pub cut : (page : List ℕ) (at k : ℕ) → (usn_at page at ≡ Err (Cut k)) ↔ ((k ≡ at) × (is_whole (page_rest page at) ≢ true))
  pub shape : (page : List ℕ) (at k : ℕ) → AreBytes page → (usn_at page at ≡ Err (Shape k)) ↔ ((k ≡ at) × (is_whole (page_rest page at) ≡ true) × BeginsNone (page_rest page at) at)

-- what was written is read again, whatever stands behind it; an entry that is read has a spelling, and no other one
pub record UsnReadAgain : Type 0 where
  pub spelled : (entry : Usn) → FitsUsn entry → IsUsn (usn_spelling entry) entry
  pub read : (entry : Usn) (page rest : List ℕ) → FitsUsn entry → page_rest page entry.usn ≡ usn_spelling entry ++ rest → usn_at page entry.usn ≡ Ok (Some entry, length (usn_spelling entry))
  pub fits : (s : List ℕ) (entry : Usn) → AreBytes s → IsUsn s entry → FitsUsn entry
  pub only : (s : List ℕ) (entry : Usn) → AreBytes s → IsUsn s entry → s ≡ usn_spelling entry
