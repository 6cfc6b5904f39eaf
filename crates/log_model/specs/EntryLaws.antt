-- The laws of entries: the table against the reader, the spelling against both.
use Rattle.std.specs.Prelude.{◌≡◌, ◌↔◌, ◌≤◌, ℕ, List, ◌++◌, length, take, Ok}
use Rattle.disk_model.specs.Bytes.{AreBytes}
use Rattle.log_model.specs.declared.entry.Entry.{Entry}
use Rattle.log_model.specs.Entries.{entry_at, entry_size, entry_spelling, IsEntry, FitsEntry}

-- these bytes begin with the entry
pub record BeginsEntry (bytes : List ℕ) (e : Entry) : Type 0 where
  pub inside : entry_size e ≤ length bytes
  pub own : IsEntry (take (entry_size e) bytes) e

-- an entry is read exactly where the table holds; what is read has a spelling
pub record EntryIsTable : Type 0 where
  pub read : (bytes : List ℕ) (e : Entry) → (entry_at bytes ≡ Ok e) ↔ BeginsEntry bytes e
  pub fits : (bytes : List ℕ) (e : Entry) → AreBytes bytes → entry_at bytes ≡ Ok e → FitsEntry e

-- what was written is read again, whatever stands after it
pub record EntryReadAgain : Type 0 where
  pub size : (e : Entry) → FitsEntry e → length (entry_spelling e) ≡ entry_size e
  pub spelled : (e : Entry) → FitsEntry e → IsEntry (entry_spelling e) e
  pub read : (e : Entry) (rest : List ℕ) → FitsEntry e → entry_at (entry_spelling e ++ rest) ≡ Ok e
