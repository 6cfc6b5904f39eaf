-- What is written is read again.
use Rattle.std.specs.Prelude.{◌≡◌, ℕ, ◌<◌, ◌^◌, true, length, Ok}
use Rattle.disk_model.specs.Fixups.{is_in_shape, fixup_of, body_bytes}
use Rattle.record_model.specs.Records.{Record, record_at, record_spelling, FitsRecord}
use Rattle.fixup_record.specs.Protecting.{protected_bytes}

-- A record's spelling has 1,024 bytes and is read as the record. Its array is in shape, so that it can be protected by
-- any check word; the protected bytes answer that check word, and their body is the spelling.
pub record IsReadAgain (r : Record) : Type 0 where
  pub size : length (record_spelling r) ≡ 1024
  pub read : record_at (record_spelling r) ≡ Ok r
  pub shape : is_in_shape (record_spelling r) ≡ true
  pub answer : (check : ℕ) → check < 2 ^ 16 → fixup_of (protected_bytes (record_spelling r) check) ≡ Ok check
  pub body : (check : ℕ) → check < 2 ^ 16 → body_bytes (protected_bytes (record_spelling r) check) ≡ record_spelling r

abbrev pub WrittenIsRead : Type 0
WrittenIsRead = (r : Record) → FitsRecord r → IsReadAgain r
