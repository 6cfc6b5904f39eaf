-- A worked record: file 26/1 in 25/1 with the name `f` was created and closed.
use Rattle.std.specs.Prelude.{◌≡◌, ℕ, pos, List, [], ◌∷◌, ◌++◌, Some, Ok}
use Rattle.record_model.specs.disk_model.Bytes.{zeros}
use Rattle.file_tree.specs.declared.journal.Usn.{Usn}
use Rattle.journal_model.specs.UsnRecords.{usn_at, usn_spelling}

abbrev pub worked_entry : Usn
worked_entry = record {
  usn = 64;
  child = record { number = 26; seq = 1 };
  parent = record { number = 25; seq = 1 };
  reason = 0x80000100;
  flags = 0x20;
  time = pos 1002;
  source = 0;
  security = 0;
  name = 0x66 ∷ [];
}

abbrev pub worked_bytes : List ℕ
worked_bytes =
    0x40 ∷ 0 ∷ 0 ∷ 0 ∷ 2 ∷ 0 ∷ 0 ∷ 0 ∷ 0x1A ∷ 0 ∷ 0 ∷ 0 ∷ 0 ∷ 0 ∷ 1 ∷ 0 ∷ 0x19 ∷ 0 ∷ 0 ∷ 0 ∷ 0 ∷ 0 ∷ 1 ∷ 0 ∷ 0x40 ∷ 0 ∷ 0 ∷ 0 ∷ 0 ∷ 0 ∷ 0 ∷ 0 ∷
    0xEA ∷ 3 ∷ 0 ∷ 0 ∷ 0 ∷ 0 ∷ 0 ∷ 0 ∷ 0 ∷ 1 ∷ 0 ∷ 0x80 ∷ 0 ∷ 0 ∷ 0 ∷ 0 ∷ 0 ∷ 0 ∷ 0 ∷ 0 ∷ 0x20 ∷ 0 ∷ 0 ∷ 0 ∷ 2 ∷ 0 ∷ 0x3C ∷ 0 ∷ 0x66 ∷ 0 ∷ 0 ∷ 0 ∷ []

-- it is written so, and is read in its page, after 64 zeros
pub record UsnVector : Type 0 where
  pub written : usn_spelling worked_entry ≡ worked_bytes
  pub read : usn_at (zeros 64 ++ worked_bytes) 64 ≡ Ok (Some worked_entry, 64)
