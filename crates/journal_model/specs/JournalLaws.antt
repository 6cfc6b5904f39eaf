-- The laws of pages and of journals.
use Rattle.std.specs.Prelude.{◌≡◌, ◌↔◌, ℕ, ◌*◌, ◌/◌, ◌+◌, ◌<◌, true, ◌≤◌, List, [], ◌∷◌, ◌++◌, length, min, Ok, Err}
use Rattle.record_model.specs.host_base.Answers.{◌>>=◌}
use Rattle.record_model.specs.disk_model.Bytes.{AreBytes, zeros}
use Rattle.file_tree.specs.declared.journal.Usn.{Usn}
use Rattle.journal_model.specs.declared.fault.UsnFault.{UsnFault}
use Rattle.journal_model.specs.UsnRecords.{page_size, page_rest, usn_spelling, FitsUsn}
use Rattle.journal_model.specs.Pages.{page_records, records_of, ends_in_record, HasRecords, AreRecords, HasFault}
use Rattle.journal_model.specs.Journals.{bytes_between, page_from, page_entries, pages_before, journal_from, journal_in, is_owned}

-- a page is read exactly where it is records and then zeros, and refused exactly at the first record that is refused
pub record PageIsTable : Type 0 where
  pub read : (page : List ℕ) (at : ℕ) (entries : List Usn) → AreBytes page → (page_records page at ≡ Ok entries) ↔ HasRecords (page_rest page at) at entries
  pub refused : (page : List ℕ) (at : ℕ) (fault : UsnFault) → AreBytes page → (page_records page at ≡ Err fault) ↔ HasFault (page_rest page at) at fault

-- Of bytes that are read, the last record ends where they end exactly where they are records, at least one, and nothing else.
pub record EndsAreRecords : Type 0 where
  pub owned : (bytes : List ℕ) (at : ℕ) (entries : List Usn) → AreBytes bytes → records_of bytes at ≡ Ok entries → (ends_in_record (length bytes) bytes ≡ true) ↔ ((0 < length bytes) × AreRecords bytes at entries)
  -- a stream's page before next is such bytes
  pub page : (byte : ℕ → ℕ) (first next : ℕ) (entries : List Usn) → ((i : ℕ) → byte i < 256) → page_entries byte first next (next / page_size) ≡ Ok entries
      → (is_owned byte first next ≡ true) ↔ ((page_from first (next / page_size) < next) × AreRecords (bytes_between byte (page_from first (next / page_size)) next) (page_from first (next / page_size)) entries)

-- records that stand one behind the other are read one behind the other
pub record RecordsJoin : Type 0 where
  -- what is written is such records
  pub one : (entry : Usn) → FitsUsn entry → AreRecords (usn_spelling entry) entry.usn (entry ∷ [])
  pub more : (xs ys : List ℕ) (at : ℕ) (entries others : List Usn) → AreRecords xs at entries → AreRecords ys (at + length xs) others → AreRecords (xs ++ ys) at (entries ++ others)
  -- and whatever stands behind them is read as it is
  pub joined : (bytes rest : List ℕ) (at : ℕ) (entries : List Usn) → AreRecords bytes at entries → records_of (bytes ++ rest) at ≡ (records_of rest (at + length bytes) >>= λ behind. Ok (entries ++ behind))
  -- zeros behind bytes that are read add nothing
  pub filled : (bytes : List ℕ) (at n : ℕ) (entries : List Usn) → AreBytes bytes → records_of bytes at ≡ Ok entries → records_of (bytes ++ zeros n) at ≡ Ok entries

-- a journal is read page by page
pub record JournalIsPages : Type 0 where
  -- the entries from a page on are its own, and those of the pages behind it
  pub next : (byte : ℕ → ℕ) (first next k : ℕ) → k < pages_before next → journal_from byte first next k ≡ (page_entries byte first next k >>= λ here. journal_from byte first next (k + 1) >>= λ behind. Ok (here ++ behind))
  -- there are none behind the last page
  pub last : (byte : ℕ → ℕ) (first next k : ℕ) → pages_before next ≤ k → journal_from byte first next k ≡ Ok []
  -- bytes outside it don't count
  pub same : (byte byte' : ℕ → ℕ) (first next : ℕ) → ((i : ℕ) → first ≤ i → i < next → byte i ≡ byte' i) → journal_in byte first next ≡ journal_in byte' first next
  -- a page's bytes are read from an offset on as those that stand there, up to the page's end
  pub from : (byte : ℕ → ℕ) (k at to : ℕ) → page_size * k ≤ at → at < page_size * k + page_size → page_records (bytes_between byte (page_size * k) to) at ≡ records_of (bytes_between byte at (min to (page_size * k + page_size))) at
  -- a journal is that before the begin of a page, and that from there on
  pub split : (byte : ℕ → ℕ) (first next k : ℕ) → first ≤ page_size * k → page_size * k ≤ next → journal_in byte first next ≡ (journal_in byte first (page_size * k) >>= λ front. journal_in byte (page_size * k) next >>= λ behind. Ok (front ++ behind))
  -- zeros behind a journal that is read add nothing
  pub filled : (byte : ℕ → ℕ) (first next next' : ℕ) (entries : List Usn) → ((i : ℕ) → byte i < 256) → next ≤ next' → ((i : ℕ) → next ≤ i → i < next' → byte i ≡ 0) → journal_in byte first next ≡ Ok entries → journal_in byte first next' ≡ Ok entries
