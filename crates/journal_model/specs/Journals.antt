-- The records of a stream that is a change journal, page after page. The stream is a byte at each offset.
use Rattle.std.specs.Prelude.{ℕ, ◌+◌, ◌-◌, ◌*◌, ◌/◌, max, min, Bool, List, [], ◌∷◌, ◌++◌, length, map, Result, Ok, Err}
use Rattle.std.specs.List.{range_with_len}
use Rattle.record_model.specs.host_base.Answers.{◌>>=◌}
use Rattle.file_tree.specs.declared.journal.Usn.{Usn}
use Rattle.journal_model.specs.declared.fault.UsnFault.{UsnFault}
use Rattle.journal_model.specs.declared.fault.UsnFault.TheVariants.{Cut, Shape, Memory}
use Rattle.journal_model.specs.UsnRecords.{page_size}
use Rattle.journal_model.specs.Pages.{records_of, ends_in_record}

-- the bytes of a stream from one offset on to another
unfoldable pub bytes_between : (ℕ → ℕ) → ℕ → ℕ → List ℕ
bytes_between byte from to = map byte (range_with_len from (to - from))

-- a fault by its offset alone
abbrev pub fault_place : UsnFault → ℕ
fault_place (Cut at) = at
fault_place (Shape at) = at
fault_place Memory = 0

abbrev pub placed : {X : Type 0} → Result X UsnFault → Result X ℕ
placed (Ok x) = Ok x
placed (Err fault) = Err (fault_place fault)

-- where the bytes of the k-th page begin that aren't before first, and where those end that are before next
abbrev pub page_from : ℕ → ℕ → ℕ
page_from first k = max first (page_size * k)

abbrev pub page_to : ℕ → ℕ → ℕ
page_to next k = min next (page_size * k + page_size)

-- the entries of the k-th page from first on and before next, or the offset of the first fault
unfoldable pub page_entries : (ℕ → ℕ) → ℕ → ℕ → ℕ → Result (List Usn) ℕ
page_entries byte first next k = placed (records_of (bytes_between byte (page_from first k) (page_to next k)) (page_from first k))

-- lists one behind the other, or the first fault
unfoldable pub joined : List (Result (List Usn) ℕ) → Result (List Usn) ℕ
joined [] = Ok []
joined (here ∷ behind) = here >>= λ entries. joined behind >>= λ more. Ok (entries ++ more)

-- so many pages hold what is before this offset
abbrev pub pages_before : ℕ → ℕ
pages_before next = (next + (page_size - 1)) / page_size

-- the entries of the pages from the k-th on, or the offset of the first fault
unfoldable pub journal_from : (ℕ → ℕ) → ℕ → ℕ → ℕ → Result (List Usn) ℕ
journal_from byte first next k = joined (map (page_entries byte first next) (range_with_len k (pages_before next - k)))

-- the entries of the stream from first on and before next, or the offset of the first fault
unfoldable pub journal_in : (ℕ → ℕ) → ℕ → ℕ → Result (List Usn) ℕ
journal_in byte first next = journal_from byte first next (first / page_size)

-- whether a record owns the bytes before next in its page, from first on: they end in one, rather than in zeros
unfoldable pub is_owned : (ℕ → ℕ) → ℕ → ℕ → Bool
is_owned byte first next = let bytes : List ℕ = bytes_between byte (page_from first (next / page_size)) next in ends_in_record (length bytes) bytes
