-- The records of a change journal from a position on.
use Rattle.std.specs.Prelude.{ℕ, ◌+◌, nat_le, List, [], ◌∷◌, filter, take, Result, Ok, Err}
use Rattle.host_base.specs.Answers.{◌>>=◌, needs}
use Rattle.disk_model.specs.Content.{Content}
use Rattle.file_tree.specs.declared.journal.Usn.{Usn}
use Rattle.record_rules.specs.state_model.declared.stream.Extents.{Extents}
use Rattle.journal_model.specs.UsnRecords.{usn_size}
use Rattle.volume_state.specs.Journals.{journal_first, journal_entries}
use Rattle.usn_journal.specs.declared.pulling.Pulled.{Pulled}
use Rattle.usn_journal.specs.declared.pull_fault.PullRefusal.{PullRefusal}
use Rattle.usn_journal.specs.declared.pull_fault.PullRefusal.TheVariants.{Trimmed, Ahead}

-- where a record ends, which begins at its USN
abbrev pub usn_end : Usn → ℕ
usn_end entry = entry.usn + usn_size entry

-- the records that begin at a position or after it
abbrev pub from_on : ℕ → List Usn → List Usn
from_on from entries = filter (λ (entry : Usn). nat_le from entry.usn) entries

-- where the last of these records ends; this place where there is none
abbrev pub end_of : ℕ → List Usn → ℕ
end_of next [] = next
end_of next (entry ∷ entries) = end_of (usn_end entry) entries

-- the records of a journal, as far as they are read
abbrev pub read_entries : Result (List Usn) ℕ → List Usn
read_entries (Ok entries) = entries
read_entries (Err place) = []

-- at most so many of the records from a position on, and where the last of them ends, or the journal where there is none
abbrev pub pulled_in : ℕ → ℕ → ℕ → List Usn → Pulled
pulled_in next from most entries = let some = take most (from_on from entries) in record { entries = some; end = end_of next some }

-- the same of a journal, or where it begins or ends, where the position lies before or after it
unfoldable pub pulled_of : Content → ℕ → Extents → ℕ → ℕ → Result Pulled PullRefusal
pulled_of c per e from most =
    needs (nat_le (journal_first per e) from) (Trimmed (journal_first per e)) >>= λ _. needs (nat_le from e.real) (Ahead e.real) >>= λ _. Ok (pulled_in e.real from most (read_entries (journal_entries c per e)))
