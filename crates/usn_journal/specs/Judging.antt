-- A journal that is judged, without its records.
use Rattle.std.specs.Prelude.{ℕ, Bool, List, Option, Some, Result, Ok, Err}
use Rattle.std.specs.Option.{option_map}
use Rattle.host_base.specs.Answers.{◌>>=◌}
use Rattle.disk_model.specs.Content.{Content}
use Rattle.volume_map.specs.record_model.declared.values.JournalMax.{JournalMax}
use Rattle.file_tree.specs.declared.journal.Journal.{Journal}
use Rattle.record_rules.specs.state_model.declared.stream.Extents.{Extents}
use Rattle.volume_map.specs.volume_model.Volumes.{Volume}
use Rattle.volume_state.specs.Journals.{journal_entries, journal_owned, journal_with, journal_of}
use Rattle.volume_state.specs.Trees.{without_records}

-- whether there is an answer, or its refusal
abbrev pub judged : {X : Type 0} → Result X ℕ → Result (Unit {0}) ℕ
judged (Ok x) = Ok tt
judged (Err place) = Err place

-- whether a record owns the bytes before the journal's end in their page, or the offset of the first record at fault
abbrev pub owned_in : Content → ℕ → Extents → Result Bool ℕ
owned_in c per e = judged (journal_entries c per e) >>= λ _. Ok (journal_owned c per e)

-- a journal without its records
abbrev pub bare : Result (Option Journal) ℕ → Result (Option Journal) ℕ
bare journal = journal >>= λ j. Ok (option_map without_records j)

-- the journal with these limits in these clusters, without its records, or the offset of the first at fault
abbrev pub journal_in_place : Content → ℕ → JournalMax → Extents → Result (Option Journal) ℕ
journal_in_place c per limits e = bare (journal_entries c per e >>= λ entries. Ok (Some (journal_with c per limits e entries)))

-- the journal of a volume without its records, if it has one, or the offset at which it is at fault
unfoldable pub bare_journal : Content → List ℕ → Volume → Result (Option Journal) ℕ
bare_journal c upper v = bare (journal_of c upper v)
