-- The change journal of a volume: the file that holds it, its limits and its records.
use Rattle.std.specs.Prelude.{ℕ, ◌+◌, ◌*◌, ◌^◌, Bool, true, not, ◌&&◌, ◌||◌, ◌==◌, nat_le, if◌then◌else◌, List, [], ◌∷◌, find, Option, Some, None, Result, Ok, Err}
use Rattle.std.specs.List.{list_all, list_any}
use Rattle.volume_model.specs.host_base.Answers.{◌>>=◌, needs}
use Rattle.volume_model.specs.disk_model.Content.{Content}
use Rattle.journal_model.specs.record_model.declared.runs.Run.{Run}
use Rattle.journal_model.specs.record_model.declared.values.JournalMax.{JournalMax}
use Rattle.journal_model.specs.record_model.declared.values.ValueFault.{ValueFault}
use Rattle.journal_model.specs.record_model.StdValues.{journal_max_of}
use Rattle.journal_model.specs.record_model.Records.{Record}
use Rattle.journal_model.specs.record_model.Constants.{data_type}
use Rattle.volume_model.specs.file_tree.declared.journal.Journal.{Journal}
use Rattle.volume_model.specs.file_tree.declared.journal.Usn.{Usn}
use Rattle.volume_model.specs.file_tree.Walks.{child_in}
use Rattle.volume_model.specs.state_model.declared.stream.Extents.{Extents}
use Rattle.volume_model.specs.state_model.declared.stream.Stream.{Stream}
use Rattle.volume_model.specs.state_model.declared.stream.Stream.TheVariants.{Held, Placed}
use Rattle.volume_model.specs.state_model.Files.{is_sparse}
use Rattle.volume_model.specs.state_model.Trees.{all_links}
use Rattle.volume_model.specs.state_model.Streams.{attributes_of, stream_of, byte_at}
use Rattle.journal_model.specs.Journals.{journal_in, is_owned}
use Rattle.volume_model.specs.Volumes.{Volume, files_by_number, count_of, file_in}
use Rattle.volume_model.specs.Sizes.{is_hole}
use Rattle.volume_model.specs.Nodes.{first_flags}

-- ---- the file

-- $Extend
abbrev pub extend_file : ℕ
extend_file = 11

-- $UsnJrnl
unfoldable pub journal_name : List ℕ
journal_name = 0x24 ∷ 0x55 ∷ 0x73 ∷ 0x6E ∷ 0x4A ∷ 0x72 ∷ 0x6E ∷ 0x6C ∷ []

-- $Max
unfoldable pub limits_name : List ℕ
limits_name = 0x24 ∷ 0x4D ∷ 0x61 ∷ 0x78 ∷ []

-- $J
unfoldable pub entries_name : List ℕ
entries_name = 0x24 ∷ 0x4A ∷ []

abbrev pub file_or_none : Volume → Option ℕ → Option Record
file_or_none v None = None
file_or_none v (Some n) = file_in v n

-- the file that $UsnJrnl names in $Extend
unfoldable pub journal_file : List ℕ → Volume → Option Record
journal_file upper v = file_or_none v (child_in upper (all_links (files_by_number v) (count_of v)) extend_file journal_name)

-- ---- its limits

abbrev pub limits_or : Result JournalMax ValueFault → Result JournalMax ℕ
limits_or (Ok limits) = Ok limits
limits_or (Err fault) = Err 0

-- $Max is resident, and long enough
abbrev pub limits_in : Stream → Result JournalMax ℕ
limits_in (Held value) = limits_or (journal_max_of value)
limits_in (Placed e) = Err 0

-- ---- its records

-- a sparse run ends within so many bytes
abbrev pub ends_within : ℕ → ℕ → Run → Bool
ends_within per size r = not (is_hole r) || nat_le ((r.vcn + r.len) * (512 * per)) size

abbrev pub run_place : ℕ → ℕ → Option Run → ℕ
run_place per size None = size
run_place per size (Some r) = r.vcn * (512 * per)

-- where the journal begins: its first cluster that isn't sparse, or its end
unfoldable pub journal_first : ℕ → Extents → ℕ
journal_first per e = run_place per e.real (find (λ r. not (is_hole r)) e.runs)

-- $J is flagged sparse and initialised; its sparse runs end within its real size and before the journal's first byte, which
-- lies within it too; and it isn't too large
unfoldable pub has_journal_shape : ℕ → ℕ → Extents → Bool
has_journal_shape per flags e =
    is_sparse flags && e.initialised == e.real
    && list_all (ends_within per e.real) e.runs && list_all (ends_within per (journal_first per e)) e.runs && nat_le (journal_first per e) e.real
    && nat_le e.allocated (2 ^ 43)

-- $J is in clusters and in shape
abbrev pub entries_in : ℕ → ℕ → Stream → Result Extents ℕ
entries_in per flags (Held value) = Err 0
entries_in per flags (Placed e) = needs (has_journal_shape per flags e) 0 >>= λ _. Ok e

-- the records of $J, or the offset of the first at fault
unfoldable pub journal_entries : Content → ℕ → Extents → Result (List Usn) ℕ
journal_entries c per e = journal_in (byte_at c per e) (journal_first per e) e.real

-- whether a record of $J, of any version, owns the bytes before its end in their page
unfoldable pub journal_owned : Content → ℕ → Extents → Bool
journal_owned c per e = is_owned (byte_at c per e) (journal_first per e) e.real

-- ---- the journal

-- a journal with these limits, in these clusters, of these records
abbrev pub journal_with : Content → ℕ → JournalMax → Extents → List Usn → Journal
journal_with c per limits e entries = record {
  max = limits.max;
  delta = limits.delta;
  first = journal_first per e;
  next = e.real;
  reach = e.allocated;
  owned = journal_owned c per e;
  entries = entries;
}

abbrev pub journal_of_streams : Content → ℕ → ℕ → Option Stream → Option Stream → Result (Option Journal) ℕ
journal_of_streams c per flags None j = Ok None
journal_of_streams c per flags (Some max) None = Ok None
journal_of_streams c per flags (Some max) (Some j) =
    limits_in max
    >>= λ limits. entries_in per flags j
    >>= λ e. journal_entries c per e
    >>= λ entries. Ok (Some (journal_with c per limits e entries))

-- the flags of $J, which are those of its first piece
unfoldable pub entries_flags : Record → ℕ
entries_flags r = first_flags (attributes_of data_type entries_name r.attrs)

abbrev pub journal_of_file : Content → ℕ → Option Record → Result (Option Journal) ℕ
journal_of_file c per None = Ok None
journal_of_file c per (Some r) = journal_of_streams c per (entries_flags r) (stream_of data_type limits_name r.attrs) (stream_of data_type entries_name r.attrs)

-- The journal of a volume, if it has one: a file with both streams. Rule 9 is broken at 0 where one of them is out of
-- shape, else at the offset of the first record that is at fault.
unfoldable pub journal_of : Content → List ℕ → Volume → Result (Option Journal) ℕ
journal_of c upper v = journal_of_file c v.per (journal_file upper v)

abbrev pub fault_of : Result (Option Journal) ℕ → Option ℕ
fault_of (Ok journal) = None
fault_of (Err place) = Some place

abbrev pub some_journal : Result (Option Journal) ℕ → Option Journal
some_journal (Ok journal) = journal
some_journal (Err place) = None
