-- The records that are read are those of the tree's journal.
use Rattle.std.proofs.Common.{◌≡◌, ℕ, Bool, true, false, not, List, Option, Some, None, Result, Ok, Err, refl, ap, subst}
use Rattle.host_base.specs.Answers.{◌>>=◌, needs}
use Rattle.disk_model.specs.Content.{Content}
use Rattle.record_model.specs.declared.values.JournalMax.{JournalMax}
use Rattle.record_model.specs.Records.{Record}
use Rattle.record_model.specs.Constants.{attribute_list, data_type}
use Rattle.file_tree.specs.declared.journal.Journal.{Journal}
use Rattle.file_tree.specs.declared.journal.Usn.{Usn}
use Rattle.file_tree.specs.declared.tree.Tree.{Tree}
use Rattle.state_model.specs.declared.broken.Broken.{Broken}
use Rattle.state_model.specs.declared.stream.Extents.{Extents}
use Rattle.state_model.specs.declared.stream.Stream.{Stream}
use Rattle.state_model.specs.Files.{has_type}
use Rattle.state_model.specs.Rules.{broken_or}
use Rattle.state_model.specs.Streams.{stream_of}
use Rattle.volume_model.specs.Volumes.{Volume, upper_of}
use Rattle.volume_state.specs.Journals.{limits_name, entries_name, limits_in, entries_in, entries_flags, journal_first, journal_file, journal_entries, journal_with, journal_of_streams, journal_of_file, journal_of, some_journal, fault_of}
use Rattle.volume_state.specs.Rules.{broken_1, broken_2, broken_3, broken_4, broken_5, broken_6, broken_7, broken_8, broken_9, first_broken}
use Rattle.volume_state.specs.Trees.{volume_journal, tree_with, tree_of, checked}
use Rattle.volume_state.proofs.Reports.{reports}
use Rattle.volume_mount.specs.usn_journal.Places.{in_shape, place_of_streams, place_of_file, journal_place}
use Rattle.volume_mount.specs.usn_journal.Pulls.{read_entries}
use Rattle.volume_mount.specs.image_open.declared.refusal.Refusal.TheVariants.{NoJournal}
use Rattle.volume_mount.specs.image_read.declared.reading.ReadJournal.{ReadJournal}
use Rattle.volume_mount.specs.image_read.Errors.{broken_refusal}
use Rattle.volume_mount.specs.image_read.Checks.{tree_on}
use Rattle.volume_mount.specs.image_read.Records.{place_on, records_in}
use Rattle.mount_access.specs.Laws.{records_of}
use Rattle.mount_access.proofs.Opened.{unrefused}

-- a journal was found, and the records that are read in these clusters are its own
abbrev HasOwn : Content → ℕ → Result (Option Journal) ℕ → Extents → Type 0
HasOwn c per found e = (j : Journal) × (some_journal found ≡ Some j) × (records_in c per e ≡ records_of j)

abbrev with_entries : Content → ℕ → JournalMax → Extents → Result (List Usn) ℕ → Result (Option Journal) ℕ
with_entries c per limits e read = read >>= λ entries. Ok (Some (journal_with c per limits e entries))

abbrev read_in : ℕ → Extents → Result (List Usn) ℕ → ReadJournal
read_in per e read = record { entries = read_entries read; first = journal_first per e; next = e.real }

made : (c : Content) (per : ℕ) (limits : JournalMax) (e : Extents) (read : Result (List Usn) ℕ) → journal_entries c per e ≡ read → fault_of (with_entries c per limits e read) ≡ None
    → HasOwn c per (with_entries c per limits e read) e
unfolding records_in
made c per limits e (Ok entries) is none = (journal_with c per limits e entries, refl, ap (read_in per e) is)
made c per limits e (Err place) is none = absurd cc

parts : (c : Content) (per : ℕ) (limits : Result JournalMax ℕ) (x : Result Extents ℕ) (e : Extents) → in_shape (limits >>= λ _. x) ≡ Ok e
    → fault_of (limits >>= λ l. x >>= λ f. with_entries c per l f (journal_entries c per f)) ≡ None → HasOwn c per (limits >>= λ l. x >>= λ f. with_entries c per l f (journal_entries c per f)) e
parts c per (Ok l) (Ok x) e place none =
    let same : x ≡ e = cc in
    subst (λ (f : Extents). HasOwn c per (with_entries c per l x (journal_entries c per x)) f) same (made c per l x (journal_entries c per x) refl none)
parts c per (Ok l) (Err p) e place none = absurd cc
parts c per (Err p) x e place none = absurd cc

streams : (c : Content) (per flags : ℕ) (max j : Option Stream) (e : Extents) → place_of_streams per flags max j ≡ Ok e → fault_of (journal_of_streams c per flags max j) ≡ None
    → HasOwn c per (journal_of_streams c per flags max j) e
streams c per flags None j e place none = absurd cc
streams c per flags (Some max) None e place none = absurd cc
streams c per flags (Some max) (Some j) e place none = parts c per (limits_in max) (entries_in per flags j) e place none

passed : (test : Bool) (x : Result Extents ℕ) (e : Extents) → (needs test 2 >>= λ _. x) ≡ Ok e → x ≡ Ok e
passed true x e is = is
passed false x e is = absurd cc

file : (c : Content) (per : ℕ) (r : Option Record) (e : Extents) → place_of_file per r ≡ Ok e → fault_of (journal_of_file c per r) ≡ None → HasOwn c per (journal_of_file c per r) e
file c per None e place none = absurd cc
file c per (Some r) e place none =
    let max = stream_of data_type limits_name r.attrs in
    let j = stream_of data_type entries_name r.attrs in
    streams c per (entries_flags r) max j e (passed (not (has_type attribute_list r)) (place_of_streams per (entries_flags r) max j) e place) none

-- ---- a volume that keeps its rules

later_none : (rule : ℕ) (o : Option ℕ) (rest : Option Broken) → broken_or rule o rest ≡ None → rest ≡ None
later_none rule None rest e = e
later_none rule (Some n) rest e = absurd cc

own_none : (rule : ℕ) (o : Option ℕ) (rest : Option Broken) → broken_or rule o rest ≡ None → o ≡ None
own_none rule None rest e = refl
own_none rule (Some n) rest e = absurd cc

ninth_none : (c : Content) (v : Volume) → first_broken c v ≡ None → broken_9 c v ≡ None
unfolding first_broken
ninth_none c v e =
    own_none 9 (broken_9 c v) None
    (later_none 8 (broken_8 v) _ (later_none 7 (broken_7 c v) _ (later_none 6 (broken_6 c v) _ (later_none 5 (broken_5 v) _
    (later_none 4 (broken_4 c v) _ (later_none 3 (broken_3 c v) _ (later_none 2 (broken_2 v) _ (later_none 1 (broken_1 v) _ e))))))))

volume : (c : Content) (v : Volume) (e : Extents) → journal_place (upper_of c v) v ≡ Ok e → broken_9 c v ≡ None → HasOwn c v.per (journal_of c (upper_of c v) v) e
unfolding journal_place journal_of broken_9
volume c v e place none = file c v.per (journal_file (upper_of c v) v) e place none

-- its tree has them
pub has_records : (c : Content) (v : Volume) (e : Extents) (t : Tree) → place_on c v ≡ Ok e → tree_on c v ≡ Ok t → (j : Journal) × ((tree_of c v).journal ≡ Some j) × (records_in c v.per e ≡ records_of j)
unfolding place_on tree_on tree_of tree_with volume_journal
has_records c v e t place tree =
    let report = reports c v t (unrefused broken_refusal (checked c v) t tree) in
    volume c v e (unrefused NoJournal (journal_place (upper_of c v) v) e place) (ninth_none c v report.1.kept)
