-- The attribute lists of the first so many files, and what they name.
use Rattle.std.specs.Prelude.{◌≡◌, ℕ, Bool, true, false, not, ◌&&◌, ◌||◌, ◌==◌, if◌then◌else◌, List, [], ◌∷◌, ◌++◌, map, filter, drop, set, slice_index_or, length, Option, Some, None, Result, Ok}
use Rattle.std.specs.List.{flat_map, list_any, range_with_len}
use Rattle.stream_map.specs.disk_model.Content.{Content}
use Rattle.stream_map.specs.disk_model.declared.block.BlockKind.TheVariants.{FileRec}
use Rattle.record_model.specs.declared.attribute.Attr.{Attr}
use Rattle.stream_map.specs.declared.list_step.Step.{Step}
use Rattle.stream_map.specs.declared.list_step.Step.TheVariants.{End, Fault, Entry}
use Rattle.record_model.specs.declared.list_entry.ListEntry.{ListEntry}
use Rattle.record_model.specs.ListEntries.{ReadEntries, list_entries}
use Rattle.record_model.specs.Records.{Record}
use Rattle.state_model.specs.Files.{Table, file_at, reference}
use Rattle.state_model.specs.Streams.{has_cut_block}
use Rattle.state_model.specs.Loads.{no_entries, entries_of, holds_all, named_attrs, is_named_in, cuts_index, or_rule, table_in, unless, first_of, rule_refusal}
use Rattle.volume_model.specs.host_base.Answers.{◌>>=◌}
use Rattle.volume_model.specs.host_base.FileRefs.{same_reference}
use Rattle.state_model.specs.declared.geometry.MapRefusal.{MapRefusal}
use Rattle.state_model.specs.declared.stream.Extents.{Extents}
use Rattle.volume_map.specs.declared.list_read.ListRead.{ListRead}

abbrev pub read_of : ListRead → ReadEntries
read_of l = record { entries = l.entries.items; whole = l.whole }

abbrev pub with_more : List ListEntry → ReadEntries → ReadEntries
with_more entries read = record { entries = entries ++ read.entries; whole = read.whole }

-- one step of a list was taken: whether it goes on
abbrev pub Takes : Step → ListRead → ListRead → Bool → Type 0
Takes End old new more = (more ≡ false) × (read_of new ≡ read_of old)
Takes Fault old new more = (more ≡ false) × (read_of new ≡ record { entries = old.entries.items; whole = false })
Takes (Entry entry) old new more = (more ≡ true) × (read_of new ≡ record { entries = old.entries.items ++ entry ∷ []; whole = old.whole })

-- What was read of a list, with what stands from this place on, is what it was with what stood from the place before on;
-- where the list doesn't go on, nothing stands there.
abbrev pub GoesOn : List ℕ → ℕ → ℕ → ListRead → ListRead → Bool → Type 0
GoesOn bytes before now old new true = (old.whole ≡ true) → (new.whole ≡ true) × (with_more old.entries.items (list_entries (drop before bytes)) ≡ with_more new.entries.items (list_entries (drop now bytes)))
GoesOn bytes before now old new false = (old.whole ≡ true) → with_more old.entries.items (list_entries (drop before bytes)) ≡ read_of new

-- a list was read up to this place, if it goes on
abbrev pub ReadUpTo : List ℕ → ℕ → ListRead → Bool → Type 0
ReadUpTo bytes at list true = (list.whole ≡ true) × (list_entries bytes ≡ with_more list.entries.items (list_entries (drop at bytes)))
ReadUpTo bytes at list false = list_entries bytes ≡ read_of list

abbrev pub entries_or : Content → ℕ → Option Record → ReadEntries
entries_or c per None = no_entries
entries_or c per (Some r) = entries_of c per r

-- the entries of the attribute list of each file
unfoldable pub list_at : Content → ℕ → Table → ℕ → ReadEntries
list_at c per p n = entries_or c per (file_at p n)

unfoldable pub lists_of : Content → ℕ → Table → ℕ → List ReadEntries
lists_of c per p count = map (list_at c per p) (range_with_len 0 count)

-- the same of lists in memory
abbrev pub read_at : List ReadEntries → ℕ → ReadEntries
read_at lists n = slice_index_or lists n no_entries

-- rule 10 at a file, by what was read of its list
abbrev pub breaks_by : Table → ℕ → ReadEntries → Option Record → Bool
breaks_by p n read None = false
breaks_by p n read (Some r) = not (holds_all p n r read)

unfoldable pub ten_at : Table → List ReadEntries → ℕ → Bool
ten_at p lists n = breaks_by p n (read_at lists n) (file_at p n)

unfoldable pub tens_of : Table → List ReadEntries → ℕ → List Bool
tens_of p lists count = map (ten_at p lists) (range_with_len 0 count)

-- the attributes of record m that the list of file n names
abbrev pub named_at : List ReadEntries → Table → ℕ → Option Record → ℕ → List Attr
named_at lists p n None m = []
named_at lists p n (Some r) m = named_attrs (read_at lists n).entries n r m (p m)

-- the attributes of the records below a number that the list of file n names
unfoldable pub extra_at : List ReadEntries → Table → ℕ → ℕ → List Attr
extra_at lists p below n = flat_map (named_at lists p n (file_at p n)) (range_with_len 0 below)

unfoldable pub extras_of : List ReadEntries → Table → ℕ → ℕ → List (List Attr)
extras_of lists p below count = map (extra_at lists p below) (range_with_len 0 count)

-- the attributes of a record that a list names
abbrev pub named_of : ReadEntries → ℕ → Option Record → List Attr
named_of read m None = []
named_of read m (Some q) = filter (λ a. list_any (is_named_in m q a) read.entries) q.attrs

abbrev pub owner_if : ℕ → Record → ℕ → Option Record → Option ℕ
owner_if m q b None = None
owner_if m q b (Some r) = if not (m == b) && same_reference q.head.base (reference b r) then Some b else None

abbrev pub owner_of : Table → ℕ → Option Record → Option ℕ
owner_of p m None = None
owner_of p m (Some q) = owner_if m q q.head.base.number (file_at p q.head.base.number)

-- the file, other than itself, that the record of that number refers to
unfoldable pub owner_at : Table → ℕ → Option ℕ
owner_at p m = owner_of p m (p m)

-- the attributes of a record, which the list of the file that it refers to names, added to those of that file
abbrev pub with_named : List ReadEntries → ℕ → Option Record → Option ℕ → List (List Attr) → List (List Attr)
with_named lists m q None extras = extras
with_named lists m q (Some b) extras = set extras b (slice_index_or extras b [] ++ named_of (read_at lists b) m q)

-- a file with the attributes that its list names behind its own
abbrev pub joined_with : List Attr → Option Record → Option Record
joined_with extra None = None
joined_with extra (Some r) = Some (record { head = r.head; attrs = r.attrs ++ extra })

unfoldable pub joined_at : Table → List (List Attr) → ℕ → Option Record
joined_at p extras n = joined_with (slice_index_or extras n []) (file_at p n)

unfoldable pub joined_files : Table → List (List Attr) → ℕ → List (Option Record)
joined_files p extras count = map (joined_at p extras) (range_with_len 0 count)

-- the rule that a record breaks, by what was found of it
abbrev pub rule_by : ℕ → Bool → ℕ → List (Option ℕ) → List Bool → List (Option Record) → Option ℕ
rule_by per cut n rules tens files = or_rule (slice_index_or rules n None) (((n == 0) && cut) || cuts_index per (slice_index_or files n None)) (slice_index_or tens n false)

-- First the record that breaks a rule, then the files: by the records of a table, the rule of 1 to 8 that each breaks, and
-- what was read of their lists.
unfoldable pub judged_files : ℕ → Extents → List (Option Record) → List (Option ℕ) → List ReadEntries → Result (List (Option Record)) MapRefusal
judged_files per e records rules lists =
    let p = table_in records in
    let files = joined_files p (extras_of lists p (length records) (length records)) (length records) in
    unless (first_of (λ n. rule_refusal n (rule_by per (has_cut_block per FileRec (length records) e.runs) n rules (tens_of p lists (length records)) files)) (length records)) >>= λ _. Ok files
