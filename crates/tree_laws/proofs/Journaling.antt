-- The change journal where several files change.
use Rattle.std.proofs.Common.{◌≡◌, ℕ, Bool, false, ◌&&◌, List, [], ◌∷◌, ◌++◌, length, find, Option, Some, None, refl, sym, ap, ◌∙◌, inl, inr}
use Rattle.std.specs.Option.{option_or, option_map}
use Rattle.std.specs.List.{filter, flat_map, range_with_len}
use Rattle.std.proofs.lemmas.Bool.{cases_Bool}
use Rattle.std.proofs.lemmas.List.Elements.{filter-append}
use Rattle.volume_state.specs.disk_model.Content.{Content}
use Rattle.volume_state.specs.record_model.Records.{Record}
use Rattle.volume_state.specs.record_model.Constants.{data_type}
use Rattle.volume_state.specs.file_tree.declared.link.Link.{Link}
use Rattle.volume_state.specs.file_tree.Names.{same_units, same_name}
use Rattle.volume_state.specs.file_tree.Trees.{is_in, first_in_order, same_links, look_up}
use Rattle.volume_state.specs.file_tree.Walks.{child_in}
use Rattle.volume_state.specs.upcase_order.Tables.{upcase_of}
use Rattle.volume_state.specs.state_model.Files.{Table, only_base, file_at, links_at}
use Rattle.volume_state.specs.state_model.Loads.{table_in}
use Rattle.volume_state.specs.state_model.Trees.{all_links}
use Rattle.volume_state.specs.volume_model.Volumes.{Volume, count_of, file_in, file_stream, bytes_or, upcase_file, table_or_standard, upper_of}
use Rattle.volume_state.specs.Journals.{extend_file, journal_name, file_or_none, journal_file, journal_of_file, journal_of, fault_of, some_journal}
use Rattle.volume_state.specs.Rules.{broken_9}
use Rattle.volume_state.specs.Trees.{volume_journal}
use Rattle.stream_laws.specs.Rewrites.{with_files}
use Rattle.tree_laws.specs.Changed.{TouchesFiles}
use Rattle.tree_laws.specs.Contents.{SameUpper}
use Rattle.tree_laws.specs.Journal.{names_under, KeepsUnder, KeepsJournal}
use Rattle.tree_laws.specs.Parts.{journal_number}
use Rattle.tree_laws.proofs.Agreeing.{same_upper, same_journal}

-- ---- what a directory leads to

-- what passes two tests is what passes the second of what passes the first
in_two_steps : (p q : Link → Bool) (links : List Link) → filter (λ l. p l && q l) links ≡ filter q (filter p links)
in_two_steps p q [] = refl
in_two_steps p q (l ∷ links) = elim (cases_Bool (p l)) [
  | inl first ↦ elim (cases_Bool (q l)) [
    | inl second ↦ rw (first, second) (ap (λ (rest : List Link). l ∷ rest) (in_two_steps p q links))
    | inr fails ↦ rw (first, fails) (in_two_steps p q links)
  ]
  | inr fails ↦ rw fails (in_two_steps p q links)
]

under_all : (directory : ℕ) (p q : Table) (numbers : List ℕ) → KeepsUnder directory p q → names_under directory (flat_map (links_at q) numbers) ≡ names_under directory (flat_map (links_at p) numbers)
under_all directory p q [] keeps = refl
under_all directory p q (m ∷ numbers) keeps =
    filter-append (is_in directory) (links_at q m) (flat_map (links_at q) numbers)
    ∙ ap (λ (l : List Link). l ++ names_under directory (flat_map (links_at q) numbers)) (keeps m)
    ∙ ap (λ (l : List Link). names_under directory (links_at p m) ++ l) (under_all directory p q numbers keeps)
    ∙ sym (filter-append (is_in directory) (links_at p m) (flat_map (links_at p) numbers))

same_found_under : (upper : List ℕ) (directory : ℕ) (name : List ℕ) (old new : List Link) → names_under directory new ≡ names_under directory old → same_links upper new directory name ≡ same_links upper old directory name
unfolding same_links
same_found_under upper directory name old new same =
    let test : Link → Bool = λ l. same_name upper l.name name in
    in_two_steps (is_in directory) test new ∙ ap (filter test) same ∙ sym (in_two_steps (is_in directory) test old)

found_under : (upper : List ℕ) (directory : ℕ) (name : List ℕ) (old new : List Link) → names_under directory new ≡ names_under directory old → look_up upper new directory name ≡ look_up upper old directory name
unfolding look_up
found_under upper directory name old new same =
    ap (λ (links : List Link). option_or (find (λ l. same_units l.name name) links) (first_in_order upper links)) (same_found_under upper directory name old new same)

pub entry_kept : (old new : List (Option Record)) (upper : List ℕ) (directory : ℕ) (name : List ℕ) → length new ≡ length old → KeepsUnder directory (table_in old) (table_in new) → look_up upper (all_links (table_in new) (length new)) directory name ≡ look_up upper (all_links (table_in old) (length old)) directory name
unfolding all_links
entry_kept old new upper directory name count keeps =
    ap (λ (k : ℕ). look_up upper (flat_map (links_at (table_in new)) (range_with_len 0 k)) directory name) count
    ∙ found_under upper directory name _ _ (under_all directory (table_in old) (table_in new) (range_with_len 0 (length old)) keeps)

-- ---- the journal

number_kept : (v : Volume) (files : List (Option Record)) (upper : List ℕ) → length files ≡ count_of v → KeepsUnder extend_file (table_in v.files) (table_in files) → journal_number upper (with_files v files) ≡ journal_number upper v
unfolding child_in
number_kept v files upper count keeps = ap (option_map (λ (l : Link). l.child.number)) (entry_kept v.files files upper extend_file journal_name count keeps)

module _ (touched inside : ℕ → Bool) (c d : Content) (v : Volume) (files : List (Option Record)) (k : TouchesFiles touched inside v.files files) where
  same_file : (m : ℕ) → touched m ≡ false → file_in (with_files v files) m ≡ file_in v m
  unfolding file_at
  same_file m is = ap only_base (k.others m is)

  upper_same : touched upcase_file ≡ false → SameUpper c d v → upper_of d (with_files v files) ≡ upper_of c v
  unfolding upper_of
  upper_same untouched same =
      ap (λ (o : Option Record). table_or_standard (upcase_of (bytes_or d v.per (file_stream data_type [] o)))) (same_file upcase_file untouched)
      ∙ same_upper c d v same

  holder_by : (o : Option ℕ) → ((m : ℕ) → o ≡ Some m → touched m ≡ false) → file_or_none (with_files v files) o ≡ file_or_none v o
  holder_by None untouched = refl
  holder_by (Some m) untouched = same_file m (untouched m refl)

  holder_same : KeepsJournal touched c d v files → journal_file (upper_of c v) (with_files v files) ≡ journal_file (upper_of c v) v
  unfolding journal_file
  holder_same keeps = ap (file_or_none (with_files v files)) (number_kept v files (upper_of c v) k.count keeps.names) ∙ holder_by (journal_number (upper_of c v) v) keeps.holder

  journal_same : KeepsJournal touched c d v files → journal_of d (upper_of d (with_files v files)) (with_files v files) ≡ journal_of c (upper_of c v) v
  unfolding journal_of
  journal_same keeps =
      ap (λ (u : List ℕ). journal_of d u (with_files v files)) (upper_same keeps.upcase keeps.upper)
      ∙ ap (journal_of_file d v.per) (holder_same keeps)
      ∙ same_journal c d v (upper_of c v) keeps.entries

pub upper_kept : (touched inside : ℕ → Bool) (c d : Content) (v : Volume) (files : List (Option Record)) → TouchesFiles touched inside v.files files → touched upcase_file ≡ false → SameUpper c d v → upper_of d (with_files v files) ≡ upper_of c v
upper_kept touched inside c d v files k untouched same = upper_same touched inside c d v files k untouched same

pub same_journal_now : (touched inside : ℕ → Bool) (c d : Content) (v : Volume) (files : List (Option Record)) → TouchesFiles touched inside v.files files → KeepsJournal touched c d v files → journal_of d (upper_of d (with_files v files)) (with_files v files) ≡ journal_of c (upper_of c v) v
same_journal_now touched inside c d v files k keeps = journal_same touched inside c d v files k keeps

pub journal_9 : (touched inside : ℕ → Bool) (c d : Content) (v : Volume) (files : List (Option Record)) → TouchesFiles touched inside v.files files → KeepsJournal touched c d v files → broken_9 c v ≡ None → broken_9 d (with_files v files) ≡ None
unfolding broken_9
journal_9 touched inside c d v files k keeps none = ap fault_of (same_journal_now touched inside c d v files k keeps) ∙ none

pub tree_journal : (touched inside : ℕ → Bool) (c d : Content) (v : Volume) (files : List (Option Record)) → TouchesFiles touched inside v.files files → KeepsJournal touched c d v files → volume_journal d (with_files v files) ≡ volume_journal c v
unfolding volume_journal
tree_journal touched inside c d v files k keeps = ap some_journal (same_journal_now touched inside c d v files k keeps)
