-- The change journal where several files change, none of which is the journal's.
use Rattle.std.specs.Prelude.{◌≡◌, ℕ, Bool, false, List, length, filter, Option, Some, None}
use Rattle.volume_state.specs.disk_model.Content.{Content}
use Rattle.volume_state.specs.record_model.Records.{Record}
use Rattle.volume_state.specs.file_tree.declared.link.Link.{Link}
use Rattle.volume_state.specs.file_tree.Trees.{is_in, look_up}
use Rattle.volume_state.specs.state_model.Files.{Table, links_at}
use Rattle.volume_state.specs.state_model.Loads.{table_in}
use Rattle.volume_state.specs.state_model.Trees.{all_links}
use Rattle.volume_state.specs.volume_model.Volumes.{Volume, upcase_file, upper_of}
use Rattle.volume_state.specs.Journals.{extend_file, journal_of}
use Rattle.volume_state.specs.Rules.{broken_9}
use Rattle.volume_state.specs.Trees.{volume_journal}
use Rattle.stream_laws.specs.Rewrites.{with_files}
use Rattle.tree_laws.specs.Changed.{TouchesFiles}
use Rattle.tree_laws.specs.Contents.{SameUpper, SameEntries}
use Rattle.tree_laws.specs.Parts.{journal_number}

-- those of a file's names that stand in the directory with this number
abbrev pub names_under : ℕ → List Link → List Link
names_under directory links = filter (is_in directory) links

-- each file has the same names in the directory with this number
abbrev pub KeepsUnder : ℕ → Table → Table → Type 0
KeepsUnder directory p q = (m : ℕ) → names_under directory (links_at q m) ≡ names_under directory (links_at p m)

-- No touched file is the journal's, $UpCase isn't touched, each file keeps its names in $Extend, and the contents have the same table
-- of upper-case units and the same bytes in the records of the journal.
pub record KeepsJournal (touched : ℕ → Bool) (c d : Content) (v : Volume) (files : List (Option Record)) : Type 0 where
  pub names : KeepsUnder extend_file (table_in v.files) (table_in files)
  pub holder : (m : ℕ) → journal_number (upper_of c v) v ≡ Some m → touched m ≡ false
  pub upcase : touched upcase_file ≡ false
  pub upper : SameUpper c d v
  pub entries : SameEntries c d (upper_of c v) v

-- What a directory in which each file keeps its names leads to stays. Then the journal stays, and rule 9 is kept.
pub record JournalKept : Type 0 where
  pub entry : (old new : List (Option Record)) (upper : List ℕ) (directory : ℕ) (name : List ℕ) → length new ≡ length old → KeepsUnder directory (table_in old) (table_in new)
      → look_up upper (all_links (table_in new) (length new)) directory name ≡ look_up upper (all_links (table_in old) (length old)) directory name
  pub upper : (touched inside : ℕ → Bool) (c d : Content) (v : Volume) (files : List (Option Record)) → TouchesFiles touched inside v.files files → touched upcase_file ≡ false → SameUpper c d v → upper_of d (with_files v files) ≡ upper_of c v
  pub journal : (touched inside : ℕ → Bool) (c d : Content) (v : Volume) (files : List (Option Record)) → TouchesFiles touched inside v.files files → KeepsJournal touched c d v files
      → journal_of d (upper_of d (with_files v files)) (with_files v files) ≡ journal_of c (upper_of c v) v
  pub rule_9 : (touched inside : ℕ → Bool) (c d : Content) (v : Volume) (files : List (Option Record)) → TouchesFiles touched inside v.files files → KeepsJournal touched c d v files → broken_9 c v ≡ None → broken_9 d (with_files v files) ≡ None
  pub tree : (touched inside : ℕ → Bool) (c d : Content) (v : Volume) (files : List (Option Record)) → TouchesFiles touched inside v.files files → KeepsJournal touched c d v files → volume_journal d (with_files v files) ≡ volume_journal c v
