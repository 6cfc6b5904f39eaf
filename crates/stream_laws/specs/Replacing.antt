-- What the wholes of a volume become where files are replaced.
use Rattle.std.specs.Prelude.{◌≡◌, ◌≢◌, ℕ, ◌+◌, ◌<◌, List, [], ◌∷◌, length, slice_set, Option, ⊤}
use Rattle.std.specs.List.{sum_by, AllByRecursion}
use Rattle.volume_model.specs.host_base.declared.file_ref.FileRef.{FileRef}
use Rattle.volume_model.specs.record_model.Records.{Record}
use Rattle.volume_model.specs.file_tree.declared.link.Link.{Link}
use Rattle.volume_model.specs.state_model.Files.{Table, only_base, file_links, links_at}
use Rattle.volume_model.specs.state_model.Loads.{table_in}
use Rattle.volume_model.specs.state_model.Rules.{count_in, names_in}
use Rattle.volume_model.specs.Owners.{file_runs, volume_runs, uses}

-- ---- one file

-- the tables are the same but for the file with this number
abbrev pub SameBut : ℕ → Table → Table → Type 0
SameBut n p q = (m : ℕ) → m ≢ n → q m ≡ p m

-- there are as many files, and all are the same but for the one with this number
pub record OneFileDiffers (n : ℕ) (old new : List (Option Record)) : Type 0 where
  pub count : length new ≡ length old
  pub others : SameBut n (table_in old) (table_in new)

-- What there was and what the new file adds is what there is and what the old file took away.
pub record FileReplaced : Type 0 where
  pub clusters : (old new : List (Option Record)) (n x : ℕ) → OneFileDiffers n old new
      → uses (volume_runs new) x + uses (file_runs (table_in old n)) x ≡ uses (volume_runs old) x + uses (file_runs (table_in new n)) x
  pub names : (p q : Table) (directory : FileRef) (count n : ℕ) → n < count → SameBut n p q
      → names_in q directory count + count_in directory (links_at p n) ≡ names_in p directory count + count_in directory (links_at q n)

-- ---- several files at once

-- a file that is put in the place of the one with this number
pub record FileEdit : Type 0 where
  pub number : ℕ
  pub file : Option Record

-- the files after these edits
abbrev pub with_edits : List FileEdit → List (Option Record) → List (Option Record)
with_edits [] files = files
with_edits (e ∷ edits) files = with_edits edits (slice_set files e.number e.file)

abbrev pub LeaveNumber : ℕ → List FileEdit → Type 0
LeaveNumber n edits = AllByRecursion (λ e. e.number ≢ n) edits

-- each edit is of one of so many files, and no two are of the same file
abbrev pub AreEdits : ℕ → List FileEdit → Type 0
AreEdits count [] = ⊤
AreEdits count (e ∷ edits) = (e.number < count) × LeaveNumber e.number edits × AreEdits count edits

-- how often the edits take a cluster away, and how often they add it
abbrev pub clusters_lost : List (Option Record) → ℕ → List FileEdit → ℕ
clusters_lost files x edits = sum_by (λ e. uses (file_runs (table_in files e.number)) x) edits

abbrev pub clusters_gained : ℕ → List FileEdit → ℕ
clusters_gained x edits = sum_by (λ e. uses (file_runs e.file) x) edits

-- the names of the file that an edit puts in
abbrev pub edit_links : FileEdit → List Link
edit_links e = file_links e.number (only_base e.file)

-- how many names of a directory the edits take away, and how many they add
abbrev pub names_lost : List (Option Record) → FileRef → List FileEdit → ℕ
names_lost files directory edits = sum_by (λ e. count_in directory (links_at (table_in files) e.number)) edits

abbrev pub names_gained : FileRef → List FileEdit → ℕ
names_gained directory edits = sum_by (λ e. count_in directory (edit_links e)) edits

-- The edited files are those of the edits, and the others stay. What is there and what was lost is what there was and what
-- was gained.
pub record FilesReplaced : Type 0 where
  pub count : (files : List (Option Record)) (edits : List FileEdit) → length (with_edits edits files) ≡ length files
  pub edited : (files : List (Option Record)) (edits : List FileEdit) → AreEdits (length files) edits → AllByRecursion (λ e. table_in (with_edits edits files) e.number ≡ e.file) edits
  pub others : (files : List (Option Record)) (edits : List FileEdit) (n : ℕ) → LeaveNumber n edits → table_in (with_edits edits files) n ≡ table_in files n
  pub clusters : (files : List (Option Record)) (edits : List FileEdit) (x : ℕ) → AreEdits (length files) edits
      → uses (volume_runs (with_edits edits files)) x + clusters_lost files x edits ≡ uses (volume_runs files) x + clusters_gained x edits
  pub names : (files : List (Option Record)) (edits : List FileEdit) (directory : FileRef) → AreEdits (length files) edits
      → names_in (table_in (with_edits edits files)) directory (length files) + names_lost files directory edits ≡ names_in (table_in files) directory (length files) + names_gained directory edits
