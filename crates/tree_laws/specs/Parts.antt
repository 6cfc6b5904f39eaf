-- The parts of a volume that don't read a file that is replaced.
use Rattle.std.specs.Prelude.{◌≡◌, ◌≢◌, ℕ, List, Option, Some}
use Rattle.volume_state.specs.disk_model.Content.{Content}
use Rattle.volume_state.specs.record_model.Records.{Record}
use Rattle.volume_state.specs.file_tree.Walks.{child_in}
use Rattle.volume_state.specs.state_model.Loads.{table_in}
use Rattle.volume_state.specs.state_model.Trees.{all_links}
use Rattle.volume_state.specs.volume_model.Volumes.{Volume, files_by_number, count_of, table_file, bitmap_file, upcase_file, record_bits, cluster_bits, upper_of}
use Rattle.volume_state.specs.volume_model.Nodes.{spare_numbers, free_clusters}
use Rattle.volume_state.specs.Journals.{extend_file, journal_name, journal_file, journal_of}
use Rattle.stream_laws.specs.Replacing.{OneFileDiffers}
use Rattle.stream_laws.specs.Rewrites.{with_files}
use Rattle.tree_laws.specs.Keeping.{KeepsNames}

-- the number of the file that $UsnJrnl names in $Extend
abbrev pub journal_number : List ℕ → Volume → Option ℕ
journal_number upper v = child_in upper (all_links (files_by_number v) (count_of v)) extend_file journal_name

-- The spare numbers stay where the file isn't $MFT, the free clusters where it isn't $Bitmap, the table of upper-case units
-- where it isn't $UpCase, and the change journal where it keeps its names and isn't the journal's file.
pub record PartsElsewhere : Type 0 where
  pub records : (c : Content) (v : Volume) (files : List (Option Record)) (n : ℕ) → OneFileDiffers n v.files files → n ≢ table_file → record_bits c (with_files v files) ≡ record_bits c v
  pub spare : (c : Content) (v : Volume) (files : List (Option Record)) (n : ℕ) → OneFileDiffers n v.files files → n ≢ table_file → spare_numbers c (with_files v files) ≡ spare_numbers c v
  pub clusters : (c : Content) (v : Volume) (files : List (Option Record)) (n : ℕ) → OneFileDiffers n v.files files → n ≢ bitmap_file → cluster_bits c (with_files v files) ≡ cluster_bits c v
  pub room : (c : Content) (v : Volume) (files : List (Option Record)) (n : ℕ) → OneFileDiffers n v.files files → n ≢ bitmap_file → free_clusters c (with_files v files) ≡ free_clusters c v
  pub upper : (c : Content) (v : Volume) (files : List (Option Record)) (n : ℕ) → OneFileDiffers n v.files files → n ≢ upcase_file → upper_of c (with_files v files) ≡ upper_of c v
  pub holder : (v : Volume) (files : List (Option Record)) (upper : List ℕ) (n : ℕ) → OneFileDiffers n v.files files → KeepsNames n (table_in v.files) (table_in files) → journal_number upper v ≢ Some n → journal_file upper (with_files v files) ≡ journal_file upper v
  pub journal : (c : Content) (v : Volume) (files : List (Option Record)) (upper : List ℕ) (n : ℕ) → OneFileDiffers n v.files files → KeepsNames n (table_in v.files) (table_in files) → journal_number upper v ≢ Some n → journal_of c upper (with_files v files) ≡ journal_of c upper v
