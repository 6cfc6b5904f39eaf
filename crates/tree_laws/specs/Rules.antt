-- The rules of a volume at numbers other than that of a file that is replaced.
use Rattle.std.specs.Prelude.{◌≡◌, ◌≢◌, ℕ, false, List, Option, Some}
use Rattle.volume_state.specs.disk_model.Content.{Content}
use Rattle.volume_state.specs.record_model.Records.{Record}
use Rattle.volume_state.specs.state_model.Files.{Table, file_at, is_directory_record}
use Rattle.volume_state.specs.state_model.Loads.{table_in}
use Rattle.volume_state.specs.state_model.Rules.{keeps_1, keeps_2, keeps_8}
use Rattle.volume_state.specs.volume_model.Volumes.{Volume, table_file}
use Rattle.volume_state.specs.volume_model.Indexes.{keeps_index}
use Rattle.volume_state.specs.volume_model.Sizes.{keeps_sizes}
use Rattle.volume_state.specs.volume_model.Owners.{keeps_record_bit}
use Rattle.stream_laws.specs.Replacing.{SameBut, OneFileDiffers}
use Rattle.stream_laws.specs.Rewrites.{with_files}
use Rattle.tree_laws.specs.Keeping.{KeepsNames, KeepsDirectory, is_directory_file}

-- A file that is no directory before and after keeps being none, and so does a directory that keeps its sequence. Rules 1 and 4
-- stay at other numbers; rule 2 where it keeps being a directory or not, 3 and 8 where it keeps its names, 7 where it isn't
-- $MFT. Where it keeps both, rules 2 and 8 stay at its own number.
pub record RulesElsewhere : Type 0 where
  pub neither : (p q : Table) (n : ℕ) → is_directory_file (file_at p n) ≡ false → is_directory_file (file_at q n) ≡ false → KeepsDirectory n p q
  pub both : (p q : Table) (n : ℕ) (r s : Record) → file_at p n ≡ Some r → file_at q n ≡ Some s → s.head.seq ≡ r.head.seq → is_directory_record s ≡ is_directory_record r → KeepsDirectory n p q
  pub names : (p q : Table) (n m : ℕ) → SameBut n p q → m ≢ n → keeps_1 q m ≡ keeps_1 p m
  pub directories : (p q : Table) (n m : ℕ) → SameBut n p q → KeepsDirectory n p q → m ≢ n → keeps_2 q m ≡ keeps_2 p m
  pub own_directories : (p q : Table) (n : ℕ) → SameBut n p q → KeepsDirectory n p q → KeepsNames n p q → keeps_2 q n ≡ keeps_2 p n
  pub index : (c : Content) (v : Volume) (files : List (Option Record)) (upper : List ℕ) (n m : ℕ) → OneFileDiffers n v.files files → KeepsNames n (table_in v.files) (table_in files) → m ≢ n
      → keeps_index c (with_files v files) upper m ≡ keeps_index c v upper m
  pub sizes : (c : Content) (v : Volume) (files : List (Option Record)) (n m : ℕ) → OneFileDiffers n v.files files → m ≢ n → keeps_sizes c (with_files v files) m ≡ keeps_sizes c v m
  pub record_bit : (c : Content) (v : Volume) (files : List (Option Record)) (n m : ℕ) → OneFileDiffers n v.files files → n ≢ table_file → keeps_record_bit c (with_files v files) m ≡ keeps_record_bit c v m
  pub way_up : (p q : Table) (n count m : ℕ) → SameBut n p q → KeepsNames n p q → m ≢ n → keeps_8 q count m ≡ keeps_8 p count m
  pub own_way_up : (p q : Table) (n count : ℕ) → SameBut n p q → KeepsNames n p q → is_directory_file (file_at q n) ≡ is_directory_file (file_at p n) → keeps_8 q count n ≡ keeps_8 p count n
