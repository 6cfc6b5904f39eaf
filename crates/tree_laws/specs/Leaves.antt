-- What stays of a volume where a file is replaced in which no other file has a name: one that is made, goes, or gets other
-- names.
use Rattle.std.specs.Prelude.{◌≡◌, ◌≢◌, ℕ, false, List, [], length, filter, Option, Some, None}
use Rattle.std.specs.List.{cons_option}
use Rattle.volume_state.specs.host_base.declared.file_ref.FileRef.{FileRef}
use Rattle.volume_state.specs.host_base.FileRefs.{same_reference}
use Rattle.volume_state.specs.disk_model.Content.{Content}
use Rattle.volume_state.specs.record_model.Records.{Record}
use Rattle.volume_state.specs.file_tree.declared.link.Link.{Link}
use Rattle.volume_state.specs.file_tree.Trees.{look_up}
use Rattle.volume_state.specs.state_model.declared.stream.Stream.{Stream}
use Rattle.volume_state.specs.state_model.Files.{Table, links_at, reference}
use Rattle.volume_state.specs.state_model.Loads.{table_in}
use Rattle.volume_state.specs.state_model.Rules.{keeps_2, names_in, keeps_8}
use Rattle.volume_state.specs.state_model.Trees.{all_links}
use Rattle.volume_state.specs.volume_model.Volumes.{Volume, files_by_number, count_of, file_in}
use Rattle.volume_state.specs.volume_model.Indexes.{keeps_index}
use Rattle.volume_state.specs.volume_model.Nodes.{kind_in, node_at, nodes_by}
use Rattle.volume_state.specs.Journals.{extend_file, journal_of}
use Rattle.volume_state.specs.Rules.{broken_2}
use Rattle.stream_laws.specs.Replacing.{SameBut, OneFileDiffers}
use Rattle.stream_laws.specs.Rewrites.{with_files}
use Rattle.tree_laws.specs.Keeping.{PartReplaced, is_directory_file}
use Rattle.tree_laws.specs.Parts.{journal_number}
use Rattle.tree_laws.specs.Ways.{IsOutside}

-- no name of another file stands in this one
abbrev pub IsLeaf : ℕ → Table → Type 0
IsLeaf n p = (m : ℕ) → m ≢ n → IsOutside n (links_at p m)

-- those of a file's names that stand in this directory
abbrev pub names_there : FileRef → List Link → List Link
names_there directory links = filter (λ (l : Link). same_reference l.parent directory) links

-- Where rule 2 is kept, a file that is no directory is a leaf, and so is a directory in which no name stands.
pub record LeavesOfVolume : Type 0 where
  pub no_directory : (v : Volume) (n : ℕ) → broken_2 v ≡ None → is_directory_file (file_in v n) ≡ false → IsLeaf n (files_by_number v)
  pub empty : (v : Volume) (n : ℕ) (r : Record) → broken_2 v ≡ None → file_in v n ≡ Some r → names_in (files_by_number v) (reference n r) (count_of v) ≡ 0 → IsLeaf n (files_by_number v)

-- Where a leaf is replaced, rules 2 and 8 and the nodes stay at other numbers, and rule 3 at those directories in which it keeps
-- its names. What a directory leads to stays where none of its names stands there before and after; so does the change journal
-- where none stands in $Extend.
pub record LeafReplaced : Type 0 where
  pub directories : (p q : Table) (n m : ℕ) → SameBut n p q → IsLeaf n p → m ≢ n → keeps_2 q m ≡ keeps_2 p m
  pub way_up : (p q : Table) (n count m : ℕ) → SameBut n p q → IsLeaf n p → m ≢ n → keeps_8 q count m ≡ keeps_8 p count m
  pub index : (c : Content) (v : Volume) (files : List (Option Record)) (upper : List ℕ) (n m : ℕ) (r : Record) → OneFileDiffers n v.files files → m ≢ n → file_in v m ≡ Some r
      → names_there (reference m r) (links_at (table_in files) n) ≡ names_there (reference m r) (links_at (table_in v.files) n) → keeps_index c (with_files v files) upper m ≡ keeps_index c v upper m
  pub kind : (v : Volume) (files : List (Option Record)) (n m : ℕ) (r : Record) → OneFileDiffers n v.files files → IsLeaf n (table_in v.files) → m ≢ n → file_in v m ≡ Some r → kind_in (with_files v files) m r ≡ kind_in v m r
  pub node : (bytes : Option Stream → List ℕ) (v : Volume) (files : List (Option Record)) (n m : ℕ) → OneFileDiffers n v.files files → IsLeaf n (table_in v.files) → m ≢ n → node_at bytes (with_files v files) m ≡ node_at bytes v m
  pub nodes : (bytes : Option Stream → List ℕ) (v : Volume) (files : List (Option Record)) (n : ℕ) → OneFileDiffers n v.files files → IsLeaf n (table_in v.files)
      → PartReplaced (cons_option (node_at bytes v n) []) (cons_option (node_at bytes (with_files v files) n) []) (nodes_by bytes v) (nodes_by bytes (with_files v files))
  pub entry : (old new : List (Option Record)) (n : ℕ) (upper : List ℕ) (directory : ℕ) (name : List ℕ) → OneFileDiffers n old new → IsOutside directory (links_at (table_in old) n) → IsOutside directory (links_at (table_in new) n)
      → look_up upper (all_links (table_in new) (length new)) directory name ≡ look_up upper (all_links (table_in old) (length old)) directory name
  pub no_journal : (v : Volume) (upper : List ℕ) (n : ℕ) → IsOutside extend_file (links_at (files_by_number v) n) → journal_number upper v ≢ Some n
  pub journal : (c : Content) (v : Volume) (files : List (Option Record)) (upper : List ℕ) (n : ℕ) → OneFileDiffers n v.files files → IsOutside extend_file (links_at (table_in v.files) n) → IsOutside extend_file (links_at (table_in files) n)
      → journal_of c upper (with_files v files) ≡ journal_of c upper v

-- A file that is made adds its names and its node.
pub record FileMade : Type 0 where
  pub links : (old new : List (Option Record)) (n : ℕ) → OneFileDiffers n old new → links_at (table_in old) n ≡ [] → PartReplaced [] (links_at (table_in new) n) (all_links (table_in old) (length old)) (all_links (table_in new) (length new))
  pub nodes : (bytes : Option Stream → List ℕ) (v : Volume) (files : List (Option Record)) (n : ℕ) → broken_2 v ≡ None → OneFileDiffers n v.files files → file_in v n ≡ None
      → PartReplaced [] (cons_option (node_at bytes (with_files v files) n) []) (nodes_by bytes v) (nodes_by bytes (with_files v files))

-- A leaf that goes takes its names and its node away.
pub record FileGone : Type 0 where
  pub links : (old new : List (Option Record)) (n : ℕ) → OneFileDiffers n old new → links_at (table_in new) n ≡ [] → PartReplaced (links_at (table_in old) n) [] (all_links (table_in old) (length old)) (all_links (table_in new) (length new))
  pub nodes : (bytes : Option Stream → List ℕ) (v : Volume) (files : List (Option Record)) (n : ℕ) → OneFileDiffers n v.files files → IsLeaf n (table_in v.files) → file_in (with_files v files) n ≡ None
      → PartReplaced (cons_option (node_at bytes v n) []) [] (nodes_by bytes v) (nodes_by bytes (with_files v files))
