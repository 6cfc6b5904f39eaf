-- The nodes of a volume where a file that keeps its names is replaced.
use Rattle.std.specs.Prelude.{◌≡◌, ◌≢◌, ℕ, List, [], Option}
use Rattle.std.specs.List.{cons_option}
use Rattle.volume_state.specs.record_model.Records.{Record}
use Rattle.volume_state.specs.file_tree.declared.link.Link.{Link}
use Rattle.volume_state.specs.file_tree.Trees.{node_at as node_by_number}
use Rattle.volume_state.specs.state_model.declared.stream.Stream.{Stream}
use Rattle.volume_state.specs.state_model.Files.{Table}
use Rattle.volume_state.specs.state_model.Loads.{table_in}
use Rattle.volume_state.specs.state_model.Trees.{parent_at, leads, is_in_system, is_system}
use Rattle.volume_state.specs.volume_model.Volumes.{Volume, file_in}
use Rattle.volume_state.specs.volume_model.Nodes.{kind_in, some_node, node_at, nodes_by}
use Rattle.stream_laws.specs.Replacing.{SameBut, OneFileDiffers}
use Rattle.stream_laws.specs.Rewrites.{with_files}
use Rattle.tree_laws.specs.Keeping.{PartReplaced, KeepsNames}

-- The way up from each file stays, and so does what it says of the file. Other files keep their nodes, and the replaced one
-- has the node of its new record at its old place; whatever gives the bytes of nodes.
pub record NodeReplaced : Type 0 where
  pub parent : (p q : Table) (n m : ℕ) → SameBut n p q → KeepsNames n p q → parent_at q m ≡ parent_at p m
  pub way_up : (p q : Table) (n most m : ℕ) → SameBut n p q → KeepsNames n p q → leads q most m ≡ leads p most m
  pub in_system : (p q : Table) (n most m : ℕ) → SameBut n p q → KeepsNames n p q → is_in_system q most m ≡ is_in_system p most m
  pub of_system : (p q : Table) (n count m : ℕ) (links : List Link) → SameBut n p q → KeepsNames n p q → is_system q count m links ≡ is_system p count m links
  pub kind : (v : Volume) (files : List (Option Record)) (n m : ℕ) (r : Record) → OneFileDiffers n v.files files → KeepsNames n (table_in v.files) (table_in files) → kind_in (with_files v files) m r ≡ kind_in v m r
  pub node : (bytes : Option Stream → List ℕ) (v : Volume) (files : List (Option Record)) (n m : ℕ) → OneFileDiffers n v.files files → KeepsNames n (table_in v.files) (table_in files) → m ≢ n
      → node_at bytes (with_files v files) m ≡ node_at bytes v m
  pub replaced : (bytes : Option Stream → List ℕ) (v : Volume) (files : List (Option Record)) (n : ℕ) → OneFileDiffers n v.files files → KeepsNames n (table_in v.files) (table_in files)
      → node_at bytes (with_files v files) n ≡ some_node bytes v n (file_in (with_files v files) n)
  pub nodes : (bytes : Option Stream → List ℕ) (v : Volume) (files : List (Option Record)) (n : ℕ) → OneFileDiffers n v.files files → KeepsNames n (table_in v.files) (table_in files)
      → PartReplaced (cons_option (node_at bytes v n) []) (cons_option (node_at bytes (with_files v files) n) []) (nodes_by bytes v) (nodes_by bytes (with_files v files))

-- The nodes of a volume, looked up by number, are those of its files.
abbrev pub NodesByNumber : Type 0
NodesByNumber = (bytes : Option Stream → List ℕ) (v : Volume) (n : ℕ) → node_by_number (nodes_by bytes v) n ≡ node_at bytes v n
