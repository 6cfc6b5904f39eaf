-- A file's own names among all names of a volume, and which files are those of the volume itself.
use Rattle.std.specs.Prelude.{◌≡◌, ℕ, Bool, not, ◌&&◌, ◌==◌, List, length, Option, Some}
use Rattle.std.specs.List.{filter}
use Rattle.disk_model.specs.Content.{Content}
use Rattle.tree_laws.specs.record_model.Records.{Record}
use Rattle.file_tree.specs.declared.tree.Tree.{Tree}
use Rattle.file_tree.specs.Trees.{is_of, long_names_of}
use Rattle.file_tree.specs.Walks.{root}
use Rattle.tree_model.specs.Refusals.{parent_of, is_system_node}
use Rattle.tree_laws.specs.state_model.declared.stream.Stream.{Stream}
use Rattle.tree_laws.specs.state_model.Files.{links_at, record_links, is_directory_record}
use Rattle.tree_laws.specs.state_model.Loads.{table_in}
use Rattle.tree_laws.specs.state_model.Rules.{long_count}
use Rattle.tree_laws.specs.state_model.Trees.{parent_at, is_system, all_links}
use Rattle.tree_laws.specs.volume_model.Volumes.{Volume, files_by_number, count_of, file_in}
use Rattle.tree_laws.specs.volume_model.Nodes.{node_by}
use Rattle.tree_laws.specs.volume_state.Trees.{Holds}

-- The names of a file among those of all are its own, in their order: so many of them are long, and the first one says its directory.
pub record NamesByFile : Type 0 where
  pub own : (files : List (Option Record)) (n : ℕ) → filter (is_of n) (all_links (table_in files) (length files)) ≡ links_at (table_in files) n
  pub long : (files : List (Option Record)) (n : ℕ) → long_names_of (all_links (table_in files) (length files)) n ≡ long_count (links_at (table_in files) n)
  pub parent : (files : List (Option Record)) (n : ℕ) → parent_of (all_links (table_in files) (length files)) n ≡ parent_at (table_in files) n

-- a file of the volume itself, other than the root where that is a directory
unfoldable pub is_own_file : Volume → ℕ → Record → Bool
is_own_file v n r = not (is_directory_record r && n == root) && is_system (files_by_number v) (count_of v) n (record_links n r)

-- In a tree that a volume stands for, a climb over nodes and names alone says of a node whether its file is one of the volume itself.
abbrev pub SystemByNames : Type 0
SystemByNames = (bytes : Option Stream → List ℕ) (c : Content) (v : Volume) (t : Tree) (n : ℕ) (r : Record) → Holds c v t → file_in v n ≡ Some r → is_system_node t.nodes t.links (node_by bytes v n r) ≡ is_own_file v n r
