-- What is found for an operation on a volume's tree, in the volume.
use Rattle.std.specs.Prelude.{◌≡◌, ℕ, Bool, true, List, Some, None, Ok}
use Rattle.host_base.specs.declared.file_ref.FileRef.{FileRef}
use Rattle.disk_model.specs.Content.{Content}
use Rattle.record_model.specs.Records.{Record}
use Rattle.file_tree.specs.declared.node.Node.{Node}
use Rattle.file_tree.specs.Trees.{node_at as node_by_number, is_directory_kind, without_bytes}
use Rattle.file_puts.specs.state_model.declared.geometry.Geometry.{Geometry}
use Rattle.file_puts.specs.volume_model.Volumes.{Volume, upper_of}
use Rattle.file_puts.specs.volume_state.Trees.{tree_of}
use Rattle.tree_model.specs.declared.script.Op.{Op}
use Rattle.tree_model.specs.declared.script.Op.TheVariants.{Create}
use Rattle.tree_model.specs.Needs.{changes_file}
use Rattle.tree_model.specs.Refusals.{parent_path, new_name}
use Rattle.tree_model.specs.Walks.{reached_directory}
use Rattle.tree_model.specs.Effects.{numbers_to_take, least_ref}
use Rattle.change_lookup.specs.declared.found.Found.{Found}
use Rattle.change_lookup.specs.declared.found.Found.TheVariants.{File, Place}
use Rattle.change_lookup.specs.Comes.{is_file_change, ComesTo}
use Rattle.file_puts.specs.plan_owners.States.{Stands}
use Rattle.file_puts.specs.plan_changes.Files.{IsChangeable}

-- A content without a change journal, of eight sectors a cluster, and an operation that makes, writes or cuts a file.
pub record HasChange (c : Content) (g : Geometry) (clusters : ℕ) (v : Volume) (op : Op) : Type 0 where
  pub stands : Stands c g clusters v
  pub eight : g.per_cluster ≡ 8
  pub journal : (tree_of c v).journal ≡ None
  pub changes : is_file_change op ≡ true

-- what the operation comes to on the tree of the content
abbrev pub Finds : Content → Volume → Op → Found → Type 0
Finds c v op found = ComesTo (upper_of c v) op (tree_of c v) found

-- The file that was found, with its bytes: its data can be changed.
pub record IsFileFound (c : Content) (v : Volume) (op : Op) (node : Node) (changes : Bool) : Type 0 where
  pub r : Record
  pub a : Node
  pub changeable : IsChangeable c v node.number r a
  pub bare : node ≡ without_bytes a
  pub same : changes ≡ changes_file op a

-- The directory that was found, with its bytes, and the name and the number of the new file.
pub record IsPlaceFound (c : Content) (v : Volume) (path : List (List ℕ)) (directory : Node) (name : List ℕ) (number : FileRef) : Type 0 where
  pub a : Node
  pub walked : reached_directory (upper_of c v) (tree_of c v).nodes (tree_of c v).links (parent_path path) ≡ Ok a
  pub node : node_by_number (tree_of c v).nodes directory.number ≡ Some a
  pub is_directory : is_directory_kind a.kind ≡ true
  pub bare : directory ≡ without_bytes a
  pub named : name ≡ new_name path
  pub least : least_ref (numbers_to_take (tree_of c v)) ≡ Some number

-- What is found is there.
pub record FoundIsThere : Type 0 where
  pub file : (c : Content) (g : Geometry) (clusters : ℕ) (v : Volume) (op : Op) (node : Node) (changes : Bool) → HasChange c g clusters v op → Finds c v op (File node changes) → IsFileFound c v op node changes
  pub place : (c : Content) (g : Geometry) (clusters : ℕ) (v : Volume) (op : Op) (directory : Node) (name : List ℕ) (number : FileRef) → HasChange c g clusters v op → Finds c v op (Place directory name number)
      → (path : List (List ℕ)) × (op ≡ Create path) × IsPlaceFound c v path directory name number
