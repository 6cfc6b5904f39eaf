-- An operation that writes or cuts a file is done where its edits have led to the node that the operation leaves.
use Rattle.std.specs.Prelude.{◌≡◌, ℕ, ◌+◌, ◌*◌, ◌≤◌, ◌<◌, max, Bool, true, false, List, take, Option, Some}
use Rattle.plan_informed.specs.record_model.declared.values.StdInfo.{StdInfo}
use Rattle.tree_model.specs.file_tree.declared.node.Node.{Node}
use Rattle.tree_model.specs.file_tree.declared.tree.Tree.{Tree}
use Rattle.plan_informed.specs.state_model.declared.stream.Extents.{Extents}
use Rattle.plan_informed.specs.state_model.declared.stream.Stream.{Stream}
use Rattle.plan_informed.specs.state_model.declared.stream.Stream.TheVariants.{Held, Placed}
use Rattle.plan_informed.specs.state_model.Loads.{total_clusters}
use Rattle.plan_informed.specs.volume_model.Volumes.{size_or}
use Rattle.plan_informed.specs.volume_model.Nodes.{valid_or, clusters_or}
use Rattle.tree_model.specs.declared.script.Op.{Op}
use Rattle.tree_model.specs.declared.script.Op.TheVariants.{Truncate}
use Rattle.tree_model.specs.Needs.{size_after, clusters_for}
use Rattle.tree_model.specs.Effects.{bytes_after, valid_after, clusters_after, MayStand, HasChanged}
use Rattle.plan_informed.specs.plan_model.Informed.{with_info}
use Rattle.plan_informed.specs.resized_streams.Resizing.{shortened}
use Rattle.plan_informed.specs.plan_growth.Trees.{with_data}
use Rattle.plan_changes.specs.Nodes.{NodeBecomes}
use Rattle.plan_changes.specs.Bytes.{GrowsFile, HasSizes}

-- the data of a file after an operation, in its record or not
pub record IsDataAfter (stands : Bool) (op : Op) (a : Node) (shown : Option Stream) (bytes : List ℕ) : Type 0 where
  pub size : size_or shown ≡ size_after op a
  pub valid : valid_or shown ≡ valid_after op a
  pub clusters : clusters_or shown ≡ clusters_after stands op a
  pub reads : bytes ≡ bytes_after op a

-- the file changed at this time, and all else of its standard information stays
pub record Stamps (stamp : ℕ) (a : Node) (info : StdInfo) : Type 0 where
  pub flags : info.flags ≡ a.flags
  pub created : info.created ≡ a.created
  pub modified : info.modified ≡ stamp
  pub changed : info.changed ≡ stamp
  pub read_at : info.read_at ≡ a.read_at

-- Where edits have led to a node with the data after the operation, and with its time, the operation has changed the tree. The data is so
-- where it stands in clusters: it has the sizes after the operation, and the clusters that it had or those that the size needs; or it is
-- cut. And it is so where it stands in the record, and is all initialised.
pub record FileChanged : Type 0 where
  pub done : (stands : Bool) (op : Op) (n stamp most : ℕ) (info : StdInfo) (shown : Option Stream) (bytes : List ℕ) (a : Node) (t u : Tree) → a.number ≡ n → NodeBecomes n a (with_info info (with_data shown bytes a)) t u → IsDataAfter stands op a shown bytes → Stamps stamp a info
      → MayStand stands a → t.room ≤ u.room + most → HasChanged t most op a stamp u
  pub placed : (op : Op) (e : Extents) (bytes : List ℕ) (a : Node) → GrowsFile op a → e.real ≡ size_after op a → e.initialised ≡ valid_after op a → total_clusters e.runs ≡ max a.clusters (clusters_for (size_after op a)) → bytes ≡ bytes_after op a
      → IsDataAfter false op a (Some (Placed e)) bytes
  pub cut : (path : List (List ℕ)) (size : ℕ) (e : Extents) (a : Node) → size < a.size → a.size ≡ e.real → a.valid ≡ e.initialised → e.real ≤ total_clusters e.runs * 4096 → IsDataAfter false (Truncate path size) a (Some (Placed (shortened 8 size e))) (take size a.bytes)
  pub held : (op : Op) (a : Node) → HasSizes a → a.valid ≡ a.size → GrowsFile op a → IsDataAfter true op a (Some (Held (bytes_after op a))) (bytes_after op a)
  pub held_cut : (path : List (List ℕ)) (size : ℕ) (a : Node) → HasSizes a → a.valid ≡ a.size → size < a.size → IsDataAfter true (Truncate path size) a (Some (Held (take size a.bytes))) (take size a.bytes)
