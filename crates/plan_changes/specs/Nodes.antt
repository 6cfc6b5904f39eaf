-- Trees that differ by one node.
use Rattle.std.specs.Prelude.{◌≡◌, ◌≢◌, ℕ, List, Option, Some}
use Rattle.plan_informed.specs.record_model.declared.values.StdInfo.{StdInfo}
use Rattle.tree_model.specs.file_tree.declared.node.Node.{Node}
use Rattle.tree_model.specs.file_tree.declared.tree.Tree.{Tree}
use Rattle.tree_model.specs.file_tree.Trees.{node_at as node_by_number}
use Rattle.plan_informed.specs.state_model.declared.stream.Stream.{Stream}
use Rattle.plan_informed.specs.plan_model.Informed.{with_info, InfoDiffers}
use Rattle.plan_informed.specs.plan_growth.Trees.{with_data, DataDiffers}
use Rattle.plan_informed.specs.plan_values.Trees.{FileDiffers}

-- the trees are the same, but for this node, which becomes another one, and for the room
pub record NodeBecomes (n : ℕ) (a b : Node) (t u : Tree) : Type 0 where
  pub was : node_by_number t.nodes n ≡ Some a
  pub is : node_by_number u.nodes n ≡ Some b
  pub others : (m : ℕ) → m ≢ n → node_by_number u.nodes m ≡ node_by_number t.nodes m
  pub links : u.links ≡ t.links
  pub spare : u.spare ≡ t.spare
  pub count : u.count ≡ t.count
  pub journal : u.journal ≡ t.journal

-- So do the trees in which a node has other data, other standard information, or both. One change behind another is one.
pub record NodesBecome : Type 0 where
  pub itself : (n : ℕ) (a : Node) (t : Tree) → node_by_number t.nodes n ≡ Some a → NodeBecomes n a a t t
  pub shown : (n : ℕ) (shown : Option Stream) (bytes : List ℕ) (a : Node) (t u : Tree) → node_by_number t.nodes n ≡ Some a → DataDiffers n shown bytes t u → NodeBecomes n a (with_data shown bytes a) t u
  pub informed : (n : ℕ) (info : StdInfo) (a : Node) (t u : Tree) → node_by_number t.nodes n ≡ Some a → InfoDiffers n info t u → NodeBecomes n a (with_info info a) t u
  pub changed : (n : ℕ) (info : StdInfo) (shown : Option Stream) (bytes : List ℕ) (a : Node) (t u : Tree) → node_by_number t.nodes n ≡ Some a → FileDiffers n info shown bytes t u → NodeBecomes n a (with_info info (with_data shown bytes a)) t u
  pub behind : (n : ℕ) (a b d : Node) (t u w : Tree) → NodeBecomes n a b t u → NodeBecomes n b d u w → NodeBecomes n a d t w
