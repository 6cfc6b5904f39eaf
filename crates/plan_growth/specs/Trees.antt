-- The tree where a stream of one file comes to have other clusters or sizes.
use Rattle.std.specs.Prelude.{◌≡◌, ◌≢◌, ℕ, List, Option}
use Rattle.std.specs.Option.{option_map}
use Rattle.plan_model.specs.disk_model.Content.{Content}
use Rattle.plan_model.specs.record_model.Records.{Record}
use Rattle.plan_model.specs.file_tree.declared.node.Node.{Node}
use Rattle.plan_model.specs.file_tree.declared.tree.Tree.{Tree}
use Rattle.plan_model.specs.file_tree.Trees.{node_at as node_by_number}
use Rattle.plan_model.specs.state_model.declared.stream.Stream.{Stream}
use Rattle.plan_model.specs.volume_model.Volumes.{Volume, bytes_or, size_or}
use Rattle.plan_model.specs.volume_model.Nodes.{valid_or, clusters_or, kind_in, data_shown}
use Rattle.plan_model.specs.volume_state.Trees.{tree_of}
use Rattle.plan_model.specs.Informed.{with_record}

-- the node with this data, of these bytes
abbrev pub with_data : Option Stream → List ℕ → Node → Node
with_data shown bytes a = record {
  number = a.number;
  seq = a.seq;
  kind = a.kind;
  why = a.why;
  held = a.held;
  size = size_or shown;
  valid = valid_or shown;
  clusters = clusters_or shown;
  bytes = bytes;
  flags = a.flags;
  created = a.created;
  modified = a.modified;
  changed = a.changed;
  read_at = a.read_at;
}

-- the trees are the same, but for the data of this node and for the room
pub record DataDiffers (n : ℕ) (shown : Option Stream) (bytes : List ℕ) (t u : Tree) : Type 0 where
  pub node : node_by_number u.nodes n ≡ option_map (with_data shown bytes) (node_by_number t.nodes n)
  pub others : (m : ℕ) → m ≢ n → node_by_number u.nodes m ≡ node_by_number t.nodes m
  pub links : u.links ≡ t.links
  pub spare : u.spare ≡ t.spare
  pub count : u.count ≡ t.count
  pub journal : u.journal ≡ t.journal

-- what the node showed is shown of its record as it now is
abbrev pub TreeFollows : Content → Content → Volume → ℕ → Record → Record → Type 0
TreeFollows c d v n r s = DataDiffers n (data_shown (kind_in v n r) s) (bytes_or d v.per (data_shown (kind_in v n r) s)) (tree_of c v) (tree_of d (with_record v n s))
