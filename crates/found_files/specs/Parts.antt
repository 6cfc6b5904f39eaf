-- What a write of a file asks for, in parts that are looked at one by one.
use Rattle.std.specs.Prelude.{◌≡◌, ℕ, ◌^◌, ◌<◌, ◌≤◌, Option}
use Rattle.record_model.specs.Pairs.{cluster_limit}
use Rattle.file_tree.specs.declared.node.Node.{Node}
use Rattle.state_model.specs.declared.stream.Stream.{Stream}
use Rattle.volume_model.specs.Volumes.{size_or}
use Rattle.volume_model.specs.Nodes.{valid_or, clusters_or}
use Rattle.tree_model.specs.declared.script.Op.{Op}
use Rattle.tree_model.specs.Steps.{IsWithinBounds}
use Rattle.written_made.specs.data_plan.Changes.{GrowsLittle}
use Rattle.written_made.specs.file_puts.declared.streams.VolumeStreams.{VolumeStreams}

-- the node has the sizes and the clusters of this stream, if there is one
pub record ShowsStream (node : Node) (s : Option Stream) : Type 0 where
  pub size : node.size ≡ size_or s
  pub valid : node.valid ≡ valid_or s
  pub clusters : node.clusters ≡ clusters_or s

-- the numbers of the volume, the file and the operation are within what a write asks for
pub record HasNumbers (clusters n : ℕ) (s : VolumeStreams) (op : Op) (node : Node) : Type 0 where
  pub few : clusters ≤ cluster_limit
  pub number : n < 2 ^ 48
  pub bitmap : s.bitmap.initialised < 2 ^ 63
  pub bounds : IsWithinBounds op
  pub little : GrowsLittle op node
  pub valid : node.valid ≤ node.size
